use Rattle.std.proofs.Common.{◌≡◌, ◌∙◌, ap}
use Rattle.std.proofs.lemmas.Result.{err_from_is_err_and}
use Rattle.refusals.specs.declared.Refusal.{Refusal}
use Rattle.refusals.specs.Answers.{refused}
use Rattle.refusals.specs.Told.{told_refusal, told}
use Rattle.table_calls.specs.CallLaws.{form_right_lem, table_held}
use Rattle.engine.specs.AnswerLaws.{refused_change, made_change}
use Rattle.engine.proofs.change_to.Goals as goal

pub returns-in_err-change : goal.returns-in_err-change
returns-in_err-change g c =
    let (why, is_err, is_why) = err_from_is_err_and c.from_residual-in_err-change.result c.from_residual-in_err-change.ensures.1 in
    let e : told c.from_residual-in_err-change.result ≡ refused (told_refusal c.in_err-change.field-0.0.why) = ap told is_err ∙ ap (λ (r : Refusal). refused (told_refusal r)) is_why in
    let r = c.read.ensures in
    let h = c.in_ok-read.was in
    λ answer new given.
    let (told_is, out-is) = refused_change (goal.F-post g c.args.change) _ c.args.out.now (form_right_lem _ (r.outcome, r.table) h) (table_held _ (r.outcome, r.table) h) c.change.ensures c.in_err-change.was answer new given in
    (e ∙ told_is, out-is)

pub returns : goal.returns
returns g c =
    let w = c.table_written.ensures in
    let r = c.read.ensures in
    let h = c.in_ok-read.was in
    λ answer new given.
    let (told_is, out-is) = made_change (goal.F-post g c.args.change) _ c.args.out.now (form_right_lem _ (r.outcome, r.table) h) (table_held _ (r.outcome, r.table) h) c.change.ensures c.in_ok-change.was answer new given in
    (w.answer ∙ told_is, w.out ∙ out-is)

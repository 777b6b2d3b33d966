-- `viewing::answer` meets its contract: the steps in their order, the last one where those before it passed.
use mathlib.Core.Path.{sym, ◌∙◌, ap}
use lib.ListN.{length}
use Rattle.refusals.specs.Answers.{refused}
use Rattle.refusals.specs.Told.{told, told_refusal}
use Rattle.std.proofs.Common.{rules, ◌≡◌}
use Rattle.refusals.specs.AnswerLaws.{then_right, then_refused}
use Rattle.pictures.specs.PictureLaws.{room_answer, sized_then}
use Rattle.view_precision.specs.Bounds.{view_verdict}
use Rattle.viewing.specs.Calls.{view_answer_of}
use Rattle.viewing.proofs.CallLaws.{table_first}
use Rattle.viewing.proofs.CallStepLaws.{lookable}
use Rattle.viewing.proofs.answer.Goals as goal

pub coefficients_right-requires : goal.coefficients_right-requires
coefficients_right-requires c =
    let a = c.args in
    lookable a.table a.w a.h a.plane.now a.first a.third (sym c.judge.ensures ∙ ap told c.in_ok-judge.was) (sym c.room_right.ensures ∙ ap told c.in_ok-room_right.was)

pub returns-in_err-judge : goal.returns-in_err-judge
returns-in_err-judge c =
    let a = c.args in
    let e : told c.from_residual.result ≡ refused (told_refusal c.in_err-judge.field-0.0) = search rules in
    e ∙ sym (table_first a.table a.w a.h a.plane.now a.first a.third _ (sym c.judge.ensures ∙ ap told c.in_err-judge.was))

pub returns-in_err-room_right : goal.returns-in_err-room_right
unfolding view_answer_of
returns-in_err-room_right c =
    let a = c.args in
    let e : told c.from_residual-in_err-room_right.result ≡ refused (told_refusal c.in_err-room_right.field-0.0) = search rules in
    e ∙ sym (then_right (view_verdict a.table) _ (sym c.judge.ensures ∙ ap told c.in_ok-judge.was)
    ∙ sized_then a.w a.h a.first (length a.plane.now) a.third _
    ∙ then_refused (room_answer a.w a.h a.first (length a.plane.now) a.third) _ _ (sym c.room_right.ensures ∙ ap told c.in_err-room_right.was))

pub returns : goal.returns
unfolding view_answer_of
returns c =
    let a = c.args in
    c.coefficients_right.ensures
    ∙ sym (then_right (view_verdict a.table) _ (sym c.judge.ensures ∙ ap told c.in_ok-judge.was)
    ∙ sized_then a.w a.h a.first (length a.plane.now) a.third _
    ∙ then_right (room_answer a.w a.h a.first (length a.plane.now) a.third) _ (sym c.room_right.ensures ∙ ap told c.in_ok-room_right.was))

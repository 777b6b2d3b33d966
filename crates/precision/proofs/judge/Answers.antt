use mathlib.Core.Path.{◌≡◌, sym, ◌∙◌}
use Rattle.std.proofs.Common.{rules}
use Rattle.refusals.specs.Answers.{refused}
use Rattle.refusals.specs.Told.{told, told_refusal}
use Rattle.precision.specs.OrderLaws.{not_formed, formed}
use Rattle.precision.proofs.judge.Goals as goal

pub returns-then-not-form_right : goal.returns-then-not-form_right
returns-then-not-form_right c = sym (not_formed c.args.table (sym c.form_right.ensures ∙ c.if-not-form_right.true))

pub returns-in_err-enter_level : goal.returns-in_err-enter_level
returns-in_err-enter_level c =
    let e : told c.from_residual.result ≡ refused (told_refusal c.in_err-enter_level.field-0.0) = search rules in
    e ∙ c.in_err-enter_level.ensures.outcome ∙ sym (formed c.args.table (sym c.form_right.ensures ∙ c.if-not-form_right.false))

pub returns : goal.returns
returns c = c.in_ok-enter_level.ensures.outcome ∙ sym (formed c.args.table (sym c.form_right.ensures ∙ c.if-not-form_right.false))

use Prim.Native.Nat.{◌+◌}
use mathlib.Core.Path.{◌≡◌, refl, sym, ◌∙◌}
use native.Mathlib.Omega.{arith}
use Rattle.std.proofs.Common.{rules}
use Rattle.refusals.specs.Answers.{passed, refused, ◌then◌}
use Rattle.refusals.specs.Told.{told, told_refusal}
use Rattle.precision.specs.Verdict.{first_refusal}
use Rattle.precision.specs.OrderLaws.{enters_first, enters_next, level_refused, level_accepted}
use Rattle.precision.proofs.enter_level.Goals as goal

pub loop-before-init : goal.loop-before-init
unfolding first_refusal
loop-before-init c = (omega arith, enters_first c.args.table.now, omega arith, refl)

pub returns-in_err-input-clause-outcome : goal.returns-in_err-input-clause-outcome
returns-in_err-input-clause-outcome c =
    let e : told c.from_residual.result then passed ≡ refused (told_refusal c.in_err-input.field-0.0) = search rules in
    e ∙ sym (level_refused c.args.table.now _ c.loop-before.before c.args.done (omega arith) c.loop-before.invariant.3 (sym c.in_err-input.ensures.outcome))

pub loop-before-preserved : goal.loop-before-preserved
loop-before-preserved c =
    let t = c.args.table.now in
    let next = c.in_ok-input.ensures.bound in
    (omega arith, next.is ∙ enters_next t (c.loop-before.before + 1) (omega arith), next.small, level_accepted t c.loop-before.before c.loop-before.invariant.3 (sym c.in_ok-input.ensures.outcome))

-- `inverse_lifting::outer_step` meets its contract: its steps leave two runs in `line`, and no, one or both of them are copied.
use native.Mathlib.Omega.{arith}
use lib.IntN.{pos}
use Rattle.inverse_lifting.specs.StripSteps.{outer_step_lem, outer_one, outer_two}
use Rattle.inverse_lifting.proofs.outer_step.Goals as goal

pub steps-requires : goal.steps-requires
steps-requires c = outer_step_lem c.requires _ _ (omega arith) (omega (arith, c.requires.placed.spare))

pub returns-then-i-s : goal.returns-then-i-s
returns-then-i-s c = outer_two c.steps.ensures _ _ (omega (arith, c.requires.placed.narrow)) (omega (arith, c.if-i-lt2.false)) c.if-i-s.true (c.copy_run.ensures (pos 0)) (c.copy_run-then-i-s.ensures (pos 0))

pub returns-else-i-s : goal.returns-else-i-s
returns-else-i-s c = outer_one c.steps.ensures _ _ (omega (arith, c.if-i-lt2.false)) (omega (arith, c.if-i-s.false)) (c.copy_run.ensures (pos 0))

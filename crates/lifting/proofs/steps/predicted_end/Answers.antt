-- `lifting::steps::predicted_end` meets its contract.
use borrow.Author.Rules.{rules}
use lib.IntN.{◌-ℤ◌}
use mir.Syntax.{w32}
use mir.Val.{SFits}
use Rattle.lifting.specs.declared.Step.TheVariants.{Predict}
use Rattle.lifting.specs.Ends.{ended_fits}
use Rattle.lifting.proofs.Signed.{signed}
use Rattle.lifting.proofs.steps.predicted_end.Goals as goal

result : (c : goal.Start) → SFits w32 (c.args.own -ℤ c.args.x)
result c = ended_fits Predict c.args.own c.args.x c.requires.result

pub overflow_sub-result : goal.overflow_sub-result
overflow_sub-result c = let f = result c in search rules

pub returns : goal.returns
returns c = let f = result c in search signed

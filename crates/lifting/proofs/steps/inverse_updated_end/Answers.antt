-- `lifting::steps::inverse_updated_end` meets its contract.
use borrow.Author.Rules.{rules}
use lib.IntN.{pos, ◌+ℤ◌, ◌-ℤ◌}
use mir.Syntax.{w32}
use mir.Val.{SFits}
use Rattle.lifting.specs.declared.Step.TheVariants.{InverseUpdate}
use Rattle.lifting.specs.Steps.{half}
use Rattle.lifting.specs.Ends.{ended_fits, more_fits}
use Rattle.lifting.proofs.Signed.{signed}
use Rattle.lifting.proofs.steps.inverse_updated_end.Goals as goal

more : (c : goal.Start) → SFits w32 (c.args.x +ℤ pos 1)
more c = more_fits c.args.x c.requires.sides

result : (c : goal.Start) → SFits w32 (c.args.own -ℤ half (c.args.x +ℤ pos 1))
result c = ended_fits InverseUpdate c.args.own c.args.x c.requires.result

pub overflow_add-result : goal.overflow_add-result
overflow_add-result c = let m = more c in search rules

pub overflow_sub-result : goal.overflow_sub-result
overflow_sub-result c = let m = more c in let f = result c in search signed

pub returns : goal.returns
returns c = let m = more c in let f = result c in search signed

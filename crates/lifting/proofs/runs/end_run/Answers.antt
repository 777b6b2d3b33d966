-- `lifting::runs::end_run` meets its contract.
use mathlib.Core.Path.{◌∙◌}
use borrow.Author.Rules.{rules}
use Rattle.lifting.specs.Ends.{ended_is}
use Rattle.lifting.specs.Made.{made_is}
use Rattle.lifting.proofs.runs.end_run.Goals as goal

pub returns : goal.returns
returns c = made_is c.run.ensures _ (λ j r h p. (search rules) ∙ ended_is c.args.step _ _)

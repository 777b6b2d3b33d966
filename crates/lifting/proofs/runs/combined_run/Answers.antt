-- `lifting::runs::combined_run` meets its contract.
use mathlib.Core.Path.{ap}
use mathlib.Core.Bool.{Bool}
use borrow.Author.Rules.{rules}
use Rattle.lifting.specs.Forms.{combined_step}
use Rattle.lifting.proofs.Turn.{run_made}
use Rattle.lifting.proofs.runs.combined_run.Goals as goal

pub returns-then-down : goal.returns-then-down
returns-then-down c = run_made _ _ (ap (λ (down : Bool). combined_step down c.args.form) c.if-down.true) c.run.ensures (λ j v h p. search rules)

pub returns-else-down : goal.returns-else-down
returns-else-down c = run_made _ _ (ap (λ (down : Bool). combined_step down c.args.form) c.if-down.false) c.run-else-down.ensures (λ j v h p. search rules)

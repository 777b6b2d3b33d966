-- `lifting::runs::lift_run` meets its contract: in each arm the step is the one that the arm takes.
use borrow.Author.Rules.{rules}
use Rattle.lifting.proofs.Read.{scaled_back, cut_back}
use Rattle.lifting.proofs.Turn.{run_made}
use Rattle.lifting.proofs.runs.lift_run.Goals as goal

pub returns-in-Predict : goal.returns-in-Predict
returns-in-Predict c = run_made _ _ c.in-Predict.is c.run.ensures (λ j v h p. search rules)

pub returns-in-Update : goal.returns-in-Update
returns-in-Update c = run_made _ _ c.in-Update.is c.run-in-Update.ensures (λ j v h p. search rules)

pub returns-in-InversePredict : goal.returns-in-InversePredict
returns-in-InversePredict c = run_made _ _ c.in-InversePredict.is c.run-in-InversePredict.ensures (λ j v h p. search rules)

pub returns-in-InverseUpdate : goal.returns-in-InverseUpdate
returns-in-InverseUpdate c = run_made _ _ c.in-InverseUpdate.is c.run-in-InverseUpdate.ensures (λ j v h p. search rules)

pub returns-in-Scaled : goal.returns-in-Scaled
returns-in-Scaled c = run_made _ _ (scaled_back (search rules) c.in-Scaled.is) c.run-in-Scaled.ensures (λ j v h p. search rules)

pub returns-in-Cut : goal.returns-in-Cut
returns-in-Cut c = run_made _ _ (cut_back (search rules) c.in-Cut.is) c.run-in-Cut.ensures (λ j v h p. search rules)

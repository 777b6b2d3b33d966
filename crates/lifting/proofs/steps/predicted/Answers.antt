-- `lifting::steps::predicted` meets its contract.
use Rattle.lifting.proofs.Signed.{signed}
use Rattle.lifting.proofs.steps.predicted.Goals as goal

pub overflow_sub-result : goal.overflow_sub-result
overflow_sub-result c = search signed

pub returns : goal.returns
returns c = search signed

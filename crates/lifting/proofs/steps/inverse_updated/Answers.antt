-- `lifting::steps::inverse_updated` meets its contract.
use Rattle.lifting.proofs.Signed.{signed}
use Rattle.lifting.proofs.steps.inverse_updated.Goals as goal

pub overflow_sub-result : goal.overflow_sub-result
overflow_sub-result c = search signed

pub returns : goal.returns
returns c = search signed

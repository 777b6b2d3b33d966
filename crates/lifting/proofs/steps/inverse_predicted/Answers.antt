-- `lifting::steps::inverse_predicted` meets its contract.
use Rattle.lifting.proofs.Signed.{signed}
use Rattle.lifting.proofs.steps.inverse_predicted.Goals as goal

pub overflow_add-result-2 : goal.overflow_add-result-2
overflow_add-result-2 c = search signed

pub returns : goal.returns
returns c = search signed

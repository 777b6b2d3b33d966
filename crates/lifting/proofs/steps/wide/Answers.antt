-- `lifting::steps::wide` meets its contract.
use Rattle.lifting.proofs.Signed.{signed}
use Rattle.lifting.proofs.steps.wide.Goals as goal

pub overflow_cast-result : goal.overflow_cast-result
overflow_cast-result c = search signed

pub returns : goal.returns
returns c = search signed

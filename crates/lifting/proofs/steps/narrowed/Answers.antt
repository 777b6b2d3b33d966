-- `lifting::steps::narrowed` meets its contract.
use Rattle.lifting.proofs.Signed.{signed}
use Rattle.lifting.proofs.steps.narrowed.Goals as goal

pub overflow_cast-result-2 : goal.overflow_cast-result-2
overflow_cast-result-2 c = search signed

pub returns : goal.returns
returns c = search signed

-- `lifting::steps::shifted` meets its contract.
use Rattle.lifting.proofs.Signed.{signed}
use Rattle.lifting.proofs.steps.shifted.Goals as goal

pub returns : goal.returns
returns c = search signed

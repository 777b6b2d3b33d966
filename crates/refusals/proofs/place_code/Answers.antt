-- `refusals::place_code` meets its contract: level, pass and node in rising bytes.
use native.Mathlib.Omega.{arith}
use Rattle.refusals.proofs.place_code.Goals as goal

pub returns : goal.returns
returns c = (omega arith, omega arith)

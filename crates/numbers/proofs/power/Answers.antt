-- `numbers::power` meets its contract: the shift loses nothing.
use native.Mathlib.Omega.{arith}
use lib.Pow.{shl_exact}
use Rattle.numbers.proofs.power.Goals as goal

pub returns : goal.returns
returns c = omega (arith, shl_exact {a = 1} 1 c.args.bits 64 (omega arith) (omega arith))

-- `lifting::steps::scaled_up` meets its contract.
use Prim.Native.Nat.{◌^◌}
use lib.Pow.{pow_pos}
use mir.Syntax.{w32}
use Rattle.lifting.proofs.Signed.{shl_back}
use Rattle.lifting.proofs.steps.scaled_up.Goals as goal

pub returns : goal.returns
returns c = shl_back w32 c.args.own (2 ^ c.args.rise) (pow_pos c.args.rise) c.requires.1

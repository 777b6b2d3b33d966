-- `rolling_lines::five_bits` meets its contract: a look over the values' bits.
use native.Mathlib.Omega.{arith}
use Rattle.slices.specs.Patch.{at}
use Rattle.rolling_lines.specs.SoundLaws.{tells_five}
use Rattle.rolling_lines.proofs.five_bits.Goals as goal

pub returns : goal.returns
returns c =
    let a = c.args in
    tells_five (at a.held.now) a.w a.from a.n a.lines a.bits _ c.part_of_bits.ensures

pub part_of_bits-requires : goal.part_of_bits-requires
part_of_bits-requires c = (omega (arith, c.requires.0), c.requires.1)

use Rattle.width_table.specs.Readers.{fraction_bits_at}
use Rattle.width_table.proofs.WidthTable.fraction_bits.Goals as goal

pub returns : goal.returns
unfolding fraction_bits_at
returns c = c.node_number.ensures

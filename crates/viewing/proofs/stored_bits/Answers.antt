-- `viewing::stored_bits` meets its contract: what is read of the table, in 32 bits.
use Rattle.fixed_stages.specs.LevelBits.{fraction_is}
use Rattle.viewing.proofs.stored_bits.Goals as goal

pub returns : goal.returns
returns c = fraction_is c.args.table c.args.level c.requires.0 c.args.pass c.requires.1 c.args.node c.requires.2 c.fraction_bits.ensures

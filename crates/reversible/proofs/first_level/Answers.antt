-- `reversible::first_level` meets its contract: samples of a picture keep each step inside its type.
use native.Mathlib.Omega.{arith}
use Rattle.reversible.specs.Preconditions.{first_rows}
use Rattle.reversible.proofs.first_level.Goals as goal

pub rows_from-requires : goal.rows_from-requires
rows_from-requires c = first_rows c.requires _ _ (omega arith) (omega arith) c.first_columns.ensures

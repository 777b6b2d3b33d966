-- In each arm the passes are those of the arm's order, and values of the size asked give both room.
use native.Mathlib.Omega.{arith}
use Rattle.reversible_back.specs.Preconditions.{back_columns, back_rows, first_back, then_back_columns, then_back_rows}
use Rattle.reversible_back.proofs.level_back.Goals as goal

pub columns_from-requires : goal.columns_from-requires
columns_from-requires c = back_columns (then_back_columns c.requires _ _ (omega arith) (omega arith) c.rows_from.ensures)

pub rows_from-requires-in-RowsFirst : goal.rows_from-requires-in-RowsFirst
rows_from-requires-in-RowsFirst c = back_rows (then_back_rows c.requires _ _ (omega arith) (omega arith) c.columns_from-in-RowsFirst.ensures)

pub rows_from-requires : goal.rows_from-requires
rows_from-requires c = back_rows (first_back c.requires)

pub columns_from-requires-in-RowsFirst : goal.columns_from-requires-in-RowsFirst
columns_from-requires-in-RowsFirst c = back_columns (first_back c.requires)

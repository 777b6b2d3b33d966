-- `reversible::level_forward` meets its contract: values of the size asked give both passes room.
use mathlib.Core.Path.{ap, ◌∙◌}
use native.Mathlib.Omega.{arith}
use Rattle.reversible.specs.Sizes.{forward_kernel}
use Rattle.reversible.specs.LevelLaws.{rows_from}
use Rattle.reversible.specs.Preconditions.{forward_columns, forward_rows_lem, first_forward, then_forward_rows}
use Rattle.reversible.proofs.level_forward.Goals as goal

pub rows_from-requires : goal.rows_from-requires
rows_from-requires c = forward_rows_lem (then_forward_rows c.requires _ _ (omega arith) (omega arith) c.columns_from.ensures)

pub returns : goal.returns
returns c = c.rows_from.ensures ∙ ap (rows_from forward_kernel _ _ _) c.columns_from.ensures

pub columns_from-requires : goal.columns_from-requires
columns_from-requires c = forward_columns (first_forward c.requires)

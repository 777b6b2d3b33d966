-- The order of a copy's levels as the code names it.
use Rattle.reversible_back.specs.declared.CopyOrder.{CopyOrder}
use Rattle.reversible_back.specs.declared.CopyOrder.TheVariants.{ColumnsFirst, RowsFirst}
use Rattle.reversible.specs.Reversible.{Order, columns_first, rows_first}

-- what was worked first, then the other
abbrev pub order_of : CopyOrder → Order
order_of ColumnsFirst = columns_first
order_of RowsFirst = rows_first

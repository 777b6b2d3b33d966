use mathlib.Core.Bool.{true, false}
use native.Mathlib.Omega.{arith}
use Rattle.width_table.specs.Lists.{FullLists}
use Rattle.table_bytes.specs.WriteLaws.{five_put, all_put}
use Rattle.table_bytes.proofs.put_table.Goals as goal

pub returns-then-table : goal.returns-then-table
returns-then-table c =
    let sized : FullLists c.args.table = record { constants = omega arith; nodes = omega arith; products = omega arith } in
    all_put c.args.table sized true c.if-table.true c.args.lent.now _ (five_put c.args.table sized c.requires.0 c.args.lent.now _ _ c.put_four.ensures c.put_field.ensures)

pub returns-else-table : goal.returns-else-table
returns-else-table c =
    let sized : FullLists c.args.table = record { constants = omega arith; nodes = omega arith; products = omega arith } in
    all_put c.args.table sized false c.if-table.false c.args.lent.now _ c.put_four.ensures

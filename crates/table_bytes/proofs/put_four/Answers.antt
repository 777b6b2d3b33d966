use native.Mathlib.Omega.{arith}
use Rattle.width_table.specs.Lists.{FullLists}
use Rattle.table_bytes.specs.WriteLaws.{four_put}
use Rattle.table_bytes.proofs.put_four.Goals as goal

pub returns : goal.returns
returns c =
    let sized : FullLists c.args.table = record { constants = omega arith; nodes = omega arith; products = omega arith } in
    four_put c.args.table sized c.args.lent.now _ _ _ _ c.put_field.ensures c.put_field-2.ensures c.put_field-3.ensures c.put_field-4.ensures

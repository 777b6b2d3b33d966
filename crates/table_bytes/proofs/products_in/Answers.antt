use mathlib.Core.Path.{sym, ◌∙◌, ap}
use mathlib.Core.Bool.{Bool}
use native.Mathlib.Omega.{arith}
use Rattle.width_table.specs.Table.{max_levels}
use Rattle.width_table.specs.Lists.{product_bytes}
use Rattle.table_bytes.specs.Bytes.{products_in}
use Rattle.table_bytes.specs.BytesLaws.{levels_most}
use Rattle.table_bytes.specs.ReadLaws.{over_zeros}
use Rattle.table_bytes.proofs.products_in.Goals as goal

pub put-requires : goal.put-requires
put-requires c = omega (arith, c.value_in.ensures.1, levels_most c.args.bytes.now c.requires)

pub returns : goal.returns
returns c =
    let b = c.args.bytes.now in
    over_zeros (product_bytes max_levels) _ _ _ _ c.put.ensures c.value_in.ensures
    ∙ sym (ap (λ (has_products : Bool). products_in has_products b) (sym c.has_fifth.ensures ∙ c.if-not-has_fifth.false))

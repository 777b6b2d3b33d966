use Prim.Native.Nat.{ℕ}
use mathlib.Core.Path.{◌≡◌, ◌∙◌, ap}
use mathlib.Core.Bool.{Bool}
use mathlib.Core.List.{List, append-nil}
use native.Mathlib.Omega.{arith}
use lib.ListN.{get_or}
use Rattle.width_table.specs.declared.WidthTable.{WidthTable}
use Rattle.width_table.specs.Nodes.{nodes_per_pass}
use Rattle.width_table.specs.Table.{max_levels}
use Rattle.width_table.specs.Lists.{node_bytes}
use Rattle.table_bytes.specs.Bytes.{depth_in, table_in}
use Rattle.table_bytes.specs.BytesLaws.{four_there, levels_most}
use Rattle.table_bytes.specs.ReadLaws.{over_zeros}
use Rattle.table_bytes.proofs.table_of.Goals as goal

pub returns : goal.returns
unfolding table_in
returns c =
    let b = c.args.bytes.now in
    let depth : get_or b c.value_start.result 0 ≡ depth_in b = ap (λ (k : ℕ). get_or b k 0) c.value_start.ensures in
    let constants = over_zeros nodes_per_pass nodes_per_pass _ _ _ c.put.ensures c.value_in.ensures ∙ append-nil _ in
    let nodes = over_zeros (node_bytes max_levels) _ _ _ _ c.put-2.ensures c.value_in-2.ensures in
    c.new.ensures ∙ (λ u. made (depth u) (c.levels_in-levels.ensures u) (constants u) (nodes u) (c.has_fifth-has_products.ensures u) (c.products_in-products.ensures u))
  where
    made : ℕ → ℕ → List ℕ → List ℕ → Bool → List ℕ → WidthTable
    made d l k m h p = record { depth = d; levels = l; constants = k; nodes = m; has_products = h; products = p }

pub bounds-bytes-value_start : goal.bounds-bytes-value_start
bounds-bytes-value_start c = omega (arith, c.value_start.ensures, four_there c.args.bytes.now c.requires)

pub put-requires-2 : goal.put-requires-2
put-requires-2 c = omega (arith, c.value_in-2.ensures.1, levels_most c.args.bytes.now c.requires)

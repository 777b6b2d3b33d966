-- A table's numbers as lists: how many there are, what the struct's type says of them, and the form that they have (`form_lists_lem` of FormLists:
-- it is `form_right`).
use Rattle.std.specs.Prelude.{ℕ, ◌*◌, Bool, true, false, ◌&&◌, List, [], ◌∷◌, ◌≡◌, eqb, length, take, drop}
use Rattle.numbers.specs.Tests.{every}
use Rattle.width_table.specs.declared.WidthTable.{WidthTable}
use Rattle.width_table.specs.Nodes.{nodes_per_pass, products_per_level}
use Rattle.width_table.specs.Table.{max_levels, level_bytes, depth_right, levels_right, constant_right, width_right, product_right}

-- bytes of the nodes of L levels
abbrev pub node_bytes : ℕ → ℕ
node_bytes L = level_bytes * L

-- bytes of the products of L levels, one each
abbrev pub product_bytes : ℕ → ℕ
product_bytes L = products_per_level * L

-- how many of the products' numbers are widths: none without tag 5
abbrev pub used_products : WidthTable → ℕ
used_products t = elim t.has_products [ true ↦ product_bytes t.levels | false ↦ 0 ]

-- of each node IB, then f
unfoldable pub widths_right : List ℕ → Bool
widths_right [] = true
widths_right (IB ∷ []) = false
widths_right (IB ∷ f ∷ rest) = width_right IB f && widths_right rest

-- what its type says of every table in memory
pub record FullLists (t : WidthTable) : Type 0 where
  pub constants : length t.constants ≡ nodes_per_pass
  pub nodes : length t.nodes ≡ node_bytes max_levels
  pub products : length t.products ≡ product_bytes max_levels

-- the same form by lists
unfoldable pub form_lists : WidthTable → Bool
form_lists t =
    depth_right t.depth
    && levels_right t.levels
    && every constant_right t.constants
    && widths_right (take (node_bytes t.levels) t.nodes)
    && every (eqb 0) (drop (node_bytes t.levels) t.nodes)
    && every product_right (take (used_products t) t.products)
    && every (eqb 0) (drop (used_products t) t.products)

-- Changes of a width table (document 01: books as bytes; document 02, job 7: a product's width): a new table from the old one, which comes back where the change is refused (4).
use Rattle.std.specs.Prelude.{ℕ, ◌+◌, ◌-◌, Bool, ◌&&◌, set}
use Rattle.numbers.specs.Tests.{between}
use Rattle.refusals.specs.Answers.{Answer, passed, asks, answered}
use Rattle.width_table.specs.declared.WidthTable.{WidthTable}
use Rattle.width_table.specs.Nodes.{nodes_per_pass, passes_per_level, products_per_pass}
use Rattle.width_table.specs.Table.{constant_right, width_right, product_right, node_place, product_place, form_right}

-- level, pass and node are ones that a table of L levels has
abbrev pub has_node : ℕ → ℕ → ℕ → ℕ → Bool
has_node L level pass node = between 1 L level && between 1 passes_per_level pass && between 1 nodes_per_pass node

-- The call that changes the width of a node, its IB and f: its answer.
unfoldable pub width_answer : WidthTable → ℕ → ℕ → ℕ → ℕ → ℕ → Answer Unit
width_answer t level pass node IB f = asks (form_right t && has_node t.levels level pass node && width_right IB f) 4 passed

abbrev pub with_width : WidthTable → ℕ → ℕ → ℕ → ℕ → ℕ → WidthTable
with_width t level pass node IB f = record {
  depth = t.depth;
  levels = t.levels;
  constants = t.constants;
  nodes = set (set t.nodes (node_place level pass node) IB) (node_place level pass node + 1) f;
  has_products = t.has_products;
  products = t.products;
}

-- The table that the call gives.
unfoldable pub table_after_width : WidthTable → ℕ → ℕ → ℕ → ℕ → ℕ → WidthTable
table_after_width t level pass node IB f = answered (width_answer t level pass node IB f) (with_width t level pass node IB f) t

-- The call that changes F of the constant of a stage, and the table that it gives.
unfoldable pub constant_answer : WidthTable → ℕ → ℕ → Answer Unit
constant_answer t node F = asks (form_right t && between 1 nodes_per_pass node && constant_right F) 4 passed

abbrev pub with_constant : WidthTable → ℕ → ℕ → WidthTable
with_constant t node F = record {
  depth = t.depth;
  levels = t.levels;
  constants = set t.constants (node - 1) F;
  nodes = t.nodes;
  has_products = t.has_products;
  products = t.products;
}

unfoldable pub table_after_constant : WidthTable → ℕ → ℕ → WidthTable
table_after_constant t node F = answered (constant_answer t node F) (with_constant t node F) t

-- level, pass and product are ones that a table of L levels with tag 5 has
abbrev pub has_product : ℕ → ℕ → ℕ → ℕ → Bool
has_product L level pass product = between 1 L level && between 1 passes_per_level pass && between 1 products_per_pass product

-- The call that changes the width of a product: its answer, 4 also without tag 5; and the table that it gives.
unfoldable pub product_answer : WidthTable → ℕ → ℕ → ℕ → ℕ → Answer Unit
product_answer t level pass product fp = asks (form_right t && t.has_products && has_product t.levels level pass product && product_right fp) 4 passed

abbrev pub with_product : WidthTable → ℕ → ℕ → ℕ → ℕ → WidthTable
with_product t level pass product fp = record {
  depth = t.depth;
  levels = t.levels;
  constants = t.constants;
  nodes = t.nodes;
  has_products = t.has_products;
  products = set t.products (product_place level pass product) fp;
}

unfoldable pub table_after_product : WidthTable → ℕ → ℕ → ℕ → ℕ → WidthTable
table_after_product t level pass product fp = answered (product_answer t level pass product fp) (with_product t level pass product fp) t

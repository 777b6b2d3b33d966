-- A width table (document 01: book) in memory: its limits, its widths, and when its form is right (refusal 4). It says whether it has
-- widths of products (document 02, job 7: tag 5).
use Rattle.std.specs.Prelude.{ℕ, zero, suc, ◌+◌, ◌*◌, ◌-◌, Bool, true, false, ◌&&◌, leb, eqb, get_or}
use Rattle.numbers.specs.Tests.{between, every}
use Rattle.width_table.specs.declared.WidthTable.{WidthTable}
use Rattle.width_table.specs.Nodes.{nodes_per_pass, passes_per_level, products_per_pass, every_node, Node, G1, G2, Pass, Rows, LowColumns, HighColumns, TableNode, pass_number, node_number, table_order, product_order}

-- ---- limits

abbrev pub max_depth : ℕ
max_depth = 12

abbrev pub max_levels : ℕ
max_levels = 5

abbrev pub max_constant_bits : ℕ
max_constant_bits = 24

abbrev pub max_integer_bits : ℕ
max_integer_bits = 12

abbrev pub max_fraction_bits : ℕ
max_fraction_bits = 20

abbrev pub max_product_bits : ℕ
max_product_bits = 44

abbrev pub depth_right : ℕ → Bool
depth_right B = between 1 max_depth B

abbrev pub levels_right : ℕ → Bool
levels_right L = between 1 max_levels L

-- F, the bits of a constant
abbrev pub constant_right : ℕ → Bool
constant_right F = between 1 max_constant_bits F

-- integer bits and fractional bits of a node
abbrev pub width_right : ℕ → ℕ → Bool
width_right IB f = between 1 max_integer_bits IB && between 0 max_fraction_bits f

-- fp, the width of a product
abbrev pub product_right : ℕ → Bool
product_right fp = between 0 max_product_bits fp

-- ---- widths

-- bytes of a width, IB and f; of the widths of a pass, and of a level
abbrev pub width_bytes : ℕ
width_bytes = 2

abbrev pub pass_bytes : ℕ
pass_bytes = nodes_per_pass * width_bytes

abbrev pub level_bytes : ℕ
level_bytes = passes_per_level * pass_bytes

-- F, the bits of the constant of a stage
abbrev pub constant_bits : WidthTable → Node → ℕ
constant_bits t n = get_or t.constants (node_number n - 1) 0

-- Where the integer bits of a node lie among the nodes' numbers, which stand in book order; its fractional bits are next.
-- Level, pass and node count from 1.
abbrev pub node_place : ℕ → ℕ → ℕ → ℕ
node_place level pass node = ((level - 1) * passes_per_level + (pass - 1)) * pass_bytes + (node - 1) * width_bytes

-- IB, the integer bits of a node
abbrev pub integer_bits : WidthTable → ℕ → Pass → Node → ℕ
integer_bits t l p n = get_or t.nodes (node_place l (pass_number p) (node_number n)) 0

-- f, the fractional bits of a node
abbrev pub fraction_bits : WidthTable → ℕ → Pass → Node → ℕ
fraction_bits t l p n = get_or t.nodes (node_place l (pass_number p) (node_number n) + 1) 0

-- Where the width of a product lies among the products' numbers, which stand in book order. Level, pass and product count from 1.
abbrev pub product_place : ℕ → ℕ → ℕ → ℕ
product_place level pass product = ((level - 1) * passes_per_level + (pass - 1)) * products_per_pass + (product - 1)

-- fp, the width of the product of a stage P1, U1, P2, U2
abbrev pub product_width : WidthTable → ℕ → Pass → Node → ℕ
product_width t l p n = get_or t.products (product_place l (pass_number p) (node_number n)) 0

-- The fractional bits of what enters a pass: pixels have B; later rows are fed by G1 of the columns of row-low of the level
-- before, columns of row-low by G1 of the rows, columns of row-high by G2 of the rows. (Level 0 is none.)
abbrev pub input_bits : WidthTable → ℕ → Pass → ℕ
input_bits t zero Rows = 0
input_bits t (suc zero) Rows = t.depth
input_bits t (suc (suc l)) Rows = fraction_bits t (suc l) LowColumns G1
input_bits t l LowColumns = fraction_bits t l Rows G1
input_bits t l HighColumns = fraction_bits t l Rows G2

-- ---- form (refusal 4): numbers within their limits, zeros at unused levels, and zeros for products without tag 5

abbrev pub node_right : WidthTable → TableNode → Bool
node_right t p =
    let IB = integer_bits t p.level p.pass p.node in
    let f = fraction_bits t p.level p.pass p.node in
    elim (leb p.level t.levels) [
      | true ↦ width_right IB f
      | false ↦ eqb IB 0 && eqb f 0
    ]

-- a product's width, by the node of its stage
abbrev pub product_held : WidthTable → TableNode → Bool
product_held t p =
    let fp = product_width t p.level p.pass p.node in
    elim (t.has_products && leb p.level t.levels) [
      | true ↦ product_right fp
      | false ↦ eqb fp 0
    ]

unfoldable pub form_right : WidthTable → Bool
form_right t =
    depth_right t.depth
    && levels_right t.levels
    && every (λ n. constant_right (constant_bits t n)) every_node
    && every (node_right t) (table_order max_levels)
    && every (product_held t) (product_order max_levels)

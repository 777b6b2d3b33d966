-- The widths of the products under a table (document 02, job 7).
use Rattle.std.specs.Prelude.{ℕ, Bool, true, false}
use Rattle.stages.specs.Stages.{Product, uncut, cut_to}
use Rattle.width_table.specs.Nodes.{Node, P1, U1, P2, U2, G1, G2, Pass}
use Rattle.width_table.specs.declared.WidthTable.{WidthTable}
use Rattle.width_table.specs.Table.{product_width}

-- with tag 5 a product is cut to its width; without it no product is cut
abbrev pub width_of : Bool → ℕ → Product
width_of true fp = cut_to fp
width_of false fp = uncut

-- the product of each stage of a pass; those of G1 and G2 have no width of their own
unfoldable pub product_of : WidthTable → ℕ → Pass → Node → Product
product_of t l p P1 = width_of t.has_products (product_width t l p P1)
product_of t l p U1 = width_of t.has_products (product_width t l p U1)
product_of t l p P2 = width_of t.has_products (product_width t l p P2)
product_of t l p U2 = width_of t.has_products (product_width t l p U2)
product_of t l p G1 = uncut
product_of t l p G2 = uncut

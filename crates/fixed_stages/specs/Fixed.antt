-- The fixed-point 9/7 lifting of one line (document 01: the lifting; document 02, job 7: widths of products), by the fixed-point stages of the
-- crate stages.
use Rattle.std.specs.Prelude.{ℕ, ◌+◌, ◌*◌, ℤ}
use Rattle.stages.specs.Stages.{Product}
use Rattle.stages.specs.Fixed.{cut, step, scale}
use Rattle.width_table.specs.Nodes.{Node, P1, U1, P2, U2, G1, G2, Pass}
use Rattle.width_table.specs.declared.WidthTable.{WidthTable}
use Rattle.width_table.specs.Table.{constant_bits, fraction_bits, input_bits}
use Rattle.table_meaning.specs.Products.{product_of}
use Rattle.exact.specs.Exact.{alpha, beta, gamma, delta, zeta, zeta_inverse}
use Rattle.lines.specs.Lines.{lows, highs, on_highs, on_lows, lows_first}
use Rattle.lines.specs.Planes.{OnLine, from_one}

-- One pass over n samples x, two or more, at fi bits: F the bits of the constants, fp the widths of the products, f the fractional bits of the nodes.
module _ (F : Node → ℕ) (fp : Node → Product) (fi : ℕ) (f : Node → ℕ) (n : ℕ) (x : ℕ → ℤ) where
  unfoldable pub at_p1 : ℕ → ℤ
  at_p1 = on_highs (step (fp P1) alpha (F P1) fi fi (f P1)) n (λ i. x (2 * i)) (λ i. x (2 * i + 1))

  unfoldable pub at_u1 : ℕ → ℤ
  at_u1 = on_lows (step (fp U1) beta (F U1) (f P1) fi (f U1)) n (λ i. x (2 * i)) at_p1

  unfoldable pub at_p2 : ℕ → ℤ
  at_p2 = on_highs (step (fp P2) gamma (F P2) (f U1) (f P1) (f P2)) n at_u1 at_p1

  unfoldable pub at_u2 : ℕ → ℤ
  at_u2 = on_lows (step (fp U2) delta (F U2) (f P2) (f U1) (f U2)) n at_u1 at_p2

  unfoldable pub at_g1 : ℕ → ℤ
  at_g1 i = scale zeta (F G1) (f U2) (f G1) (at_u2 i)

  unfoldable pub at_g2 : ℕ → ℤ
  at_g2 i = scale zeta_inverse (F G2) (f P2) (f G2) (at_p2 i)

  -- what two samples or more leave: the lows first, then the highs
  unfoldable pub fixed_long : ℕ → ℤ
  fixed_long = lows_first n at_g1 at_g2

  -- the values on the way: what two samples or more leave in each node
  abbrev pub value_at : Node → ℕ → ℤ
  value_at P1 = at_p1
  value_at U1 = at_u1
  value_at P2 = at_p2
  value_at U2 = at_u2
  value_at G1 = at_g1
  value_at G2 = at_g2

-- What a pass leaves. A single sample is its only low value, cut to G1's bits (document 02, job 6).
unfoldable pub fixed_pass : (Node → ℕ) → (Node → Product) → ℕ → (Node → ℕ) → OnLine ℤ
fixed_pass F fp fi f = from_one (cut fi (f G1)) (fixed_long F fp fi f)

-- how many values n samples, two or more, leave in a node
abbrev pub count_at : ℕ → Node → ℕ
count_at n P1 = highs n
count_at n U1 = lows n
count_at n P2 = highs n
count_at n U2 = lows n
count_at n G1 = lows n
count_at n G2 = highs n

-- a pass of level l of a table
unfoldable pub fixed_line : WidthTable → ℕ → Pass → OnLine ℤ
fixed_line t l p = fixed_pass (constant_bits t) (product_of t l p) (input_bits t l p) (fraction_bits t l p)

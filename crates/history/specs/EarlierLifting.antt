-- The transforms before document 02: of lines of two samples or more alone (job 6), and with no product cut (job 7; single samples as in job 6).
use Rattle.std.specs.Prelude.{ℕ, ◌+◌, ◌*◌, ◌-◌, ◌^◌, max, List, ℤ, pos, ◌+ℤ◌, ◌*ℤ◌}
use Rattle.exact.specs.Fractions.{Frac}
use Rattle.exact.specs.Exact.{alpha, beta, gamma, delta, zeta, zeta_inverse}
use Rattle.lines.specs.Lines.{on_highs, on_lows, lows_first}
use Rattle.lines.specs.Planes.{Plane, OnLine, from_one, level_rows_first, levels, OnPart, level_columns_first}
use Rattle.width_table.specs.Nodes.{Node, P1, U1, P2, U2, G1, G2, Pass, Rows, column_pass}
use Rattle.width_table.specs.declared.WidthTable.{WidthTable}
use Rattle.width_table.specs.Table.{constant_bits, fraction_bits, input_bits}
use Rattle.pictures.specs.Pictures.{sample}
use Rattle.stages.specs.Fixed.{nearest, cut, scale}
use Rattle.fixed_stages.specs.Fixed.{fixed_long}
use Rattle.table_meaning.specs.Products.{product_of}
use Rattle.reversible.specs.Reversible.{Order, columns_first, rows_first, reversible_long, inverse_long}
use Rattle.inverse_lifting.specs.Fixed.{fixed_inverse_long}
use Rattle.viewing.specs.View.{entering_bits}

-- ---- before job 6

-- a pass of level l over two samples or more
abbrev pub long_line : WidthTable → ℕ → Pass → OnLine ℤ
long_line t l p = fixed_long (constant_bits t) (product_of t l p) (input_bits t l p) (fraction_bits t l p)

-- a level by the equations alone
abbrev pub long_level : Order → OnPart ℤ
long_level columns_first = level_columns_first reversible_long (λ low. reversible_long)
long_level rows_first = level_rows_first reversible_long (λ low. reversible_long)

abbrev pub long_inverse_level : Order → OnPart ℤ
long_inverse_level columns_first = level_rows_first inverse_long (λ low. inverse_long)
long_inverse_level rows_first = level_columns_first inverse_long (λ low. inverse_long)

-- a pass of level l over two values or more inverted
abbrev pub view_long : WidthTable → ℕ → Pass → OnLine ℤ
view_long t l p = fixed_inverse_long (entering_bits t l p G1) (entering_bits t l p G2)

-- ---- before job 7

-- sum and product are formed without loss, at the larger of fo and F + fm bits, and cut once to f bits
unfoldable pub uncut_step : Frac → ℕ → ℕ → ℕ → ℕ → ℤ → ℤ → ℤ → ℤ
uncut_step c F fm fo f own x y =
    let full = max fo (F + fm) in
    cut full f (own *ℤ pos (2 ^ (full - fo)) +ℤ nearest c F *ℤ (x +ℤ y) *ℤ pos (2 ^ (full - (F + fm))))

-- One pass over n samples x, two or more, at fi bits: F the bits of the constants, f the fractional bits of the nodes.
module _ (F : Node → ℕ) (fi : ℕ) (f : Node → ℕ) (n : ℕ) (x : ℕ → ℤ) where
  unfoldable pub uncut_p1 : ℕ → ℤ
  uncut_p1 = on_highs (uncut_step alpha (F P1) fi fi (f P1)) n (λ i. x (2 * i)) (λ i. x (2 * i + 1))

  unfoldable pub uncut_u1 : ℕ → ℤ
  uncut_u1 = on_lows (uncut_step beta (F U1) (f P1) fi (f U1)) n (λ i. x (2 * i)) uncut_p1

  unfoldable pub uncut_p2 : ℕ → ℤ
  uncut_p2 = on_highs (uncut_step gamma (F P2) (f U1) (f P1) (f P2)) n uncut_u1 uncut_p1

  unfoldable pub uncut_u2 : ℕ → ℤ
  uncut_u2 = on_lows (uncut_step delta (F U2) (f P2) (f U1) (f U2)) n uncut_u1 uncut_p2

  unfoldable pub uncut_long : ℕ → ℤ
  uncut_long = lows_first n (λ i. scale zeta (F G1) (f U2) (f G1) (uncut_u2 i)) (λ i. scale zeta_inverse (F G2) (f P2) (f G2) (uncut_p2 i))

unfoldable pub uncut_pass : (Node → ℕ) → ℕ → (Node → ℕ) → OnLine ℤ
uncut_pass F fi f = from_one (cut fi (f G1)) (uncut_long F fi f)

unfoldable pub uncut_line : WidthTable → ℕ → Pass → OnLine ℤ
uncut_line t l p = uncut_pass (constant_bits t) (input_bits t l p) (fraction_bits t l p)

unfoldable pub uncut_after : WidthTable → ℕ → List ℕ → ℕ → ℕ → Plane ℤ
uncut_after t k pixels w h = levels (λ l. level_rows_first (uncut_line t l Rows) (λ low. uncut_line t l (column_pass low))) k w h (sample pixels t.depth w)

unfoldable pub uncut_plane : WidthTable → List ℕ → ℕ → ℕ → Plane ℤ
uncut_plane t pixels w h = uncut_after t t.levels pixels w h

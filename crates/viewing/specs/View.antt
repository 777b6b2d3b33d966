-- A stored 9/7 plane in fixed point and as a picture (document 02, job 1), under a width table.
use Rattle.std.specs.Prelude.{ℕ, ◌*◌, ◌-◌, ◌^◌, min, true, false, ℤ, pos, ◌+ℤ◌, ◌*ℤ◌}
use Rattle.numbers.specs.Parts.{positive_part}
use Rattle.numbers.specs.Floor.{floor_div}
use Rattle.lines.specs.Planes.{Plane, OnLine, OnPart, level_columns_first, inverse_levels}
use Rattle.exact.specs.Fractions.{Frac}
use Rattle.exact.specs.Inverse.{exact_inverse}
use Rattle.width_table.specs.Nodes.{Node, G1, G2, Pass, Rows, column_pass}
use Rattle.width_table.specs.declared.WidthTable.{WidthTable}
use Rattle.width_table.specs.Table.{fraction_bits}
use Rattle.table_meaning.specs.Subbands.{kept_at, bits_plane}
use Rattle.stages.specs.Fixed.{fixed_value}
use Rattle.inverse_lifting.specs.Fixed.{node_bits, fixed_inverse}

-- The fractional bits of what enters a pass of level l as its lows (G1) or its highs (G2): a stored coefficient has those of its kept
-- node; the low-low of a coarser level and what the columns left have 20.
abbrev pub entering_bits : WidthTable → ℕ → Pass → Node → ℕ
entering_bits t l p n = elim (kept_at t.levels l p n) [ true ↦ fraction_bits t l p n | false ↦ node_bits ]

-- a pass of level l inverted
unfoldable pub view_line : WidthTable → ℕ → Pass → OnLine ℤ
view_line t l p = fixed_inverse (entering_bits t l p G1) (entering_bits t l p G2)

-- a level inverted: columns before rows
abbrev pub view_level : WidthTable → ℕ → OnPart ℤ
view_level t l = level_columns_first (view_line t l Rows) (λ low. view_line t l (column_pass low))

-- levels k to 1 of a plane inverted
unfoldable pub view_from : WidthTable → ℕ → OnPart ℤ
view_from t = inverse_levels (view_level t)

-- the plane before rounding, at 20 bits: level L first
unfoldable pub view_plane : WidthTable → OnPart ℤ
view_plane t = view_from t t.levels

-- ---- the picture

-- The value v at 20 bits in greys, of which 2^B make 1: 2^(B-1) greys are added, and the sum is rounded to the nearest grey, halves up.
-- (floor_div z m is the floor of z / m.)
unfoldable pub grey : ℕ → ℤ → ℤ
grey B v = floor_div (v *ℤ pos (2 ^ B) +ℤ pos (2 ^ (B - 1) * 2 ^ node_bits) +ℤ pos (2 ^ (node_bits - 1))) (2 ^ node_bits)

-- the same, limited to the depth: from 0 to 2^B - 1
unfoldable pub pixel : ℕ → ℤ → ℕ
pixel B v = min (positive_part (grey B v)) (2 ^ B - 1)

-- the picture that is shown
unfoldable pub view_picture : WidthTable → ℕ → ℕ → Plane ℤ → Plane ℕ
view_picture t w h p r c = pixel t.depth (view_plane t w h p r c)

-- ---- the exact inverse of what was stored

-- What was stored, as fractions: each coefficient has the f of its kept node.
unfoldable pub stored_plane : WidthTable → ℕ → ℕ → Plane ℤ → Plane Frac
stored_plane t w h p r c = fixed_value (p r c) (bits_plane t w h r c)

unfoldable pub exact_view : WidthTable → ℕ → ℕ → Plane ℤ → Plane Frac
exact_view t w h p = exact_inverse t.levels w h (stored_plane t w h p)

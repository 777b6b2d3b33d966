-- What holds of every table that is accepted and not refused 13, and every stored plane (document 02, job 1).
use Rattle.std.specs.Prelude.{ℕ, zero, suc, ◌+◌, ◌*◌, ◌-◌, ◌/◌, ◌^◌, ◌<◌, ◌≤◌, true, false, List, ◌≡◌, ltb, get_or, ℤ, pos, nat_abs, ◌-ℤ◌}
use Rattle.std.specs.Int.Signed.{lt_z}
use Rattle.refusals.specs.Answers.{passed}
use Rattle.lines.specs.Lines.{lows}
use Rattle.lines.specs.Planes.{Plane, columns, side}
use Rattle.exact.specs.Fractions.{Frac, ◌⊕◌, ◌⊖◌, ◌⊗◌, whole, ◌<F◌, Within}
use Rattle.exact.specs.Picture.{exact_sample}
use Rattle.width_table.specs.Nodes.{G1, G2, TableNode, column_pass}
use Rattle.width_table.specs.declared.WidthTable.{WidthTable}
use Rattle.width_table.specs.Table.{integer_bits, fraction_bits}
use Rattle.pictures.specs.Pictures.{Admitted}
use Rattle.stages.specs.Fixed.{fixed_value}
use Rattle.inverse_lifting.specs.Fixed.{node_bits, Small}
use Rattle.irreversible.specs.Claims.{Picture}
use Rattle.table_meaning.specs.Subbands.{kept_node}
use Rattle.table_meaning.specs.NodeWidths.{InNodeWidth}
use Rattle.irreversible.specs.Transforms.{fixed_plane}
use Rattle.view_precision.specs.Bounds.{view_verdict, pixel_bound, view_distance}
use Rattle.viewing.specs.View.{entering_bits, view_line, view_level, view_plane, view_picture, exact_view}

-- A table that viewing does not turn away: not refused 4, 6, 7 or 13.
abbrev pub Viewable : WidthTable → Type 0
Viewable t = view_verdict t ≡ passed

-- v is in the width of a node
abbrev pub HeldBy : WidthTable → TableNode → ℤ → Type 0
HeldBy t n v = InNodeWidth (integer_bits t n.level n.pass n.node) (fraction_bits t n.level n.pass n.node) v

-- A plane of admitted size whose coefficients are in the widths of their kept nodes (not refused 8 or 12).
pub record Stored (t : WidthTable) (w h : ℕ) (p : Plane ℤ) : Type 0 where
  pub width : Admitted w
  pub height : Admitted h
  pub held : (r c : ℕ) → r < h → c < w → HeldBy t (kept_node t.levels w h r c) (p r c)

-- ---- every pixel before rounding lies within the bound of the exact inverse of what was stored

-- v / 2^20 less x is at most b times 2^-32 in magnitude
abbrev pub Close : ℤ → Frac → ℕ → Type 0
Close v x b = Within (fixed_value v node_bits ⊖ x) b (2 ^ 32)

abbrev pub WithinBound : Type 0
WithinBound =
    (t : WidthTable) (w h : ℕ) (p : Plane ℤ) → Viewable t → Stored t w h p
    → (r c : ℕ) → r < h → c < w
    → Close (view_plane t w h p r c) (exact_view t w h p r c) (pixel_bound t)

-- ---- no value on the way is above 2^15

-- level l, which is fed w columns and h rows of the plane p: in each column, and in each row of what the columns leave
pub record LevelSmall (t : WidthTable) (l w h : ℕ) (p : Plane ℤ) : Type 0 where
  pub in_columns : (c : ℕ) → c < w → let s = column_pass (ltb c (lows w)) in Small (entering_bits t l s G1) (entering_bits t l s G2) h (λ r. p r c)
  pub in_rows : (r : ℕ) → r < h → Small node_bits node_bits w (columns (λ c. view_line t l (column_pass (ltb c (lows w)))) h p r)

-- levels k to 1, of which level k is fed the plane p
abbrev pub EachSmall : WidthTable → ℕ → ℕ → ℕ → Plane ℤ → Type 0
EachSmall t zero w h p = Unit {0}
EachSmall t (suc k) w h p = LevelSmall t (suc k) (side k w) (side k h) p × EachSmall t k w h (view_level t (suc k) (side k w) (side k h) p)

abbrev pub Sizes : Type 0
Sizes = (t : WidthTable) (w h : ℕ) (p : Plane ℤ) → Viewable t → Stored t w h p → EachSmall t t.levels w h p

-- ---- the shown pixel is one of the two greys nearest to the exact value, clamped to the depth

-- the exact value in greys: x times 2^B, plus 2^(B-1)
unfoldable pub exact_greys : ℕ → Frac → Frac
exact_greys B x = whole (pos (2 ^ B)) ⊗ x ⊕ whole (pos (2 ^ (B - 1)))

-- g clamped to 0 .. M
unfoldable pub clamped : ℕ → Frac → Frac
clamped M g =
    elim (lt_z g.num (pos 0)) [
      | true ↦ whole (pos 0)
      | false ↦ elim (lt_z (pos (M * g.den)) g.num) [ true ↦ whole (pos M) | false ↦ g ]
    ]

-- q is below g + 1, and g below q + 1
abbrev pub LessThanOne : ℕ → Frac → Type 0
LessThanOne q g = (whole (pos q) <F g ⊕ whole (pos 1)) × (g <F whole (pos (q + 1)))

abbrev pub OneGrey : Type 0
OneGrey =
    (t : WidthTable) (w h : ℕ) (p : Plane ℤ) → Viewable t → Stored t w h p
    → (r c : ℕ) → r < h → c < w
    → LessThanOne (view_picture t w h p r c) (clamped (2 ^ t.depth - 1) (exact_greys t.depth (exact_view t w h p r c)))

-- ---- scan, store, view

-- The viewed value of a stored scan lies, before rounding, within the distance of what was scanned.
abbrev pub ScanToView : Type 0
ScanToView =
    (t : WidthTable) (pixels : List ℕ) (w h : ℕ) → Viewable t → Picture t pixels w h
    → (r c : ℕ) → r < h → c < w
    → Close (view_plane t w h (fixed_plane t pixels w h) r c) (exact_sample pixels t.depth w r c) (view_distance t)

-- The shown pixel of a stored scan is at most so many greys from the scanned one: the distance in greys, rounded to the nearest.
unfoldable pub greys_apart : WidthTable → ℕ
greys_apart t = (view_distance t * 2 ^ t.depth + 2 ^ 31) / 2 ^ 32

abbrev pub GreysApart : Type 0
GreysApart =
    (t : WidthTable) (pixels : List ℕ) (w h : ℕ) → Viewable t → Picture t pixels w h
    → (r c : ℕ) → r < h → c < w
    → nat_abs (pos (view_picture t w h (fixed_plane t pixels w h) r c) -ℤ pos (get_or pixels (r * w + c) 0)) ≤ greys_apart t

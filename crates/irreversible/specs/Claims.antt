-- Demand 3: what holds of every accepted table and every admitted picture. Proved in Demand3.
use Rattle.std.specs.Prelude.{ℕ, suc, ◌*◌, ◌^◌, ◌<◌, ◌≤◌, List, ◌≡◌, ltb, ℤ, pos, get_or}
use Rattle.exact.specs.Fractions.{Frac, ◌⊖◌, neg, ◌<F◌}
use Rattle.width_table.specs.Nodes.{Node, G1, Pass, Rows, column_pass}
use Rattle.lines.specs.Lines.{lows, Liftable}
use Rattle.stages.specs.Fixed.{fixed_value}
use Rattle.fixed_stages.specs.Fixed.{value_at, count_at, fixed_line}
use Rattle.lines.specs.Planes.{Plane, side, rows}
use Rattle.width_table.specs.declared.WidthTable.{WidthTable}
use Rattle.width_table.specs.Table.{constant_bits, integer_bits, fraction_bits, input_bits}
use Rattle.pictures.specs.Pictures.{Admitted}
use Rattle.table_meaning.specs.Products.{product_of}
use Rattle.table_meaning.specs.Subbands.{bits_plane}
use Rattle.table_meaning.specs.NodeWidths.{InNodeWidth}
use Rattle.precision.specs.Verdict.{Accepted}
use Rattle.exact.specs.Picture.{exact_plane}
use Rattle.irreversible.specs.Transforms.{fixed_after, fixed_plane}

-- A picture of the table's depth and of admitted size.
pub record Picture (t : WidthTable) (pixels : List ℕ) (w h : ℕ) : Type 0 where
  pub width : Admitted w
  pub height : Admitted h
  pub depth : (k : ℕ) → k < w * h → get_or pixels k 0 < 2 ^ t.depth

-- A strip of the table's depth: nothing limits its sides above.
pub record Strip (t : WidthTable) (pixels : List ℕ) (w h : ℕ) : Type 0 where
  pub width : 1 ≤ w
  pub height : 1 ≤ h
  pub depth : (k : ℕ) → k < w * h → get_or pixels k 0 < 2 ^ t.depth

-- ---- first half: less than two steps

-- v / 2^f less the exact value lies above -2 times 2^-f and below 2 times 2^-f
unfoldable pub Near : ℤ → ℕ → Frac → Type 0
Near v f x = (neg (fixed_value (pos 2) f) <F fixed_value v f ⊖ x) × (fixed_value v f ⊖ x <F fixed_value (pos 2) f)

abbrev pub TwoSteps : Type 0
TwoSteps =
    (t : WidthTable) (pixels : List ℕ) (w h : ℕ) → Accepted t → Picture t pixels w h
    → (r c : ℕ) → r < h → c < w
    → Near (fixed_plane t pixels w h r c) (bits_plane t w h r c) (exact_plane pixels t.depth t.levels w h r c)

-- ---- second half: no value on the way leaves its width

-- each value that a pass of level l over n samples v leaves: two samples or more in every node, a single one in G1 alone (document 02, job 6)
pub record InWidth (t : WidthTable) (l : ℕ) (p : Pass) (n : ℕ) (v : ℕ → ℤ) : Type 0 where
  pub long : Liftable n → (i : Node) (k : ℕ) → k < count_at n i
      → InNodeWidth (integer_bits t l p i) (fraction_bits t l p i) (value_at (constant_bits t) (product_of t l p) (input_bits t l p) (fraction_bits t l p) n v i k)
  pub single : n ≡ 1 → InNodeWidth (integer_bits t l p G1) (fraction_bits t l p G1) (fixed_line t l p n v 0)

-- each value of level l, which is fed w columns and h rows of the plane p: in each row, and in each column of what the rows leave
pub record LevelInWidth (t : WidthTable) (l w h : ℕ) (p : Plane ℤ) : Type 0 where
  pub in_rows : (r : ℕ) → r < h → InWidth t l Rows w (p r)
  pub in_columns : (c : ℕ) → c < w → InWidth t l (column_pass (ltb c (lows w))) h (λ r. rows (fixed_line t l Rows) w p r c)

abbrev pub Widths : Type 0
Widths =
    (t : WidthTable) (pixels : List ℕ) (w h : ℕ) → Accepted t → Picture t pixels w h
    → (k : ℕ) → k < t.levels
    → LevelInWidth t (suc k) (side k w) (side k h) (fixed_after t k pixels w h)

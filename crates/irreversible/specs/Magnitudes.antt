-- Values of few integer bits: of at most eleven is each value on the way under every accepted table, and of at most five each one of
-- level 1 (proved in MagnitudeLaws). Those of one line: fixed_stages/specs/Safe.antt.
use Rattle.std.specs.Prelude.{ℕ, suc, ◌<◌, List, ltb, ℤ}
use Rattle.lines.specs.Lines.{lows}
use Rattle.lines.specs.Planes.{Plane, side, rows}
use Rattle.width_table.specs.Nodes.{Rows, column_pass}
use Rattle.width_table.specs.declared.WidthTable.{WidthTable}
use Rattle.width_table.specs.Table.{input_bits}
use Rattle.pictures.specs.Pictures.{sample}
use Rattle.precision.specs.Verdict.{Accepted}
use Rattle.fixed_stages.specs.Safe.{BelowPower, LineBelowPower}
use Rattle.fixed_stages.specs.Fixed.{fixed_line}
use Rattle.irreversible.specs.Transforms.{fixed_after}
use Rattle.irreversible.specs.Claims.{Picture, Strip}

-- each value of level l, which is fed w columns and h rows of the plane p: what enters, each row, and each column of what the rows leave
pub record LevelBelowPower (e : ℕ) (t : WidthTable) (l w h : ℕ) (p : Plane ℤ) : Type 0 where
  pub given : (r c : ℕ) → r < h → c < w → BelowPower e (input_bits t l Rows) (p r c)
  pub in_rows : (r : ℕ) → r < h → LineBelowPower e t l Rows w (p r)
  pub in_columns : (c : ℕ) → c < w → LineBelowPower e t l (column_pass (ltb c (lows w))) h (λ r. rows (fixed_line t l Rows) w p r c)

-- ---- 2^10: every level

abbrev pub LevelBelowPower10 : WidthTable → ℕ → ℕ → ℕ → Plane ℤ → Type 0
LevelBelowPower10 = LevelBelowPower 10

abbrev pub AllBelowPower10 : Type 0
AllBelowPower10 =
    (t : WidthTable) (pixels : List ℕ) (w h : ℕ) → Accepted t → Picture t pixels w h
    → (k : ℕ) → k < t.levels
    → LevelBelowPower10 t (suc k) (side k w) (side k h) (fixed_after t k pixels w h)

-- ---- 2^4: level 1, of strips of any size

abbrev pub FirstBelowPower4 : Type 0
FirstBelowPower4 =
    (t : WidthTable) (pixels : List ℕ) (w h : ℕ) → Accepted t → Strip t pixels w h
    → LevelBelowPower 4 t 1 w h (sample pixels t.depth w)

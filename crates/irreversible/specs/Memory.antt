-- The levels in memory: what a level leaves of the columns and rows at the front, when its passes are safe, and what stands after some levels.
use Rattle.std.specs.Prelude.{ℕ, ◌*◌, ◌<◌, ◌≤◌, List, ◌≡◌, ℤ}
use Rattle.lines.specs.Lines.{lows, highs}
use Rattle.width_table.specs.Nodes.{Rows, LowColumns, HighColumns}
use Rattle.width_table.specs.declared.WidthTable.{WidthTable}
use Rattle.slices.specs.Parts.{row_of, column_of, rows_by, columns_by}
use Rattle.pictures.specs.MemoryLaws.{Stands}
use Rattle.fixed_stages.specs.Fixed.{fixed_line}
use Rattle.fixed_stages.specs.Safe.{LineSafe}
use Rattle.irreversible.specs.Transforms.{fixed_after}

-- what a level of the w columns and h rows at the front leaves in memory, whose rows are W long
module _ (t : WidthTable) (l W w h : ℕ) (x : ℕ → ℤ) where
  -- after its rows
  abbrev pub rowed : ℕ → ℤ
  rowed = rows_by (fixed_line t l Rows) W w h x

  -- and the columns of row-low
  abbrev pub lowed : ℕ → ℤ
  lowed = columns_by (fixed_line t l LowColumns) W 0 (lows w) h rowed

  -- and those of row-high
  abbrev pub level_worked : ℕ → ℤ
  level_worked = columns_by (fixed_line t l HighColumns) W (lows w) (highs w) h lowed

-- the columns alone
abbrev pub columned : WidthTable → ℕ → ℕ → ℕ → ℕ → (ℕ → ℤ) → ℕ → ℤ
columned t l W w h y = columns_by (fixed_line t l HighColumns) W (lows w) (highs w) h (columns_by (fixed_line t l LowColumns) W 0 (lows w) h y)

-- every pass of the level is safe
pub record SafeLevel (t : WidthTable) (l W w h : ℕ) (x : ℕ → ℤ) : Type 0 where
  pub on_rows : (r : ℕ) → r < h → LineSafe t l Rows w (row_of W 0 x r)
  pub on_low_columns : (j : ℕ) → j < lows w → LineSafe t l LowColumns h (column_of W 0 (rowed t l W w h x) j)
  pub on_high_columns : (j : ℕ) → j < highs w → LineSafe t l HighColumns h (column_of W (lows w) (lowed t l W w h x) j)

-- after k levels: the plane stands at the front, and what lies past it is as it was
pub record After (t : WidthTable) (pixels : List ℕ) (w h k : ℕ) (x₀ x : ℕ → ℤ) : Type 0 where
  pub stands : Stands w h x (fixed_after t k pixels w h)
  pub beyond : (q : ℕ) → w * h ≤ q → x q ≡ x₀ q

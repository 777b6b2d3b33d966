-- What the steps of the 9/7 call ask of each other.
use Rattle.std.specs.Prelude.{ℕ, ◌*◌, ◌-◌, ◌<◌, ◌≤◌, ◌^◌, List, length, ℤ}
use Rattle.lines.specs.Lines.{lows, highs}
use Rattle.width_table.specs.declared.WidthTable.{WidthTable}
use Rattle.width_table.specs.Nodes.{Pass, Rows, LowColumns, HighColumns}
use Rattle.slices.specs.Patch.{at}
use Rattle.slices.specs.Parts.{Part, row_of, column_of, columns_by}
use Rattle.slices.specs.Pixels.{pixel_line, loaded}
use Rattle.precision.specs.Verdict.{Accepted, IsLevel}
use Rattle.fixed_stages.specs.Fixed.{fixed_line}
use Rattle.fixed_stages.specs.Safe.{LineSafe}
use Rattle.irreversible.specs.Claims.{Picture}
use Rattle.irreversible.specs.Memory.{SafeLevel}

-- the first w values of h rows can be worked by the row pass of level l, in a plane whose rows are W long
pub record RowsReady (t : WidthTable) (l : ℕ) (plane buffer : List ℤ) (W w h : ℕ) : Type 0 where
  pub is_level : IsLevel t l
  pub part : Part plane W 0 w h
  pub across : w ≤ length buffer
  pub safe : (r : ℕ) → r < h → LineSafe t l Rows w (row_of W 0 (at plane) r)

-- w columns of h rows, from column `from` on, can be worked by a pass
pub record ColumnsReady (t : WidthTable) (l : ℕ) (p : Pass) (plane buffer : List ℤ) (W from w h : ℕ) : Type 0 where
  pub is_level : IsLevel t l
  pub part : Part plane W from w h
  pub down : h ≤ length buffer
  pub safe : (j : ℕ) → j < w → LineSafe t l p h (column_of W from (at plane) j)

-- the columns of row-low, and then those of row-high
pub record BothReady (t : WidthTable) (l : ℕ) (plane buffer : List ℤ) (W w h : ℕ) : Type 0 where
  pub is_level : IsLevel t l
  pub part : Part plane W 0 w h
  pub down : h ≤ length buffer
  pub low : (j : ℕ) → j < lows w → LineSafe t l LowColumns h (column_of W 0 (at plane) j)
  pub high : (j : ℕ) → j < highs w → LineSafe t l HighColumns h (column_of W (lows w) (columns_by (fixed_line t l LowColumns) W 0 (lows w) h (at plane)) j)

-- a level can be worked: w columns and h rows at the front of a plane whose rows are W long
pub record LevelReady (t : WidthTable) (l : ℕ) (plane buffer : List ℤ) (W w h : ℕ) : Type 0 where
  pub is_level : IsLevel t l
  pub part : Part plane W 0 w h
  pub across : w ≤ length buffer
  pub down : h ≤ length buffer
  pub safe : SafeLevel t l W w h (at plane)

-- a picture can be transformed
pub record Ready (t : WidthTable) (pixels : List ℕ) (plane buffer : List ℤ) (w h : ℕ) : Type 0 where
  pub accepted : Accepted t
  pub picture : Picture t pixels w h
  pub first : w * h ≤ length pixels
  pub second : w * h ≤ length plane
  pub third : w * h ≤ length buffer

-- the first level can be worked from the pixels
pub record FirstReady (t : WidthTable) (pixels : List ℕ) (plane buffer : List ℤ) (w h : ℕ) : Type 0 where
  pub is_level : IsLevel t 1
  pub part : Part plane w 0 w h
  pub across : w ≤ length buffer
  pub down : h ≤ length buffer
  pub on_pixels : (r : ℕ) → r < h → LineSafe t 1 Rows w (pixel_line pixels (2 ^ (t.depth - 1)) (r * w))
  pub safe : SafeLevel t 1 w w h (loaded pixels (2 ^ (t.depth - 1)) w h (at plane))

-- Rows and columns of a part of a plane in memory, whose row r starts at r * stride.
use Rattle.std.specs.Prelude.{ℕ, ◌+◌, ◌<◌, ◌≤◌, ◌^◌, List, ℤ, length}
use Rattle.slices.specs.PatchLines.{line_at, patch_lines}

-- columns `from` to `from + w - 1` of h rows lie in the plane
pub record Part (plane : List ℤ) (stride from w h : ℕ) : Type 0 where
  pub narrow : from + w ≤ stride
  pub few : h < 2 ^ 31
  pub wide : stride < 2 ^ 31
  pub fits : (r : ℕ) → r < h → line_at from stride r + w ≤ length plane

-- row r, from column `from` on; and column j after it
abbrev pub row_of : ℕ → ℕ → (ℕ → ℤ) → ℕ → ℕ → ℤ
row_of stride from x r c = x (line_at from stride r + c)

abbrev pub column_of : ℕ → ℕ → (ℕ → ℤ) → ℕ → ℕ → ℤ
column_of stride from x j r = x (line_at from stride r + j)

-- what is made of a line of n values
abbrev pub LineFunction : Type 0
LineFunction = ℕ → (ℕ → ℤ) → ℕ → ℤ

-- the first w values of h rows, each row by a pass
abbrev pub rows_by : LineFunction → ℕ → ℕ → ℕ → (ℕ → ℤ) → ℕ → ℤ
rows_by pass stride w h x = patch_lines (line_at 0 stride) w h (λ r. pass w (row_of stride 0 x r)) x

-- w columns of h rows, from column `from` on, each column by a pass
abbrev pub columns_by : LineFunction → ℕ → ℕ → ℕ → ℕ → (ℕ → ℤ) → ℕ → ℤ
columns_by pass stride from w h x = patch_lines (line_at from stride) w h (λ r j. pass h (column_of stride from x j) r) x

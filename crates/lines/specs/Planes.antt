-- Planes: a value at each row and column, and the passes and levels over them (document 01: pictures and planes).
use Rattle.std.specs.Prelude.{ℕ, zero, suc, ◌*◌, ◌/◌, ◌%◌, Bool, true, false, ◌&&◌, List, [], ◌∷◌, ltb}
use Rattle.lines.specs.Lines.{lows}

abbrev pub Plane : Type 0 → Type 0
Plane A = ℕ → ℕ → A

-- what a pass makes of a line of n values
abbrev pub OnLine : Type 0 → Type 0
OnLine A = ℕ → (ℕ → A) → ℕ → A

-- A pass from length 1 (document 02, job 6): what `single` makes of a single sample is its only low value; from length 2 on the line is
-- worked by `long`.
unfoldable pub from_one : {A : Type 0} → (A → A) → OnLine A → OnLine A
from_one single long n x k = elim (ltb n 2) [ true ↦ single (x k) | false ↦ long n x k ]

module _ {A : Type 0} where
  -- the rows of a plane of w columns
  unfoldable pub rows : OnLine A → ℕ → Plane A → Plane A
  rows pass w p r c = pass w (λ k. p r k) c

  -- the columns of a plane of h rows; the pass may differ from column to column
  unfoldable pub columns : (ℕ → OnLine A) → ℕ → Plane A → Plane A
  columns pass h p r c = pass c h (λ k. p k c) r

  -- what lies outside w columns and h rows stays
  unfoldable pub within : ℕ → ℕ → Plane A → Plane A → Plane A
  within w h new old r c = elim (ltb r h && ltb c w) [ true ↦ new r c | false ↦ old r c ]

-- a side of the low-low part that k levels leave; it is what level k + 1 works
unfoldable pub side : ℕ → ℕ → ℕ
side zero n = n
side (suc k) n = lows (side k n)

-- what a level makes of a part of w columns and h rows of a plane
abbrev pub OnPart : Type 0 → Type 0
OnPart A = ℕ → ℕ → Plane A → Plane A

-- A level of a row's pass and a column's. A column's pass goes by whether it holds row-low values.
module _ {A : Type 0} (row : OnLine A) (column : Bool → OnLine A) where
  -- the rows of the part, then its columns
  unfoldable pub level_rows_first : OnPart A
  level_rows_first w h p = within w h (columns (λ c. column (ltb c (lows w))) h (rows row w p)) p

  -- the columns, then the rows
  unfoldable pub level_columns_first : OnPart A
  level_columns_first w h p = within w h (rows row w (columns (λ c. column (ltb c (lows w))) h p)) p

-- Levels count from 1; each works the part that those before it left as low-low.
module _ {A : Type 0} (level : ℕ → OnPart A) where
  -- levels 1 to k
  unfoldable pub levels : ℕ → OnPart A
  levels zero w h p = p
  levels (suc k) w h p = level (suc k) (side k w) (side k h) (levels k w h p)

  -- levels k to 1: the way back begins with the last
  unfoldable pub inverse_levels : ℕ → OnPart A
  inverse_levels zero w h p = p
  inverse_levels (suc k) w h p = inverse_levels k w h (level (suc k) (side k w) (side k h) p)

-- f 0, f 1, .., f (n - 1)
unfoldable pub tabulate : {A : Type 0} → ℕ → (ℕ → A) → List A
tabulate zero f = []
tabulate (suc n) f = f zero ∷ tabulate n (λ k. f (suc k))

-- a plane of w columns and h rows in memory, row by row
unfoldable pub row_by_row : {A : Type 0} → ℕ → ℕ → Plane A → List A
row_by_row w h p = tabulate (w * h) (λ k. p (k / w) (k % w))

-- The reversible 5/3 transform and its way back (document 01: the lifting; pictures and planes), in either order of rows and columns
-- (document 02, job 4). Values are whole numbers without limit.
use Rattle.std.specs.Prelude.{ℕ, ◌+◌, ◌*◌, ℤ, pos, ◌+ℤ◌, ◌-ℤ◌}
use Rattle.numbers.specs.Floor.{floor_div}
use Rattle.lines.specs.Lines.{lows, on_highs, on_lows, lows_first, interleaved}
use Rattle.lines.specs.Planes.{OnLine, OnPart, from_one, level_rows_first, level_columns_first, levels, inverse_levels}

-- ---- forward: source document 004, equations 1 and 2

-- high minus the floor of half the sum of two neighbours
unfoldable pub predict : ℤ → ℤ → ℤ → ℤ
predict own x y = own -ℤ floor_div (x +ℤ y) 2

-- low plus the floor of (the sum of two highs plus 2) over 4
unfoldable pub update : ℤ → ℤ → ℤ → ℤ
update own x y = own +ℤ floor_div (x +ℤ y +ℤ pos 2) 4

-- one pass over n samples x, two or more: the highs, then the lows
module _ (n : ℕ) (x : ℕ → ℤ) where
  unfoldable pub high : ℕ → ℤ
  high = on_highs predict n (λ i. x (2 * i)) (λ i. x (2 * i + 1))

  unfoldable pub low : ℕ → ℤ
  low = on_lows update n (λ i. x (2 * i)) high

  -- what two samples or more leave: the lows first, then the highs
  unfoldable pub reversible_long : ℕ → ℤ
  reversible_long = lows_first n low high

-- What a pass leaves. A single sample is its only low value (document 02, job 6).
unfoldable pub reversible_pass : OnLine ℤ
reversible_pass = from_one (λ v. v) reversible_long

-- The order in which the levels of an exact copy were worked. New copies have the columns before the rows, as JPEG 2000 Part 1 has them
-- (document 02, job 4); copies made earlier have the rows before the columns (document 01, pictures and planes).
pub data Order : Type 0 where
  columns_first rows_first : Order

-- a level worked in that order
abbrev pub forward_level : Order → OnPart ℤ
forward_level columns_first = level_columns_first reversible_pass (λ low. reversible_pass)
forward_level rows_first = level_rows_first reversible_pass (λ low. reversible_pass)

-- level 1 comes first; each works what those before it left as low-low
unfoldable pub forward : Order → ℕ → OnPart ℤ
forward order = levels (λ l. forward_level order)

-- ---- the inverse: the same steps inverted, in reverse order

unfoldable pub inverse_predict : ℤ → ℤ → ℤ → ℤ
inverse_predict own x y = own +ℤ floor_div (x +ℤ y) 2

unfoldable pub inverse_update : ℤ → ℤ → ℤ → ℤ
inverse_update own x y = own -ℤ floor_div (x +ℤ y +ℤ pos 2) 4

-- one line of n values y, two or more, lows first: the lows, then the highs, then each to its place
module _ (n : ℕ) (y : ℕ → ℤ) where
  unfoldable pub low_inverse : ℕ → ℤ
  low_inverse = on_lows inverse_update n y (λ i. y (lows n + i))

  unfoldable pub high_inverse : ℕ → ℤ
  high_inverse = on_highs inverse_predict n low_inverse (λ i. y (lows n + i))

  unfoldable pub inverse_long : ℕ → ℤ
  inverse_long = interleaved low_inverse high_inverse

-- A pass inverted. A single low value is the sample.
unfoldable pub inverse_pass : OnLine ℤ
inverse_pass = from_one (λ v. v) inverse_long

-- a level of a copy of that order inverted: new copies invert the rows first, copies made earlier the columns (document 02, job 4)
abbrev pub inverse_level : Order → OnPart ℤ
inverse_level columns_first = level_rows_first inverse_pass (λ low. inverse_pass)
inverse_level rows_first = level_columns_first inverse_pass (λ low. inverse_pass)

-- the last level comes first
unfoldable pub inverse : Order → ℕ → OnPart ℤ
inverse order = inverse_levels (λ l. inverse_level order)

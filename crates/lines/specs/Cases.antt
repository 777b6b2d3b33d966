-- The neighbours by cases (document 02, job 2): the ends apart from the middle, as source documents 003 and 004 have them. CaseLaws proves them
-- to be document 01's mirrored neighbours, and a filter by cases to be the filter.
use Rattle.std.specs.Prelude.{ℕ, zero, suc, ◌+◌, ◌*◌, true, false, eqb}

-- The neighbours of a place: two, or, at an end of the line, one that stands on both sides.
pub data Neighbours : Type 0 where
  two : ℕ → ℕ → Neighbours
  one : ℕ → Neighbours

-- The lows beside high i of a line of n, which is sample 2 i + 1.
--   The last high of an even length: the low before it (003, equation 4; 004, equation 5).
--   Any other high: the lows on its two sides (003, equation 2; 004, equation 1).
unfoldable pub of_high : ℕ → ℕ → Neighbours
of_high n i = elim (eqb (2 * i + 2) n) [ true ↦ one i | false ↦ two i (i + 1) ]

-- The highs beside low i of a line of n, which is sample 2 i.
--   The first low: the high after it (003, equation 3; 004, equation 4).
--   The last low of an odd length: the high before it (004, equation 6; 003 prints no odd length, so for the 9/7 this case is ours).
--   Any other low: the highs on its two sides (003, equation 2; 004, equation 2).
unfoldable pub of_low : ℕ → ℕ → Neighbours
of_low n zero = one 0
of_low n (suc i) = elim (eqb (2 * suc i + 1) n) [ true ↦ one i | false ↦ two i (suc i) ]

-- A filter's step has an equation for two neighbours, and at an end a reduced one for one.
module _ {A : Type 0} {B : Type 0} (step : A → A → A → B) (end : A → A → B) where
  -- what it makes of an own value and its neighbours among the values x
  abbrev pub by_case : A → (ℕ → A) → Neighbours → B
  by_case own x (two j k) = step own (x j) (x k)
  by_case own x (one j) = end own (x j)

  -- at each high
  unfoldable pub highs_by_cases : ℕ → (ℕ → A) → (ℕ → A) → ℕ → B
  highs_by_cases n low high i = by_case (high i) low (of_high n i)

  -- at each low
  unfoldable pub lows_by_cases : ℕ → (ℕ → A) → (ℕ → A) → ℕ → B
  lows_by_cases n low high i = by_case (low i) high (of_low n i)

-- the reduced equation is the step of one neighbour twice
abbrev pub Reduced : {A : Type 0} → (A → A → Type 0) → (A → A → A → A) → (A → A → A) → Type 0
Reduced {A} R step end = (own x : A) → R (end own x) (step own x x)

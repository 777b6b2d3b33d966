-- One line of samples, its low and high places, and the neighbours of each (document 01: the lifting, edges; Mirror).
-- A line is its length and a value at each place. Low values stand at 0, 2, 4, .., high values at 1, 3, 5, ..
use Rattle.std.specs.Prelude.{ℕ, ◌+◌, ◌-◌, ◌/◌, ◌%◌, ◌≤◌, min, true, false, ltb, eqb}

-- how many lows and highs a line of n samples has
abbrev pub lows : ℕ → ℕ
lows n = (n + 1) / 2

abbrev pub highs : ℕ → ℕ
highs n = n / 2

-- From length 2 there is a low and a high, and so each has neighbours.
pub record Liftable (n : ℕ) : Type 0 where
  pub least : 2 ≤ n

-- The low value after high i: the low value past the last is the last.
unfoldable pub low_after : ℕ → ℕ → ℕ
low_after n i = min (i + 1) (lows n - 1)

-- The high value before low i: the one before the first is the first (0 - 1 is 0).
unfoldable pub high_before : ℕ → ℕ
high_before i = i - 1

-- The high value after low i: the one past the last is the last.
unfoldable pub high_after : ℕ → ℕ → ℕ
high_after n i = min i (highs n - 1)

-- A step works a value with two neighbours. (What a step gives, or what is asked of it, may be of any type B.)
module _ {ℓ} {A : Type 0} {B : Type ℓ} where
  -- a step at each high with the lows on its two sides
  unfoldable pub on_highs : (A → A → A → B) → ℕ → (ℕ → A) → (ℕ → A) → ℕ → B
  on_highs step n low high i = step (high i) (low i) (low (low_after n i))

  -- a step at each low with the highs on its two sides
  unfoldable pub on_lows : (A → A → A → B) → ℕ → (ℕ → A) → (ℕ → A) → ℕ → B
  on_lows step n low high i = step (low i) (high (high_before i)) (high (high_after n i))

-- a pass leaves the lows first, then the highs
unfoldable pub lows_first : {A : Type 0} → ℕ → (ℕ → A) → (ℕ → A) → ℕ → A
lows_first n low high i = elim (ltb i (lows n)) [ true ↦ low i | false ↦ high (i - lows n) ]

-- a line whose lows stand at the even places and whose highs stand at the odd ones
unfoldable pub interleaved : {A : Type 0} → (ℕ → A) → (ℕ → A) → ℕ → A
interleaved low high k = elim (eqb (k % 2) 0) [ true ↦ low (k / 2) | false ↦ high (k / 2) ]

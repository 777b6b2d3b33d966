-- Laws of the neighbours (document 01: the lifting, edges), so that nothing else looks into them: each stands beside its place
-- (`low_after_beside`, ..), away from the ends it is the next one, and at an end it is the last one or the first.
use Rattle.std.specs.Prelude.{ℕ, suc, ◌+◌, ◌-◌, ◌<◌, ◌≤◌, ◌≡◌, refl}
use native.Mathlib.Omega.{arith}
use Rattle.lines.specs.Lines.{lows, highs, low_after, high_before, high_after, on_highs, on_lows}
use Rattle.lines.specs.LineLaws.{Equal}

-- low l and high h of a line of n stand side by side
pub record Beside (n l h : ℕ) : Type 0 where
  pub low_in_lem : l < lows n
  pub high_in_lem : h < highs n
  pub after : h ≤ l
  pub before : l ≤ suc h

-- a neighbour is a place of the line, beside its own; a low has neighbours where there is a high
module _ (n i : ℕ) where
  pub low_after_beside : i < highs n → Beside n (low_after n i) i
  unfolding low_after
  low_after_beside h = record { low_in_lem = omega arith; high_in_lem = h; after = omega arith; before = omega arith }

  module _ (some : 0 < highs n) (h : i < lows n) where
    pub high_before_beside : Beside n i (high_before i)
    unfolding high_before
    high_before_beside = record { low_in_lem = h; high_in_lem = omega arith; after = omega arith; before = omega arith }

    pub high_after_beside : Beside n i (high_after n i)
    unfolding high_after
    high_after_beside = record { low_in_lem = h; high_in_lem = omega arith; after = omega arith; before = omega arith }

    pub high_before_in : high_before i < highs n
    high_before_in = high_before_beside.high_in_lem

    pub high_after_in : high_after n i < highs n
    high_after_in = high_after_beside.high_in_lem

  pub low_after_in : i < highs n → low_after n i < lows n
  low_after_in h = (low_after_beside h).low_in_lem

-- away from the ends
pub low_after_next : (n i : ℕ) → i + 1 < lows n → low_after n i ≡ i + 1
unfolding low_after
low_after_next n i h = omega arith

pub high_before_next : (i : ℕ) → 0 < i → high_before i ≡ i - 1
unfolding high_before
high_before_next i h = refl

pub high_after_next : (n i : ℕ) → i < highs n → high_after n i ≡ i
unfolding high_after
high_after_next n i h = omega arith

-- at the ends
pub low_after_last : (n i : ℕ) → i < highs n → lows n ≤ i + 1 → low_after n i ≡ lows n - 1
unfolding low_after
low_after_last n i h e = omega arith

pub high_before_first : high_before 0 ≡ 0
unfolding high_before
high_before_first = refl

pub high_after_last : (n i : ℕ) → i < lows n → highs n ≤ i → high_after n i ≡ highs n - 1
unfolding high_after
high_after_last n i h e = omega arith

-- ---- a step reads the line's own values

module _ {A : Type 0} {B : Type 0} (n : ℕ) {l h m g : ℕ → A} (at_lows : Equal (lows n) l m) (at_highs : Equal (highs n) h g) (f : A → A → A → B) where
  pub on_highs_equal : Equal (highs n) (on_highs f n l h) (on_highs f n m g)
  unfolding on_highs
  on_highs_equal i p = λ u. f (at_highs i p u) (at_lows i (omega arith) u) (at_lows (low_after n i) (low_after_in n i p) u)

  pub on_lows_equal : 0 < highs n → Equal (lows n) (on_lows f n l h) (on_lows f n m g)
  unfolding on_lows
  on_lows_equal some i p = λ u. f (at_lows i p u) (at_highs (high_before i) (high_before_in n i some p) u) (at_highs (high_after n i) (high_after_in n i some p) u)

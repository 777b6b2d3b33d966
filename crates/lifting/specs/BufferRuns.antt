-- A step at the highs or the lows of a line buffer by runs: the middle, and the ends, where a neighbour stands for the one that is missing.
-- What each run asks and what it leaves, for any step f and any fact P that it asks.
use Rattle.std.specs.Prelude.{◌≡◌, List, ℕ, ◌+◌, ◌*◌, ◌-◌, ◌<◌, ℤ, length}
use Rattle.std.proofs.Common.{sym, ap, ◌∙◌, arith}
use Rattle.lines.specs.Lines.{lows, highs}
use Rattle.slices.specs.Patch.{at, patch, patch_ext, patch_to}
use Rattle.slices.specs.Runs.{ran, Runs, SafeBy, as_type, next_safe, next_run, front_safe, front_run}
use Rattle.lifting.specs.Buffers.{Buffer, sizes, packed, new_highs, new_lows, highs_done, lows_done, AtHighs, AtLows, at_highs, at_lows, highs_middle, highs_last, lows_first_lem, lows_middle, lows_last}

-- the places of the runs, in a slice m as long as the line buffer l
module _ {l : List ℤ} {s n : ℕ} (on : Buffer l s n) (m : List ℤ) (long : length m ≡ length l) where
  pub middle_high_runs : Runs m (lows n * s) 0 s ((lows n - 1) * s)
  middle_high_runs = let z = sizes s n on.two in omega (arith, on.room)

  pub last_high_runs : lows n - 1 < highs n → Runs m (lows n * s + (lows n - 1) * s) ((lows n - 1) * s) ((lows n - 1) * s) s
  last_high_runs h = let z = sizes s n on.two in let even = z.even h in omega (arith, on.room)

  pub first_low_runs : Runs m 0 (lows n * s) (lows n * s) s
  first_low_runs = let z = sizes s n on.two in omega (arith, on.room)

  pub middle_low_runs : Runs m s (lows n * s) (lows n * s + s) ((highs n - 1) * s)
  middle_low_runs = let z = sizes s n on.two in omega (arith, on.room)

  pub last_low_runs : highs n < lows n → Runs m (highs n * s) (lows n * s + (highs n - 1) * s) (lows n * s + (highs n - 1) * s) s
  last_low_runs h = let z = sizes s n on.two in let odd = z.odd h in omega (arith, on.room)

-- the line buffer with k of its highs done, and with k of its lows
module _ (f : ℤ → ℤ → ℤ → ℤ) {l : List ℤ} {s n : ℕ} (on : Buffer l s n) where
  abbrev pub some_highs : ℕ → ℕ → ℤ
  some_highs k = patch (lows n * s) k (packed s (new_highs f s n (at l) on.two)) (at l)

  abbrev pub some_lows : ℕ → ℕ → ℤ
  some_lows k = patch 0 k (packed s (new_lows f s n (at l) on.two)) (at l)

-- ---- the highs: the middle, then the last line where n is even

module _ (f : ℤ → ℤ → ℤ → ℤ) (P : ℤ → ℤ → ℤ → Type 0) {l : List ℤ} {s n : ℕ} (on : Buffer l s n) where
  pub middle_high_asks : AtHighs P s n (at l) → SafeBy P (lows n * s) 0 s ((lows n - 1) * s) (at l)
  middle_high_asks safe p h = let z = sizes s n on.two in as_type (highs_middle P s n (at l) on.two p h) (at_highs P s n (at l) on.two safe p (omega arith))

  pub middle_highs : (y : ℕ → ℤ) → y ≡ ran f (lows n * s) 0 s ((lows n - 1) * s) (at l) → y ≡ some_highs f on ((lows n - 1) * s)
  middle_highs y e = e ∙ patch_ext _ _ _ _ _ (λ p h. sym (highs_middle f s n (at l) on.two p h))

  module _ (y : ℕ → ℤ) (is : y ≡ some_highs f on ((lows n - 1) * s)) where
    pub last_high_asks : lows n - 1 < highs n → AtHighs P s n (at l) → SafeBy P (lows n * s + (lows n - 1) * s) ((lows n - 1) * s) ((lows n - 1) * s) s y
    last_high_asks h safe =
        let z = sizes s n on.two in
        let even = z.even h in
        next_safe _ _ _ _ s _ _ _ is (omega arith) (omega arith) P (λ j g. as_type (highs_last P s n (at l) on.two h j g) (at_highs P s n (at l) on.two safe _ (omega arith)))

    pub all_highs : lows n - 1 < highs n → (z : ℕ → ℤ) → z ≡ ran f (lows n * s + (lows n - 1) * s) ((lows n - 1) * s) ((lows n - 1) * s) s y → z ≡ highs_done f s n (at l)
    all_highs h z e =
        let c = sizes s n on.two in
        let even = c.even h in
        next_run _ _ ((lows n - 1) * s) ((lows n - 1) * s) s _ _ _ is (omega arith) (omega arith) f _ _ e (omega arith) (λ j g. sym (highs_last f s n (at l) on.two h j g))

    pub no_last_high : ¬ (lows n - 1 < highs n) → y ≡ highs_done f s n (at l)
    no_last_high h =
        let e : (lows n - 1) * s ≡ highs n * s = ap (λ (t : ℕ). t * s) (omega arith) in
        patch_to _ _ _ _ _ _ is e

  -- ---- the lows: the first line, the middle, then the last line where n is odd

  pub first_low_asks : AtLows P s n (at l) → SafeBy P 0 (lows n * s) (lows n * s) s (at l)
  first_low_asks safe p h = let z = sizes s n on.two in as_type (lows_first_lem P s n (at l) on.two p h) (at_lows P s n (at l) on.two safe p (omega arith))

  pub first_lows_lem : (y : ℕ → ℤ) → y ≡ ran f 0 (lows n * s) (lows n * s) s (at l) → y ≡ some_lows f on s
  first_lows_lem y e = e ∙ patch_ext _ _ _ _ _ (λ p h. sym (lows_first_lem f s n (at l) on.two p h))

  module _ (y : ℕ → ℤ) (is : y ≡ some_lows f on s) where
    pub middle_low_asks : AtLows P s n (at l) → SafeBy P s (lows n * s) (lows n * s + s) ((highs n - 1) * s) y
    middle_low_asks safe =
        let z = sizes s n on.two in
        front_safe s _ _ ((highs n - 1) * s) _ _ _ is (omega arith) (omega arith) P (λ p h. as_type (lows_middle P s n (at l) on.two p h) (at_lows P s n (at l) on.two safe _ (omega arith)))

    pub middle_lows : (z : ℕ → ℤ) → z ≡ ran f s (lows n * s) (lows n * s + s) ((highs n - 1) * s) y → z ≡ some_lows f on (highs n * s)
    middle_lows z e =
        let c = sizes s n on.two in
        front_run s (lows n * s) (lows n * s + s) ((highs n - 1) * s) _ _ _ is (omega arith) (omega arith) f _ _ e (omega arith) (λ p h. sym (lows_middle f s n (at l) on.two p h))

  module _ (y : ℕ → ℤ) (is : y ≡ some_lows f on (highs n * s)) where
    pub last_low_asks : highs n < lows n → AtLows P s n (at l) → SafeBy P (highs n * s) (lows n * s + (highs n - 1) * s) (lows n * s + (highs n - 1) * s) s y
    last_low_asks h safe =
        let z = sizes s n on.two in
        let odd = z.odd h in
        front_safe (highs n * s) _ _ s _ _ _ is (omega arith) (omega arith) P (λ p g. as_type (lows_last P s n (at l) on.two h p g) (at_lows P s n (at l) on.two safe _ (omega arith)))

    pub all_lows : highs n < lows n → (z : ℕ → ℤ) → z ≡ ran f (highs n * s) (lows n * s + (highs n - 1) * s) (lows n * s + (highs n - 1) * s) s y → z ≡ lows_done f s n (at l)
    all_lows h z e =
        let c = sizes s n on.two in
        let odd = c.odd h in
        let end = lows n * s + (highs n - 1) * s in
        front_run (highs n * s) end end s _ _ _ is (omega arith) (omega arith) f _ _ e (omega arith) (λ p g. sym (lows_last f s n (at l) on.two h p g))

    pub no_last_low : ¬ (highs n < lows n) → y ≡ lows_done f s n (at l)
    no_last_low h =
        let e : highs n * s ≡ lows n * s = ap (λ (t : ℕ). t * s) (omega arith) in
        patch_to _ _ _ _ _ _ is e

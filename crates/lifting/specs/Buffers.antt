-- A line buffer: n lines of s values, one after the other, the lines of the lows first and then those of the highs. A row is a line buffer with s = 1.
use Rattle.std.specs.Prelude.{◌≡◌, List, ℤ, length}
use Rattle.std.proofs.Common.{sym, subst, ◌∙◌, add-mul, mod-lt, div-add-mod', div-lt_iff_lt-mul, mod-eq_of_lt, mul-le-mul_right}
use Rattle.std.proofs.Math.Path.{ap}
use Prim.Native.Nat.{ℕ, zero, suc, ◌+◌, ◌*◌, ◌-◌, ◌/◌, ◌%◌, ◌<◌, ◌≤◌, ◌^◌}
use native.Mathlib.Omega.{arith}
use Rattle.std.proofs.Math.Decide.{dec_lt}
use Rattle.std.proofs.Math.Nat.{mul-add-div_right, mul-add-mod_self_right, div-eq_of_lt}
use Rattle.lines.specs.Lines.{lows, highs, Liftable, low_after, high_before, high_after, on_highs, on_lows, lows_first, interleaved}
use Rattle.lines.specs.LineLaws.{some_lows_lem, some_highs_lem, first_low_lem, first_high, even_place_lem, odd_place, by_half, by_parity}
use Rattle.lines.specs.Neighbours.{low_after_in, high_before_in, high_after_in, low_after_next, high_before_next, high_after_next, low_after_last, high_before_first, high_after_last}
use Rattle.slices.specs.Patch.{patch, patch_in, patch_below, patch_above}
use Rattle.slices.specs.Runs.{as_type}
use Rattle.slices.specs.PatchLines.{line_at, patch_lines, lines_apart, lines_in}
use Rattle.lifting.specs.declared.Pair.{Pair}
use Rattle.lifting.specs.Steps.{applied, Safe}
use Rattle.lifting.specs.Passes.{lifted_highs, lifted_lows, SafePair}

-- n lines of s values have room
pub record Buffer (l : List ℤ) (s n : ℕ) : Type 0 where
  pub two : Liftable n
  pub few : n < 2 ^ 63
  pub room : n * s ≤ length l

-- the same, of a slice as long
pub buffer_as : {l : List ℤ} {s n : ℕ} → Buffer l s n → (t : List ℤ) → length t ≡ length l → Buffer t s n
buffer_as on t e = record { two = on.two; few = on.few; room = omega (arith, on.room) }

-- value i of column j of lines that lie one after the other
abbrev pub column : {A : Type 0} → ℕ → (ℕ → A) → ℕ → ℕ → A
column s x j i = x (i * s + j)

-- the same of the lines of the highs
abbrev pub high_column : {A : Type 0} → ℕ → ℕ → (ℕ → A) → ℕ → ℕ → A
high_column s n x = column s (λ p. x (lows n * s + p))

-- lines one after the other, value i of column j being t j i
abbrev pub packed {ℓ} : {B : Type ℓ} → ℕ → (ℕ → ℕ → B) → ℕ → B
packed s t p = t (p % s) (p / s)

-- a step at each high of each column, and one at each low
abbrev pub highs_done : {A : Type 0} → (A → A → A → A) → ℕ → ℕ → (ℕ → A) → ℕ → A
highs_done f s n x = patch (lows n * s) (highs n * s) (packed s (λ j. on_highs f n (column s x j) (high_column s n x j))) x

abbrev pub lows_done : {A : Type 0} → (A → A → A → A) → ℕ → ℕ → (ℕ → A) → ℕ → A
lows_done f s n x = patch 0 (lows n * s) (packed s (λ j. on_lows f n (column s x j) (high_column s n x j))) x

-- P holds where each step is taken
abbrev pub AtHighs : {A : Type 0} → (A → A → A → Type 0) → ℕ → ℕ → (ℕ → A) → Type 0
AtHighs P s n x = (i j : ℕ) → i < highs n → j < s → on_highs P n (column s x j) (high_column s n x j) i

abbrev pub AtLows : {A : Type 0} → (A → A → A → Type 0) → ℕ → ℕ → (ℕ → A) → Type 0
AtLows P s n x = (i j : ℕ) → i < lows n → j < s → on_lows P n (column s x j) (high_column s n x j) i

-- ---- places of packed lines

module _ {ℓ} (P : ℕ → Type ℓ) (s k : ℕ) where
  -- a place lies on a line
  pub by_line : ((i j : ℕ) → i < k → j < s → P (i * s + j)) → (p : ℕ) → p < k * s → P p
  by_line h p l =
      let some : 0 < s = go s l in
      subst P (div-add-mod' p s) (h (p / s) (p % s) ((div-lt_iff_lt-mul some).1 l) (mod-lt p some))
    where
      go : (s : ℕ) → p < k * s → 0 < s
      go zero l = absurd (omega arith)
      go (suc s) l = omega arith

pub packed_at {ℓ} : {B : Type ℓ} (s : ℕ) (t : ℕ → ℕ → B) (i j : ℕ) → j < s → packed s t (i * s + j) ≡ t j i
packed_at s t i j h =
    let some : 0 < s = omega arith in
    let e : (i * s + j) / s ≡ i = mul-add-div_right some i j ∙ ap (λ (n : ℕ). i + n) (div-eq_of_lt h) ∙ omega arith in
    let f : (i * s + j) % s ≡ j = mul-add-mod_self_right i s j ∙ mod-eq_of_lt h in
    λ u. t (f u) (e u)

-- how many values the lines have
pub record Sizes (s n : ℕ) : Type 0 where
  pub all : n * s ≡ lows n * s + highs n * s
  pub of_lows : lows n * s ≡ (lows n - 1) * s + s
  pub of_highs : highs n * s ≡ (highs n - 1) * s + s
  pub fewer : highs n * s ≤ lows n * s
  pub most : (lows n - 1) * s ≤ highs n * s
  pub even : lows n - 1 < highs n → highs n * s ≡ lows n * s
  pub odd : highs n < lows n → lows n * s ≡ highs n * s + s

pub sizes : (s n : ℕ) → Liftable n → Sizes s n
sizes s n two = record {
  all = times (omega arith) ∙ add-mul (lows n) (highs n) s;
  of_lows = more (lows n - 1) (omega (arith, some_lows_lem n two));
  of_highs = more (highs n - 1) (omega (arith, some_highs_lem n two));
  fewer = mul-le-mul_right {m = highs n} {n = lows n} s (omega arith);
  most = mul-le-mul_right {m = lows n - 1} {n = highs n} s (omega arith);
  even = λ h. times (omega arith);
  odd = λ h. more (highs n) (omega arith);
}
  where
    times : {a b : ℕ} → a ≡ b → a * s ≡ b * s
    times e = ap (λ (t : ℕ). t * s) e

    more : {a : ℕ} (b : ℕ) → a ≡ suc b → a * s ≡ b * s + s
    more b e = times e ∙ omega arith

-- ---- a line buffer's runs: the middle, and the ends, where a neighbour stands for the one that is missing

at3 {ℓ} : {A : Type 0} {B : Type ℓ} (f : A → A → A → B) (x : ℕ → A) (i j k i' j' k' : ℕ) → (i ≡ i') × (j ≡ j') × (k ≡ k') → f (x i) (x j) (x k) ≡ f (x i') (x j') (x k')
at3 f x i j k i' j' k' e = λ u. f (x (e.0 u)) (x (e.1 u)) (x (e.2 u))

module _ {ℓ} {A : Type 0} {B : Type ℓ} (f : A → A → A → B) (s n : ℕ) (x : ℕ → A) (two : Liftable n) where
  -- what the highs and the lows become
  abbrev pub new_highs : ℕ → ℕ → B
  new_highs j = on_highs f n (column s x j) (high_column s n x j)

  abbrev pub new_lows : ℕ → ℕ → B
  new_lows j = on_lows f n (column s x j) (high_column s n x j)

  abbrev top : ℕ
  top = lows n * s

  times : {a b : ℕ} → a ≡ b → a * s ≡ b * s
  times e = ap (λ (t : ℕ). t * s) e

  pub highs_middle : (p : ℕ) → p < (lows n - 1) * s → packed s new_highs p ≡ f (x (top + p)) (x (0 + p)) (x (s + p))
  unfolding on_highs
  highs_middle = by_line (λ p. packed s new_highs p ≡ f (x (top + p)) (x (0 + p)) (x (s + p))) s (lows n - 1) λ i j h g.
      packed_at s new_highs i j g ∙ at3 f x _ _ _ _ _ _ (let e : low_after n i * s ≡ suc i * s = times (omega (arith, low_after_next n i (omega arith))) in omega arith)

  pub highs_last : lows n - 1 < highs n → (j : ℕ) → j < s → packed s new_highs ((lows n - 1) * s + j) ≡ f (x (top + (lows n - 1) * s + j)) (x ((lows n - 1) * s + j)) (x ((lows n - 1) * s + j))
  unfolding on_highs
  highs_last even j g = packed_at s new_highs (lows n - 1) j g ∙ at3 f x _ _ _ _ _ _ (let e : low_after n (lows n - 1) * s ≡ (lows n - 1) * s = times (low_after_last n (lows n - 1) even (omega arith)) in omega arith)

  pub lows_first_lem : (j : ℕ) → j < s → packed s new_lows j ≡ f (x (0 + j)) (x (top + j)) (x (top + j))
  unfolding on_lows
  lows_first_lem j g =
      let e : j ≡ 0 * s + j = omega arith in
      ap (packed s new_lows) e ∙ packed_at s new_lows 0 j g ∙ at3 f x _ _ _ _ _ _ (let d : high_before 0 * s ≡ 0 * s = times high_before_first in let e : high_after n 0 * s ≡ 0 * s = times (high_after_next n 0 (some_highs_lem n two)) in omega arith)

  pub lows_middle : (p : ℕ) → p < (highs n - 1) * s → packed s new_lows (s + p) ≡ f (x (s + p)) (x (top + p)) (x (top + s + p))
  unfolding on_lows
  lows_middle = by_line (λ p. packed s new_lows (s + p) ≡ f (x (s + p)) (x (top + p)) (x (top + s + p))) s (highs n - 1) λ i j h g.
      let e : s + (i * s + j) ≡ suc i * s + j = omega arith in
      ap (packed s new_lows) e ∙ packed_at s new_lows (suc i) j g ∙ at3 f x _ _ _ _ _ _
      (let d : high_before (suc i) * s ≡ i * s = times (omega (arith, high_before_next (suc i) (omega arith))) in let e : high_after n (suc i) * s ≡ suc i * s = times (high_after_next n (suc i) (omega arith)) in omega arith)

  pub lows_last : highs n < lows n → (j : ℕ) → j < s → packed s new_lows (highs n * s + j)
      ≡ f (x (highs n * s + j)) (x (top + (highs n - 1) * s + j)) (x (top + (highs n - 1) * s + j))
  unfolding on_lows
  lows_last odd j g = packed_at s new_lows (highs n) j g ∙ at3 f x _ _ _ _ _ _ (let d : high_before (highs n) * s ≡ (highs n - 1) * s = times (high_before_next (highs n) (some_highs_lem n two)) in let e : high_after n (highs n) * s ≡ (highs n - 1) * s = times (high_after_last n (highs n) odd (omega arith)) in omega arith)

module _ {A : Type 0} (P : A → A → A → Type 0) (s n : ℕ) (x : ℕ → A) (two : Liftable n) where
  pub at_highs : AtHighs P s n x → (p : ℕ) → p < highs n * s → packed s (new_highs P s n x two) p
  at_highs safe = by_line (λ p. packed s (new_highs P s n x two) p) s (highs n) λ i j h g. as_type (sym (packed_at s (new_highs P s n x two) i j g)) (safe i j h g)

  pub at_lows : AtLows P s n x → (p : ℕ) → p < lows n * s → packed s (new_lows P s n x two) p
  at_lows safe = by_line (λ p. packed s (new_lows P s n x two) p) s (lows n) λ i j h g. as_type (sym (packed_at s (new_lows P s n x two) i j g)) (safe i j h g)

-- ---- a line buffer whose first a low lines are those of the columns l, and whose first b high lines, from place top on, those of h

pub record Filled {A : Type 0} (s top a b : ℕ) (l h : ℕ → ℕ → A) (y : ℕ → A) : Type 0 where
  pub low : (i j : ℕ) → i < a → j < s → y (i * s + j) ≡ l j i
  pub high : (i j : ℕ) → i < b → j < s → y (top + (i * s + j)) ≡ h j i

abbrev pub BufferHolds : {A : Type 0} → ℕ → ℕ → (ℕ → ℕ → A) → (ℕ → ℕ → A) → (ℕ → A) → Type 0
BufferHolds s n l h y = Filled s (lows n * s) (lows n) (highs n) l h y

pub filled_none : {A : Type 0} (s top : ℕ) (l h : ℕ → ℕ → A) (y : ℕ → A) → Filled s top 0 0 l h y
filled_none s top l h y = record { low = λ i j p g. absurd (omega arith); high = λ i j p g. absurd (omega arith) }

-- so many lines, written otherwise
pub filled_to : {A : Type 0} {s top a b c d : ℕ} {l h : ℕ → ℕ → A} {y : ℕ → A} → Filled s top a b l h y → a ≡ c → b ≡ d → Filled s top c d l h y
filled_to filled e f = record { low = λ i j p g. filled.low i j (omega arith) g; high = λ i j p g. filled.high i j (omega arith) g }

module _ {A : Type 0} {s top a b : ℕ} {l h : ℕ → ℕ → A} {y : ℕ → A} (filled : Filled s top a b l h y) (z row : ℕ → A) where
  -- one line more of the lows
  pub filled_low : z ≡ patch (a * s) s row y → ((j : ℕ) → j < s → row j ≡ l j a) → suc a * s ≤ top → Filled s top (a + 1) b l h z
  filled_low e same fits = record {
    low = λ i j p g. go i j p g (dec_lt i a);
    high = λ i j p g. ap (λ (q : ℕ → A). q (top + (i * s + j))) e ∙ patch_above (a * s) s row y _ (omega arith) ∙ filled.high i j p g;
  }
    where
      go : (i j : ℕ) → i < a + 1 → j < s → Dec (i < a) → z (i * s + j) ≡ l j i
      go i j p g (yes u) = ap (λ (q : ℕ → A). q (i * s + j)) e ∙ patch_below (a * s) s row y _ (omega (arith, mul-le-mul_right {m = suc i} {n = a} s (omega arith))) ∙ filled.low i j u g
      go i j p g (no f) =
          let q : i ≡ a = omega arith in
          rw q (ap (λ (q : ℕ → A). q (a * s + j)) e ∙ patch_in (a * s) s row y j g ∙ same j g)

  -- one line more of the highs
  pub filled_high : z ≡ patch (top + b * s) s row y → ((j : ℕ) → j < s → row j ≡ h j b) → a * s ≤ top → Filled s top a (b + 1) l h z
  filled_high e same fits = record {
    low = λ i j p g. ap (λ (q : ℕ → A). q (i * s + j)) e ∙ patch_below (top + b * s) s row y _ (omega (arith, mul-le-mul_right {m = suc i} {n = a} s (omega arith))) ∙ filled.low i j p g;
    high = λ i j p g. go i j p g (dec_lt i b);
  }
    where
      go : (i j : ℕ) → i < b + 1 → j < s → Dec (i < b) → z (top + (i * s + j)) ≡ h j i
      go i j p g (yes u) = ap (λ (q : ℕ → A). q (top + (i * s + j))) e ∙ patch_below (top + b * s) s row y _ (omega (arith, mul-le-mul_right {m = suc i} {n = b} s (omega arith))) ∙ filled.high i j u g
      go i j p g (no f) =
          let q : i ≡ b = omega arith in
          let w : top + (b * s + j) ≡ top + b * s + j = omega arith in
          rw q (ap z w ∙ ap (λ (q : ℕ → A). q (top + b * s + j)) e ∙ patch_in (top + b * s) s row y j g ∙ same j g)

-- ---- what a step reads and makes of a line buffer

module _ {ℓ} {A : Type 0} {B : Type ℓ} (f : A → A → A → B) {s n : ℕ} {l h : ℕ → ℕ → A} {y : ℕ → A} (two : Liftable n) (held : BufferHolds s n l h y) (i j : ℕ) (g : j < s) where
  high_reads : i < highs n → new_highs f s n y two j i ≡ on_highs f n (l j) (h j) i
  unfolding on_highs
  high_reads p = λ u. f (held.high i j p g u) (held.low i j (omega arith) g u) (held.low (low_after n i) j (low_after_in n i p) g u)

  low_reads : i < lows n → new_lows f s n y two j i ≡ on_lows f n (l j) (h j) i
  unfolding on_lows
  low_reads p = λ u. f (held.low i j p g u) (held.high (high_before i) j (high_before_in n i (some_highs_lem n two) p) g u) (held.high (high_after n i) j (high_after_in n i (some_highs_lem n two) p) g u)

module _ {A : Type 0} {s n : ℕ} {l h : ℕ → ℕ → A} {y : ℕ → A} (two : Liftable n) (held : BufferHolds s n l h y) where
  pub high_asked : (P : A → A → A → Type 0) → ((i j : ℕ) → i < highs n → j < s → on_highs P n (l j) (h j) i) → AtHighs P s n y
  high_asked P safe i j p g = as_type (sym (high_reads P two held i j g p)) (safe i j p g)

  pub low_asked : (P : A → A → A → Type 0) → ((i j : ℕ) → i < lows n → j < s → on_lows P n (l j) (h j) i) → AtLows P s n y
  low_asked P safe i j p g = as_type (sym (low_reads P two held i j g p)) (safe i j p g)

  pub high_held : (f : A → A → A → A) → BufferHolds s n l (λ j. on_highs f n (l j) (h j)) (highs_done f s n y)
  high_held f = record {
    low = λ i j p g. patch_below _ _ _ y _ (omega (arith, mul-le-mul_right {m = suc i} {n = lows n} s (omega arith))) ∙ held.low i j p g;
    high = λ i j p g. patch_in _ _ _ y (i * s + j) (omega (arith, mul-le-mul_right {m = suc i} {n = highs n} s (omega arith))) ∙ packed_at s (new_highs f s n y two) i j g ∙ high_reads f two held i j g p;
  }

  pub low_held : (f : A → A → A → A) → BufferHolds s n (λ j. on_lows f n (l j) (h j)) h (lows_done f s n y)
  low_held f = record {
    low = λ i j p g. ap (lows_done f s n y) (let e : i * s + j ≡ 0 + (i * s + j) = omega arith in e) ∙ patch_in 0 _ _ y (i * s + j) (omega (arith, mul-le-mul_right {m = suc i} {n = lows n} s (omega arith))) ∙ packed_at s (new_lows f s n y two) i j g ∙ low_reads f two held i j g p;
    high = λ i j p g. patch_above 0 _ _ y _ (omega arith) ∙ held.high i j p g;
  }

-- ---- a pair of steps: the highs, then the lows; inverted, the other way round

abbrev pub lifted_buffer : Pair → ℕ → ℕ → (ℕ → ℤ) → ℕ → ℤ
lifted_buffer pair s n x = lows_done (applied pair.lows) s n (highs_done (applied pair.highs) s n x)

abbrev pub inverse_lifted_buffer : Pair → ℕ → ℕ → (ℕ → ℤ) → ℕ → ℤ
inverse_lifted_buffer pair s n x = highs_done (applied pair.highs) s n (lows_done (applied pair.lows) s n x)

pub record LiftSafe (pair : Pair) (s n : ℕ) (x : ℕ → ℤ) : Type 0 where
  pub on_highs_lem : AtHighs (Safe pair.highs) s n x
  pub on_lows_lem : AtLows (Safe pair.lows) s n (highs_done (applied pair.highs) s n x)

pub record InverseLiftSafe (pair : Pair) (s n : ℕ) (x : ℕ → ℤ) : Type 0 where
  pub on_lows_lem : AtLows (Safe pair.lows) s n x
  pub on_highs_lem : AtHighs (Safe pair.highs) s n (lows_done (applied pair.lows) s n x)

module _ (pair : Pair) {s n : ℕ} {l h : ℕ → ℕ → ℤ} {y : ℕ → ℤ} (two : Liftable n) (held : BufferHolds s n l h y) where
  pub lift_held : (z : ℕ → ℤ) → z ≡ lifted_buffer pair s n y → BufferHolds s n (λ j. lifted_lows pair n (l j) (h j)) (λ j. lifted_highs pair n (l j) (h j)) z
  lift_held z e = subst (BufferHolds s n _ _) (sym e) (low_held two (high_held two held (applied pair.highs)) (applied pair.lows))

  pub lift_asked : ((j : ℕ) → j < s → SafePair pair n (l j) (h j)) → LiftSafe pair s n y
  lift_asked safe = record {
    on_highs_lem = high_asked two held (Safe pair.highs) (λ i j p g. (safe j g).on_highs_lem i p);
    on_lows_lem = low_asked two (high_held two held (applied pair.highs)) (Safe pair.lows) (λ i j p g. (safe j g).on_lows_lem i p);
  }

  pub inverse_lift_held : (z : ℕ → ℤ) → z ≡ inverse_lifted_buffer pair s n y → BufferHolds s n (λ j. on_lows (applied pair.lows) n (l j) (h j)) (λ j. on_highs (applied pair.highs) n (on_lows (applied pair.lows) n (l j) (h j)) (h j)) z
  inverse_lift_held z e = subst (BufferHolds s n _ _) (sym e) (high_held two (low_held two held (applied pair.lows)) (applied pair.highs))

  pub inverse_lift_asked : ((i j : ℕ) → i < lows n → j < s → on_lows (Safe pair.lows) n (l j) (h j) i)
      → ((i j : ℕ) → i < highs n → j < s → on_highs (Safe pair.highs) n (on_lows (applied pair.lows) n (l j) (h j)) (h j) i) → InverseLiftSafe pair s n y
  inverse_lift_asked p q = record { on_lows_lem = low_asked two held (Safe pair.lows) p; on_highs_lem = high_asked two (low_held two held (applied pair.lows)) (Safe pair.highs) q }

-- line i of such a line buffer
pub held_at : {A : Type 0} {s n : ℕ} {l h : ℕ → ℕ → A} {y : ℕ → A} → BufferHolds s n l h y → (i j : ℕ) → i < n → j < s → y (0 + i * s + j) ≡ lows_first n (l j) (h j) i
held_at {A} {s} {n} {l} {h} {y} held i j p g = by_half (λ i. y (0 + i * s + j) ≡ lows_first n (l j) (h j) i) n
    (λ i p. ap y (omega arith) ∙ held.low i j p g ∙ sym (first_low_lem n (l j) (h j) i p))
    (λ i p. ap y (omega (arith, add-mul (lows n) i s)) ∙ held.high i j p g ∙ sym (first_high n (l j) (h j) i))
    i p

-- each line to its own place
pub held_woven : {A : Type 0} {s n : ℕ} {l h : ℕ → ℕ → A} {y : ℕ → A} → BufferHolds s n l h y → (i j : ℕ) → i < n → j < s → interleaved (column s y j) (high_column s n y j) i ≡ interleaved (l j) (h j) i
held_woven {A} {s} {n} {l} {h} {y} held i j p g = by_parity (λ i. interleaved (column s y j) (high_column s n y j) i ≡ interleaved (l j) (h j) i) n
    (λ i p. even_place_lem _ _ i ∙ held.low i j p g ∙ sym (even_place_lem (l j) (h j) i))
    (λ i p. odd_place _ _ i ∙ held.high i j p g ∙ sym (odd_place (l j) (h j) i))
    i p

-- lines that lie split already
pub whole_held : {A : Type 0} (s n : ℕ) (r : ℕ → ℕ → A) (t z : ℕ → A) → z ≡ patch_lines (line_at 0 s) s n (λ i j. r j i) t → BufferHolds s n r (λ j i. r j (lows n + i)) z
whole_held {A} s n r t z e = record {
  low = λ i j p g. ap z (omega arith) ∙ is i j (omega arith) g;
  high = λ i j p g. ap z (omega (arith, add-mul (lows n) i s)) ∙ is (lows n + i) j (omega arith) g;
}
  where
    is : (i j : ℕ) → i < n → j < s → z (line_at 0 s i + j) ≡ r j i
    is i j p g = ap (λ (q : ℕ → A). q (line_at 0 s i + j)) e ∙ lines_in (line_at 0 s) s _ t (λ u v a. lines_apart 0 s s u v (omega arith) (omega arith)) n i j p g

-- ---- a row: what its places hold, and its lows or its highs each replaced by what f makes of it

module _ {A : Type 0} (n : ℕ) {l h : ℕ → ℕ → A} {y : ℕ → A} (held : BufferHolds 1 n l h y) where
  low_place : (i j : ℕ) → j < 1 → i * 1 + j ≡ 0 + i
  low_place i j g = omega arith

  high_place_lem : (i j : ℕ) → j < 1 → lows n * 1 + (i * 1 + j) ≡ lows n + i
  high_place_lem i j g = omega arith

  pub row_low : (i : ℕ) → i < lows n → y (0 + i) ≡ l 0 i
  row_low i p = ap y (sym (low_place i 0 (omega arith))) ∙ held.low i 0 p (omega arith)

  pub row_high : (i : ℕ) → i < highs n → y (lows n + i) ≡ h 0 i
  row_high i p = ap y (sym (high_place_lem i 0 (omega arith))) ∙ held.high i 0 p (omega arith)

  pub row_at : (i : ℕ) → i < n → y i ≡ lows_first n (l 0) (h 0) i
  row_at i p = ap y (let e : i ≡ 0 + i * 1 + 0 = omega arith in e) ∙ held_at {n = n} held i 0 p (omega arith)

  pub lows_each : (f : A → A) (z : ℕ → A) → z ≡ patch 0 (lows n) (λ i. f (y (0 + i))) y → BufferHolds 1 n (λ j i. f (l j i)) h z
  lows_each f z e = record {
    low = λ i j p g. ap z (low_place i j g) ∙ ap (λ (q : ℕ → A). q (0 + i)) e ∙ patch_in 0 (lows n) _ y i p ∙ ap f (ap y (sym (low_place i j g)) ∙ held.low i j p g);
    high = λ i j p g. ap (λ (q : ℕ → A). q (lows n * 1 + (i * 1 + j))) e ∙ patch_above 0 (lows n) _ y _ (omega arith) ∙ held.high i j p g;
  }

  pub highs_each : (f : A → A) (z : ℕ → A) → z ≡ patch (lows n) (highs n) (λ i. f (y (lows n + i))) y → BufferHolds 1 n l (λ j i. f (h j i)) z
  highs_each f z e = record {
    low = λ i j p g. ap (λ (q : ℕ → A). q (i * 1 + j)) e ∙ patch_below (lows n) (highs n) _ y _ (omega arith) ∙ held.low i j p g;
    high = λ i j p g. ap z (high_place_lem i j g) ∙ ap (λ (q : ℕ → A). q (lows n + i)) e ∙ patch_in (lows n) (highs n) _ y i p ∙ ap f (ap y (sym (high_place_lem i j g)) ∙ held.high i j p g);
  }

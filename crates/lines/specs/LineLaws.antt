-- Laws of the places of a line.
use Rattle.std.specs.Prelude.{ℕ, zero, suc, ◌+◌, ◌*◌, ◌-◌, ◌/◌, ◌%◌, ◌<◌, ◌≤◌, Bool, true, false, not, ◌≡◌, refl, T, ltb, eqb}
use Rattle.std.proofs.Common.{sym, ◌∙◌, subst, ltb→lt, nltb→le, eqb→eq}
use Rattle.std.proofs.Math.Path.{ap}
use native.Mathlib.Omega.{arith}
use Rattle.numbers.specs.Tests.{ltb-true, ltb-false}
use Rattle.lines.specs.Lines.{lows, highs, Liftable, lows_first, interleaved}

-- a line of two samples or more has a low and a high
module _ (n : ℕ) (works : Liftable n) where
  pub some_lows_lem : 1 ≤ lows n
  some_lows_lem = omega arith

  pub some_highs_lem : 1 ≤ highs n
  some_highs_lem = omega arith

-- ---- lines that are split or interleaved

abbrev pick : {A : Type 0} → A → A → Bool → A
pick a b t = elim t [ true ↦ a | false ↦ b ]

module _ {A : Type 0} (n : ℕ) (l h : ℕ → A) where
  pub first_low_lem : (i : ℕ) → i < lows n → lows_first n l h i ≡ l i
  unfolding lows_first
  first_low_lem i p = ap (pick (l i) (h (i - lows n))) (ltb-true i (lows n) p)

  pub first_high : (i : ℕ) → lows_first n l h (lows n + i) ≡ h i
  unfolding lows_first
  first_high i =
      let e : lows n + i - lows n ≡ i = omega arith in
      ap (pick (l (lows n + i)) (h (lows n + i - lows n))) (ltb-false (lows n + i) (lows n) (omega arith)) ∙ ap h e

module _ {A : Type 0} (l h : ℕ → A) where
  pub even_place_lem : (i : ℕ) → interleaved l h (2 * i) ≡ l i
  unfolding interleaved
  even_place_lem i =
      let e : 2 * i % 2 ≡ 0 = omega arith in
      let f : 2 * i / 2 ≡ i = omega arith in
      ap (λ (t : ℕ). pick (l (2 * i / 2)) (h (2 * i / 2)) (eqb t 0)) e ∙ ap l f

  pub odd_place : (i : ℕ) → interleaved l h (2 * i + 1) ≡ h i
  unfolding interleaved
  odd_place i =
      let e : (2 * i + 1) % 2 ≡ 1 = omega arith in
      let f : (2 * i + 1) / 2 ≡ i = omega arith in
      ap (λ (t : ℕ). pick (l ((2 * i + 1) / 2)) (h ((2 * i + 1) / 2)) (eqb t 0)) e ∙ ap h f

-- a place is even or odd
pub by_parity : (P : ℕ → Type 0) (n : ℕ) → ((i : ℕ) → i < lows n → P (2 * i)) → ((i : ℕ) → i < highs n → P (2 * i + 1)) → (k : ℕ) → k < n → P k
by_parity P n even odd k h = go (eqb (k % 2) 0) refl
  where
    go : (b : Bool) → eqb (k % 2) 0 ≡ b → P k
    go true e =
        let z : k % 2 ≡ 0 = eqb→eq (k % 2) 0 (subst T (sym e) tt) in
        let f : 2 * (k / 2) ≡ k = omega arith in
        subst P f (even (k / 2) (omega arith))
    go false e =
        let z : k % 2 ≡ 1 = one (k % 2) e (omega arith) in
        let f : 2 * (k / 2) + 1 ≡ k = omega arith in
        subst P f (odd (k / 2) (omega arith))
      where
        one : (m : ℕ) → eqb m 0 ≡ false → m < 2 → m ≡ 1
        one zero e h = absurd (subst T e tt)
        one (suc zero) e h = refl
        one (suc (suc m)) e h = absurd (omega arith)

-- a place lies among the lows or among the highs
pub by_half : (P : ℕ → Type 0) (n : ℕ) → ((i : ℕ) → i < lows n → P i) → ((i : ℕ) → i < highs n → P (lows n + i)) → (k : ℕ) → k < n → P k
by_half P n l g k h = go (ltb k (lows n)) refl
  where
    go : (b : Bool) → ltb k (lows n) ≡ b → P k
    go true e = l k (ltb→lt k (lows n) (subst T (sym e) tt))
    go false e =
        let z : lows n ≤ k = nltb→le k (lows n) (subst (λ (t : Bool). T (not t)) (sym e) tt) in
        let f : lows n + (k - lows n) ≡ k = omega arith in
        subst P f (g (k - lows n) (omega arith))

-- ---- the same values

-- equal at the places below n
abbrev pub Equal : {A : Type 0} → ℕ → (ℕ → A) → (ℕ → A) → Type 0
Equal n x y = (i : ℕ) → i < n → x i ≡ y i

module _ {A : Type 0} (n : ℕ) where
  module _ {l h m g : ℕ → A} (at_lows : Equal (lows n) l m) (at_highs : Equal (highs n) h g) where
    pub first_equal : Equal n (lows_first n l h) (lows_first n m g)
    first_equal = by_half (λ i. lows_first n l h i ≡ lows_first n m g i) n
        (λ i p. first_low_lem n l h i p ∙ at_lows i p ∙ sym (first_low_lem n m g i p))
        (λ i p. first_high n l h i ∙ at_highs i p ∙ sym (first_high n m g i))

    pub interleaved_equal : Equal n (interleaved l h) (interleaved m g)
    interleaved_equal = by_parity (λ i. interleaved l h i ≡ interleaved m g i) n
        (λ i p. even_place_lem l h i ∙ at_lows i p ∙ sym (even_place_lem m g i))
        (λ i p. odd_place l h i ∙ at_highs i p ∙ sym (odd_place m g i))

  -- the lows and the highs of a line, in samples and lows first
  module _ {x y : ℕ → A} (same : Equal n x y) where
    pub evens_equal : Equal (lows n) (λ i. x (2 * i)) (λ i. y (2 * i))
    evens_equal i p = same (2 * i) (omega arith)

    pub odds_equal : Equal (highs n) (λ i. x (2 * i + 1)) (λ i. y (2 * i + 1))
    odds_equal i p = same (2 * i + 1) (omega arith)

    pub lows_equal : Equal (lows n) x y
    lows_equal i p = same i (omega arith)

    pub highs_equal : Equal (highs n) (λ i. x (lows n + i)) (λ i. y (lows n + i))
    highs_equal i p = same (lows n + i) (omega arith)

-- The neighbours by cases are document 01's mirrored ones, at every place of every length from 2 (`high_mirrored`, `low_mirrored`), and those of
-- Lines (`high_sides`, `low_sides`); so a filter by cases is the filter (`highs_are_lem`, `lows_are_lem`). Lengths 2 and 3, where the ends meet, are
-- stated by themselves (`length_two`, `length_three`).
use Rattle.std.specs.Prelude.{ℕ, zero, suc, ◌+◌, ◌*◌, ◌-◌, ◌<◌, true, false, ◌≡◌, pos, ◌+ℤ◌, ◌-ℤ◌}
use Rattle.std.proofs.Math.Path.{refl}
use Rattle.std.proofs.Common.{sym, ◌∙◌, ap, subst, arith}
use Rattle.numbers.specs.Tests.{by_ltb, by_eqb}
use Rattle.std.proofs.Math.IntN.{+ℤ-neg_ℤ_cancel}
use Rattle.lines.specs.Lines.{lows, highs, Liftable, low_after, high_before, high_after, on_highs, on_lows}
use Rattle.lines.specs.LineLaws.{some_highs_lem}
use Rattle.lines.specs.Mirror.{mirror}
use Rattle.lines.specs.MirrorLaws.{low_after_lem, high_after_lem}
use Rattle.lines.specs.Neighbours.{low_after_in, high_before_in, high_after_in, high_before_next}
use Rattle.lines.specs.InverseLaws.{Equivalence}
use Rattle.lines.specs.Cases.{Neighbours, one, two, of_high, of_low, by_case, highs_by_cases, lows_by_cases, Reduced}

-- the places before and after
abbrev pub before : Neighbours → ℕ
before (two j k) = j
before (one j) = j

abbrev pub after : Neighbours → ℕ
after (two j k) = k
after (one j) = j

-- ---- they are the neighbours of Lines

pub high_sides : (n i : ℕ) → i < highs n → (before (of_high n i) ≡ i) × (after (of_high n i) ≡ low_after n i)
unfolding of_high low_after
high_sides n i h = by_eqb (λ t. let p : Neighbours = elim t [ true ↦ one i | false ↦ two i (i + 1) ] in (before p ≡ i) × (after p ≡ low_after n i)) (2 * i + 2) n
    (λ e. (refl, omega arith)) (λ e. (refl, omega arith))

pub low_sides : (n i : ℕ) → Liftable n → i < lows n → (before (of_low n i) ≡ high_before i) × (after (of_low n i) ≡ high_after n i)
unfolding of_low high_before high_after
low_sides n zero works h = (refl, omega (arith, works))
low_sides n (suc i) works h = by_eqb (λ t. let p : Neighbours = elim t [ true ↦ one i | false ↦ two i (suc i) ] in (before p ≡ high_before (suc i)) × (after p ≡ high_after n (suc i))) (2 * suc i + 1) n
    (λ e. (omega arith, omega arith)) (λ e. (omega arith, omega arith))

-- ---- they are the mirrored samples

-- a place of the line is its own
own_place : (n j : ℕ) → j < n → j ≡ mirror n (pos j)
own_place n j h = by_ltb (λ t. j ≡ elim t [ true ↦ j | false ↦ 2 * (n - 1) - j ]) j n (λ l. refl) (λ l. absurd (omega arith))

-- high i is sample 2 i + 1
pub high_mirrored : (n i : ℕ) → i < highs n → (2 * before (of_high n i) ≡ mirror n (pos (2 * i + 1) -ℤ pos 1)) × (2 * after (of_high n i) ≡ mirror n (pos (2 * i + 1) +ℤ pos 1))
high_mirrored n i h =
    let s = high_sides n i h in
    let a : 2 * before (of_high n i) ≡ 2 * i = ap (λ (k : ℕ). 2 * k) s.0 in
    let b : 2 * i + 2 ≡ 2 * i + 1 + 1 = omega arith in
    (a ∙ own_place n (2 * i) (omega arith) ∙ ap (mirror n) (sym (+ℤ-neg_ℤ_cancel (pos (2 * i)) (pos 1))), ap (λ (k : ℕ). 2 * k) s.1 ∙ low_after_lem n i h ∙ ap (λ (k : ℕ). mirror n (pos k)) b)

-- low i is sample 2 i
pub low_mirrored : (n i : ℕ) → Liftable n → i < lows n → (2 * before (of_low n i) + 1 ≡ mirror n (pos (2 * i) -ℤ pos 1)) × (2 * after (of_low n i) + 1 ≡ mirror n (pos (2 * i) +ℤ pos 1))
unfolding of_low
low_mirrored n zero works h = (refl, ap (λ (k : ℕ). 2 * k + 1) (low_sides n 0 works h).1 ∙ high_after_lem n 0 works.least h)
low_mirrored n (suc i) works h =
    let s = low_sides n (suc i) works h in
    let a : 2 * before (of_low n (suc i)) + 1 ≡ 2 * i + 1 = ap (λ (k : ℕ). 2 * k + 1) (s.0 ∙ high_before_next (suc i) (omega arith)) ∙ omega arith in
    let b : 2 * i + 1 + 1 ≡ 2 * suc i = omega arith in
    (a ∙ own_place n (2 * i + 1) (omega arith) ∙ ap (mirror n) (sym (+ℤ-neg_ℤ_cancel (pos (2 * i + 1)) (pos 1)) ∙ ap (λ (k : ℕ). pos k -ℤ pos 1) b), ap (λ (k : ℕ). 2 * k + 1) s.1 ∙ high_after_lem n (suc i) works.least h)

-- ---- a filter by cases is the filter

-- a step makes alike values of alike values
pub record Congruence {A : Type 0} (R : A → A → Type 0) (step : A → A → A → A) : Type 0 where
  pub alike : {o o' x x' y y' : A} → R o o' → R x x' → R y y' → R (step o x y) (step o' x' y')

pub congruence_equal : {A : Type 0} (step : A → A → A → A) → Congruence (◌≡◌ {A = A}) step
congruence_equal step = record { alike = λ a b c. λ u. step (a u) (b u) (c u) }

-- what is read by cases, l and h, is alike to what is read by the neighbours of Lines, m and g
module _ {A : Type 0} {R : A → A → Type 0} (e : Equivalence R) {step : A → A → A → A} {end : A → A → A} (respects : Congruence R step) (reduced : Reduced R step end) where
  -- at places of neighbours p
  by_case_lem : (p : Neighbours) (own : A) (x : ℕ → A) → R (by_case step end own x p) (step own (x (before p)) (x (after p)))
  by_case_lem (two j k) own x = e.reflexive (step own (x j) (x k))
  by_case_lem (one j) own x = reduced own (x j)

  module _ (n : ℕ) (works : Liftable n) {l h m g : ℕ → A} (at_lows : (i : ℕ) → i < lows n → R (l i) (m i)) (at_highs : (i : ℕ) → i < highs n → R (h i) (g i)) where
    pub highs_are_lem : (i : ℕ) → i < highs n → R (highs_by_cases step end n l h i) (on_highs step n m g i)
    unfolding highs_by_cases on_highs
    highs_are_lem i p =
        let s = high_sides n i p in
        e.transitive (by_case_lem (of_high n i) (h i) l)
        (respects.alike (at_highs i p) (subst (λ (k : ℕ). R (l k) (m i)) (sym s.0) (at_lows i (omega arith))) (subst (λ (k : ℕ). R (l k) (m (low_after n i))) (sym s.1) (at_lows (low_after n i) (low_after_in n i p))))

    pub lows_are_lem : (i : ℕ) → i < lows n → R (lows_by_cases step end n l h i) (on_lows step n m g i)
    unfolding lows_by_cases on_lows
    lows_are_lem i p =
        let s = low_sides n i works p in
        e.transitive (by_case_lem (of_low n i) (l i) h)
        (respects.alike (at_lows i p) (subst (λ (k : ℕ). R (h k) (g (high_before i))) (sym s.0) (at_highs (high_before i) (high_before_in n i (some_highs_lem n works) p)))
        (subst (λ (k : ℕ). R (h k) (g (high_after n i))) (sym s.1) (at_highs (high_after n i) (high_after_in n i (some_highs_lem n works) p))))

-- ---- where the ends meet: a stage of any filter on the shortest lines

module _ {A : Type 0} {B : Type 0} (step : A → A → A → B) (end : A → A → B) (low high : ℕ → A) where
  -- length 2: the one high is the last of an even length, the one low is the first
  pub length_two : (highs_by_cases step end 2 low high 0 ≡ end (high 0) (low 0)) × (lows_by_cases step end 2 low high 0 ≡ end (low 0) (high 0))
  unfolding highs_by_cases lows_by_cases of_high of_low
  length_two = (refl, refl)

  -- length 3: the one high has two neighbours; it is the one neighbour of the first low and of the last low of an odd length
  pub length_three : (highs_by_cases step end 3 low high 0 ≡ step (high 0) (low 0) (low 1)) × (lows_by_cases step end 3 low high 0 ≡ end (low 0) (high 0)) × (lows_by_cases step end 3 low high 1 ≡ end (low 1) (high 0))
  unfolding highs_by_cases lows_by_cases of_high of_low
  length_three = (refl, refl, refl)

-- A constant at F bits is the nearest multiple of 2^-F, and no tie arises (document 01: the lifting), for each stage and F from 1 to 24:
-- twice its distance is below 2^-F (`no_tie`), and every other multiple is farther (`is_nearest`).
use Rattle.std.specs.Prelude.{ℕ, zero, suc, ◌+◌, ◌*◌, ◌^◌, ◌<◌, ◌≤◌, ◌≡◌, refl, Bool, true, ◌&&◌, T, ltb, ◌<ℤ◌, ℤ, pos, neg_ℤ, nat_abs, ◌+ℤ◌, ◌-ℤ◌, ◌*ℤ◌}
use Rattle.std.proofs.Common.{◌∙◌, ap, subst, arith, mul-pos, mul-le-mul_right, mul-lt-mul_of_pos_right, ltb→lt, pow_pos}
use Rattle.std.proofs.Math.Decide.{dec_lt}
use Rattle.numbers.specs.Dif.{by_dif, difs}
use Rattle.numbers.specs.Abs.{abs_mul, abs_sub, abs_zero}
use Rattle.exact.specs.Fractions.{Frac, ◌⊕◌, ◌⊗◌, neg, whole, magnitude, ◌<F◌}
use Rattle.width_table.specs.Nodes.{Node, P1, U1, P2, U2, G1, G2}
use Rattle.stages.specs.Fixed.{fixed_value, nearest}
use Rattle.numbers.specs.Tests.{both}
use Rattle.width_table.specs.Table.{max_constant_bits}
use Rattle.fixed_stages.specs.Constants.{constant_of, away_from}

-- one computed test: all six constants, F from 1 to most
clear : Frac → ℕ → Bool
clear c F = ltb (2 * nat_abs (nearest c F *ℤ pos c.den +ℤ neg_ℤ c.num *ℤ pos (2 ^ F))) c.den

clear_to : Frac → ℕ → Bool
unfolding clear
clear_to c zero = true
clear_to c (suc k) = clear c (suc k) && clear_to c k

tested : (n : Node) → T (clear_to (constant_of n) max_constant_bits)
unfolding clear_to clear nearest
tested P1 = tt
tested U1 = tt
tested P2 = tt
tested U2 = tt
tested G1 = tt
tested G2 = tt

-- one law
clear_at : (c : Frac) (m F : ℕ) → 1 ≤ F → F ≤ m → T (clear_to c m) → T (clear c F)
unfolding clear_to
clear_at c zero F a b h = absurd (omega arith)
clear_at c (suc k) F a b h = go (dec_lt F (suc k)) (λ i. clear_at c k F a i (both (clear c (suc k)) (clear_to c k) h).1)
  where
    go : Dec (F < suc k) → (F ≤ k → T (clear c F)) → T (clear c F)
    go (yes i) before = before (omega arith)
    go (no i) before = subst (λ (j : ℕ). T (clear c j)) (omega arith) (both (clear c (suc k)) (clear_to c k) h).0

half : (n : Node) (F : ℕ) → 1 ≤ F → F ≤ max_constant_bits → 2 * nat_abs (nearest (constant_of n) F *ℤ pos (constant_of n).den +ℤ neg_ℤ (constant_of n).num *ℤ pos (2 ^ F)) < (constant_of n).den
unfolding clear
half n F a b = ltb→lt _ _ (clear_at (constant_of n) max_constant_bits F a b (tested n))

-- Twice the distance is strictly below 2^-F.
pub no_tie : (n : Node) (F : ℕ) → 1 ≤ F → F ≤ max_constant_bits → whole (pos 2) ⊗ magnitude (away_from (constant_of n) F (nearest (constant_of n) F)) <F fixed_value (pos 1) F
unfolding ◌⊗◌ ◌⊕◌ neg whole magnitude fixed_value
no_tie n F a b = law _ (2 ^ F) (constant_of n).den (pow_pos F) (half n F a b)
  where
    law : (e P d : ℕ) → 0 < P → 2 * e < d → pos (2 * e * P) <ℤ pos (1 * (1 * (P * d)))
    law e P d z h = simp difs (omega (arith, mul-lt-mul_of_pos_right h z))

-- Every other multiple of 2^-F is farther.
pub is_nearest : (n : Node) (F : ℕ) → 1 ≤ F → F ≤ max_constant_bits → (z : ℤ) → ¬ (z ≡ nearest (constant_of n) F) → magnitude (away_from (constant_of n) F (nearest (constant_of n) F)) <F magnitude (away_from (constant_of n) F z)
unfolding ◌⊕◌ neg magnitude fixed_value
is_nearest n F a b z other = farther (nat_abs (at N)) (nat_abs (at z)) (2 ^ F * D) (mul-pos (pow_pos F) (constant_of n).above) (half n F a b) apart
  where
    D : ℕ
    D = (constant_of n).den

    N : ℤ
    N = nearest (constant_of n) F

    at : ℤ → ℤ
    at y = y *ℤ pos D +ℤ neg_ℤ (constant_of n).num *ℤ pos (2 ^ F)

    differ : (m : ℕ) (x y b : ℤ) → (x *ℤ pos m +ℤ b) -ℤ (y *ℤ pos m +ℤ b) ≡ (x -ℤ y) *ℤ pos m
    differ m = by_dif _ λ x x'. by_dif _ λ y y'. by_dif _ λ b b'. simp difs (omega arith)

    equal : (x y : ℤ) → x -ℤ y ≡ pos 0 → x ≡ y
    equal = by_dif _ λ x x'. by_dif _ λ y y'. simp difs (omega arith)

    one : (k : ℕ) → ¬ (k ≡ 0) → 1 ≤ k
    one zero i = absurd (i refl)
    one (suc k) i = omega arith

    least : 1 ≤ nat_abs (z -ℤ N)
    least = one _ (λ e. other (equal z N (abs_zero (z -ℤ N) e)))

    apart : D ≤ nat_abs (at z) + nat_abs (at N)
    apart = omega (arith, abs_sub (at z) (at N), ap nat_abs (differ D z N (neg_ℤ (constant_of n).num *ℤ pos (2 ^ F))) ∙ abs_mul (z -ℤ N) (pos D), mul-le-mul_right D least)

    farther : (e g K : ℕ) → 0 < K → 2 * e < D → D ≤ g + e → pos (e * K) <ℤ pos (g * K)
    farther e g K zK h i =
        let j : e < g = omega arith in
        simp difs (omega (arith, mul-lt-mul_of_pos_right j zK))

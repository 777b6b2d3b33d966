-- The exact 9/7 by cases is the exact 9/7, there and back, at every place of every length from 2 (`pass_is`, `back_is`).
use Rattle.std.specs.Prelude.{ℕ, ◌≡◌, List, [], ◌∷◌, ℤ, pos, ◌+ℤ◌, ◌*ℤ◌}
use Rattle.numbers.specs.Quote.{terms, vars, ring}
use Rattle.lines.specs.Lines.{lows, highs, Liftable}
use Rattle.lines.specs.LineLaws.{first_low_lem, first_high, even_place_lem, odd_place, by_parity, by_half}
use Rattle.lines.specs.OneLaws.{one_long}
use Rattle.lines.specs.Cases.{Reduced}
use Rattle.lines.proofs.CaseLaws.{highs_are_lem, lows_are_lem}
use Rattle.exact.specs.Fractions.{Frac, ◌≈◌, ◌⊕◌, ◌⊗◌, whole}
use Rattle.exact.specs.FracLaws.{≈-refl, ≈-sym, ≈-trans, ⊕-cong, ⊗-cong, neg_cong}
use Rattle.exact.specs.Exact.{alpha, beta, gamma, delta, zeta, zeta_inverse, lift, low₀, high₀, p1, u1, p2, u2, g1, g2, exact_long, exact_pass}
use Rattle.exact.specs.Inverse.{inverse_lift, un_g1, un_g2, un_u2, un_p2, un_u1, un_p1, exact_inverse_long, exact_inverse_pass}
use Rattle.exact.proofs.InverseLaws.{same_≈, is, lift_cong, inverse_lift_cong, Likewise}
use Rattle.exact.specs.Cases.{twice, lift_end, inverse_lift_end, p1_by_cases, u1_by_cases, p2_by_cases, u2_by_cases, pass_by_cases, un_u2_by_cases, un_p2_by_cases, un_u1_by_cases, un_p1_by_cases, inverse_by_cases}

-- ---- the reduced equations

twice_law : (c x p q : ℤ) → pos 2 *ℤ c *ℤ x *ℤ (p *ℤ (q *ℤ q)) ≡ c *ℤ (x *ℤ q +ℤ x *ℤ q) *ℤ (pos 1 *ℤ p *ℤ q)
twice_law c x p q = let ρ : List ℤ = c ∷ x ∷ p ∷ q ∷ [] in ring ρ (search (terms, vars ρ) depth 30) (search (terms, vars ρ) depth 30) tt

-- twice a constant times a value is the constant times the sum of it and itself
twice_is : (c x : Frac) → twice c ⊗ x ≈ c ⊗ (x ⊕ x)
unfolding ◌⊗◌ ◌⊕◌ whole
twice_is c x = record { eq = twice_law c.num x.num (pos c.den) (pos x.den) }

pub lift_end_lem : (c : Frac) → Reduced ◌≈◌ (lift c) (lift_end c)
unfolding lift lift_end
lift_end_lem c own x = ⊕-cong (≈-refl own) (twice_is c x)

pub inverse_lift_end_lem : (c : Frac) → Reduced ◌≈◌ (inverse_lift c) (inverse_lift_end c)
unfolding inverse_lift inverse_lift_end
inverse_lift_end_lem c own x = ⊕-cong (≈-refl own) (neg_cong (twice_is c x))

-- ---- the passes

module _ (n : ℕ) (works : Liftable n) where
  module _ (x : ℕ → Frac) where
    p1_is : Likewise (highs n) (p1_by_cases n x) (p1 n x)
    unfolding p1_by_cases p1
    p1_is = highs_are_lem same_≈ (lift_cong alpha) (lift_end_lem alpha) n works (λ i p. ≈-refl (low₀ n x i)) (λ i p. ≈-refl (high₀ n x i))

    u1_is : Likewise (lows n) (u1_by_cases n x) (u1 n x)
    unfolding u1_by_cases u1
    u1_is = lows_are_lem same_≈ (lift_cong beta) (lift_end_lem beta) n works (λ i p. ≈-refl (low₀ n x i)) p1_is

    p2_is : Likewise (highs n) (p2_by_cases n x) (p2 n x)
    unfolding p2_by_cases p2
    p2_is = highs_are_lem same_≈ (lift_cong gamma) (lift_end_lem gamma) n works u1_is p1_is

    u2_is : Likewise (lows n) (u2_by_cases n x) (u2 n x)
    unfolding u2_by_cases u2
    u2_is = lows_are_lem same_≈ (lift_cong delta) (lift_end_lem delta) n works u1_is p2_is

    long_is : Likewise n (pass_by_cases n x) (exact_long n x)
    unfolding pass_by_cases exact_long g1 g2
    long_is = by_half (λ k. pass_by_cases n x k ≈ exact_long n x k) n
        (λ i h. ≈-trans (is (first_low_lem n _ _ i h)) (≈-trans (⊗-cong (≈-refl zeta) (u2_is i h)) (≈-sym (is (first_low_lem n (g1 n x) (g2 n x) i h)))))
        (λ i h. ≈-trans (is (first_high n _ _ i)) (≈-trans (⊗-cong (≈-refl zeta_inverse) (p2_is i h)) (≈-sym (is (first_high n (g1 n x) (g2 n x) i)))))

    -- forward: source document 003, equations 2 to 4
    pub pass_is : Likewise n (pass_by_cases n x) (exact_pass n x)
    unfolding exact_pass
    pass_is k h = ≈-trans (long_is k h) (≈-sym (is (one_long (λ v. v) exact_long n x k works)))

  module _ (y : ℕ → Frac) where
    un_u2_is : Likewise (lows n) (un_u2_by_cases n y) (un_u2 n y)
    unfolding un_u2_by_cases un_u2
    un_u2_is = lows_are_lem same_≈ (inverse_lift_cong delta) (inverse_lift_end_lem delta) n works (λ i p. ≈-refl (un_g1 n y i)) (λ i p. ≈-refl (un_g2 n y i))

    un_p2_is : Likewise (highs n) (un_p2_by_cases n y) (un_p2 n y)
    unfolding un_p2_by_cases un_p2
    un_p2_is = highs_are_lem same_≈ (inverse_lift_cong gamma) (inverse_lift_end_lem gamma) n works un_u2_is (λ i p. ≈-refl (un_g2 n y i))

    un_u1_is : Likewise (lows n) (un_u1_by_cases n y) (un_u1 n y)
    unfolding un_u1_by_cases un_u1
    un_u1_is = lows_are_lem same_≈ (inverse_lift_cong beta) (inverse_lift_end_lem beta) n works un_u2_is un_p2_is

    un_p1_is : Likewise (highs n) (un_p1_by_cases n y) (un_p1 n y)
    unfolding un_p1_by_cases un_p1
    un_p1_is = highs_are_lem same_≈ (inverse_lift_cong alpha) (inverse_lift_end_lem alpha) n works un_u1_is un_p2_is

    long_back_is : Likewise n (inverse_by_cases n y) (exact_inverse_long n y)
    unfolding inverse_by_cases exact_inverse_long
    long_back_is = by_parity (λ k. inverse_by_cases n y k ≈ exact_inverse_long n y k) n
        (λ i h. ≈-trans (is (even_place_lem _ _ i)) (≈-trans (un_u1_is i h) (≈-sym (is (even_place_lem (un_u1 n y) (un_p1 n y) i)))))
        (λ i h. ≈-trans (is (odd_place _ _ i)) (≈-trans (un_p1_is i h) (≈-sym (is (odd_place (un_u1 n y) (un_p1 n y) i)))))

    -- back
    pub back_is : Likewise n (inverse_by_cases n y) (exact_inverse_pass n y)
    unfolding exact_inverse_pass
    back_is k h = ≈-trans (long_back_is k h) (≈-sym (is (one_long (λ v. v) exact_inverse_long n y k works)))

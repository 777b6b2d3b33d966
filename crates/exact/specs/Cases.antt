-- The exact 9/7 by cases (document 02, job 2), there and back: the ends apart from the middle, as source document 003 has them. Equation 2 is
-- `lift` of Exact. CaseLaws proves the passes those of Exact and Inverse.
use Rattle.std.specs.Prelude.{ℕ, pos}
use Rattle.lines.specs.Lines.{lows_first, interleaved}
use Rattle.lines.specs.Cases.{highs_by_cases, lows_by_cases}
use Rattle.exact.specs.Fractions.{Frac, ◌⊕◌, ◌⊖◌, ◌⊗◌, whole}
use Rattle.exact.specs.Exact.{alpha, beta, gamma, delta, zeta, zeta_inverse, lift, low₀, high₀}
use Rattle.exact.specs.Inverse.{inverse_lift, un_g1, un_g2}

-- twice a constant
abbrev pub twice : Frac → Frac
twice c = whole (pos 2) ⊗ c

-- ---- forward

-- Equation 3, the first low, and equation 4, the last high of an even length: own value and twice a constant times the one neighbour. The last
-- low of an odd length, which the paper does not print, in the same way.
unfoldable pub lift_end : Frac → Frac → Frac → Frac
lift_end c own x = own ⊕ twice c ⊗ x

module _ (n : ℕ) (x : ℕ → Frac) where
  -- equation 2, P1; at the last high of an even length equation 4
  unfoldable pub p1_by_cases : ℕ → Frac
  p1_by_cases = highs_by_cases (lift alpha) (lift_end alpha) n (low₀ n x) (high₀ n x)

  -- equation 2, U1; at the first low equation 3, at the last low of an odd length ours
  unfoldable pub u1_by_cases : ℕ → Frac
  u1_by_cases = lows_by_cases (lift beta) (lift_end beta) n (low₀ n x) p1_by_cases

  -- equation 2, P2; at the last high of an even length equation 4
  unfoldable pub p2_by_cases : ℕ → Frac
  p2_by_cases = highs_by_cases (lift gamma) (lift_end gamma) n u1_by_cases p1_by_cases

  -- equation 2, U2; at the first low equation 3, at the last low of an odd length ours
  unfoldable pub u2_by_cases : ℕ → Frac
  u2_by_cases = lows_by_cases (lift delta) (lift_end delta) n u1_by_cases p2_by_cases

  -- equation 2, G1 and G2, which have no neighbours
  unfoldable pub pass_by_cases : ℕ → Frac
  pass_by_cases = lows_first n (λ i. zeta ⊗ u2_by_cases i) (λ i. zeta_inverse ⊗ p2_by_cases i)

-- ---- back, which the paper does not print: the same equations inverted are ours

-- equations 3 and 4 inverted: own value less twice a constant times the one neighbour
unfoldable pub inverse_lift_end : Frac → Frac → Frac → Frac
inverse_lift_end c own x = own ⊖ twice c ⊗ x

module _ (n : ℕ) (y : ℕ → Frac) where
  -- U2 inverted; at the first low and at the last low of an odd length by equation 3
  unfoldable pub un_u2_by_cases : ℕ → Frac
  un_u2_by_cases = lows_by_cases (inverse_lift delta) (inverse_lift_end delta) n (un_g1 n y) (un_g2 n y)

  -- P2 inverted; at the last high of an even length by equation 4
  unfoldable pub un_p2_by_cases : ℕ → Frac
  un_p2_by_cases = highs_by_cases (inverse_lift gamma) (inverse_lift_end gamma) n un_u2_by_cases (un_g2 n y)

  -- U1 inverted, as U2
  unfoldable pub un_u1_by_cases : ℕ → Frac
  un_u1_by_cases = lows_by_cases (inverse_lift beta) (inverse_lift_end beta) n un_u2_by_cases un_p2_by_cases

  -- P1 inverted, as P2
  unfoldable pub un_p1_by_cases : ℕ → Frac
  un_p1_by_cases = highs_by_cases (inverse_lift alpha) (inverse_lift_end alpha) n un_u1_by_cases un_p2_by_cases

  -- each value to its place
  unfoldable pub inverse_by_cases : ℕ → Frac
  inverse_by_cases = interleaved un_u1_by_cases un_p1_by_cases

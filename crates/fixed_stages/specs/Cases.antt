-- The fixed-point 9/7 lifting of one line by cases (document 02, job 2): the ends apart from the middle, as source document 003 has them.
-- Equation 2 is `step` of the crate stages, equations 3 (the first low) and 4 (the last high of an even length) are `step_end`; the last low of an
-- odd length, which the paper does not print, goes by `step_end`, too. CaseLaws proves the pass that of Fixed.
use Rattle.std.specs.Prelude.{ℕ, ◌+◌, ◌*◌, ℤ}
use Rattle.stages.specs.Stages.{Product}
use Rattle.stages.specs.Fixed.{step, step_end, scale}
use Rattle.width_table.specs.Nodes.{Node, P1, U1, P2, U2, G1, G2}
use Rattle.exact.specs.Exact.{alpha, beta, gamma, delta, zeta, zeta_inverse}
use Rattle.lines.specs.Lines.{lows_first}
use Rattle.lines.specs.Cases.{highs_by_cases, lows_by_cases}

-- One pass over n samples x at fi bits: F the bits of the constants, fp the widths of the products, f the fractional bits of the nodes.
module _ (F : Node → ℕ) (fp : Node → Product) (fi : ℕ) (f : Node → ℕ) (n : ℕ) (x : ℕ → ℤ) where
  -- equation 2, P1; at the last high of an even length equation 4
  unfoldable pub at_p1_by_cases : ℕ → ℤ
  at_p1_by_cases = highs_by_cases (step (fp P1) alpha (F P1) fi fi (f P1)) (step_end (fp P1) alpha (F P1) fi fi (f P1)) n (λ i. x (2 * i)) (λ i. x (2 * i + 1))

  -- equation 2, U1; at the first low equation 3, at the last low of an odd length ours
  unfoldable pub at_u1_by_cases : ℕ → ℤ
  at_u1_by_cases = lows_by_cases (step (fp U1) beta (F U1) (f P1) fi (f U1)) (step_end (fp U1) beta (F U1) (f P1) fi (f U1)) n (λ i. x (2 * i)) at_p1_by_cases

  -- equation 2, P2; at the last high of an even length equation 4
  unfoldable pub at_p2_by_cases : ℕ → ℤ
  at_p2_by_cases = highs_by_cases (step (fp P2) gamma (F P2) (f U1) (f P1) (f P2)) (step_end (fp P2) gamma (F P2) (f U1) (f P1) (f P2)) n at_u1_by_cases at_p1_by_cases

  -- equation 2, U2; at the first low equation 3, at the last low of an odd length ours
  unfoldable pub at_u2_by_cases : ℕ → ℤ
  at_u2_by_cases = lows_by_cases (step (fp U2) delta (F U2) (f P2) (f U1) (f U2)) (step_end (fp U2) delta (F U2) (f P2) (f U1) (f U2)) n at_u1_by_cases at_p2_by_cases

  -- equation 2, G1 and G2, which have no neighbours
  unfoldable pub fixed_pass_by_cases : ℕ → ℤ
  fixed_pass_by_cases = lows_first n (λ i. scale zeta (F G1) (f U2) (f G1) (at_u2_by_cases i)) (λ i. scale zeta_inverse (F G2) (f P2) (f G2) (at_p2_by_cases i))

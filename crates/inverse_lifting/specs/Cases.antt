-- The fixed-point inverse of one line by cases (document 02, jobs 1 and 2): the ends apart from the middle, in the style of source document 003,
-- equations 3 and 4. The paper does not print the way back: its equations here are ours. CaseLaws proves this the inverse of Fixed.
use Rattle.std.specs.Prelude.{ℕ, ◌+◌, ◌^◌, ℤ, pos, ◌-ℤ◌, ◌*ℤ◌}
use Rattle.lines.specs.Lines.{interleaved}
use Rattle.lines.specs.Cases.{highs_by_cases, lows_by_cases}
use Rattle.exact.specs.Fractions.{Frac}
use Rattle.exact.specs.Exact.{alpha, beta, gamma, delta}
use Rattle.stages.specs.Fixed.{nearest, cut}
use Rattle.inverse_lifting.specs.Fixed.{node_bits, inverse_bits, inverse_step, at_g1, at_g2}

-- A stage inverted at an end: twice the rounded constant times the one neighbour is taken from the own value without loss and cut once downwards.
unfoldable pub inverse_step_end : Frac → ℤ → ℤ → ℤ
inverse_step_end c own x = cut (inverse_bits + node_bits) node_bits (own *ℤ pos (2 ^ inverse_bits) -ℤ pos 2 *ℤ nearest c inverse_bits *ℤ x)

-- One line of n values y, the lows first: the lows have fl bits, the highs fh.
module _ (fl fh : ℕ) (n : ℕ) (y : ℕ → ℤ) where
  -- U2 inverted; at the first low and at the last low of an odd length by equation 3
  unfoldable pub at_u2_by_cases : ℕ → ℤ
  at_u2_by_cases = lows_by_cases (inverse_step delta) (inverse_step_end delta) n (at_g1 fl fh n y) (at_g2 fl fh n y)

  -- P2 inverted; at the last high of an even length by equation 4
  unfoldable pub at_p2_by_cases : ℕ → ℤ
  at_p2_by_cases = highs_by_cases (inverse_step gamma) (inverse_step_end gamma) n at_u2_by_cases (at_g2 fl fh n y)

  -- U1 inverted, as U2
  unfoldable pub at_u1_by_cases : ℕ → ℤ
  at_u1_by_cases = lows_by_cases (inverse_step beta) (inverse_step_end beta) n at_u2_by_cases at_p2_by_cases

  -- P1 inverted, as P2
  unfoldable pub at_p1_by_cases : ℕ → ℤ
  at_p1_by_cases = highs_by_cases (inverse_step alpha) (inverse_step_end alpha) n at_u1_by_cases at_p2_by_cases

  -- each value to its place
  unfoldable pub fixed_inverse_by_cases : ℕ → ℤ
  fixed_inverse_by_cases = interleaved at_u1_by_cases at_p1_by_cases

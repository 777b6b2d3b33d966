-- The fixed-point inverse by cases is the fixed-point inverse, at every place of every length from 2 (`back_is`).
use Rattle.std.specs.Prelude.{ℕ, refl, ℤ}
use Rattle.std.proofs.Common.{sym, ◌∙◌}
use Rattle.lines.specs.Lines.{lows, highs, Liftable}
use Rattle.lines.specs.LineLaws.{Equal, interleaved_equal}
use Rattle.lines.specs.InverseLaws.{equal}
use Rattle.lines.proofs.CaseLaws.{congruence_equal, highs_are_lem, lows_are_lem}
use Rattle.exact.specs.Exact.{alpha, beta, gamma, delta}
use Rattle.inverse_lifting.specs.Fixed.{inverse_step, at_u2, at_p2, at_u1, at_p1, fixed_inverse_long, fixed_inverse}
use Rattle.inverse_lifting.specs.Stages.{inverse_step_end_lem}
use Rattle.inverse_lifting.specs.Single.{back_long}
use Rattle.inverse_lifting.specs.Cases.{at_u2_by_cases, at_p2_by_cases, at_u1_by_cases, at_p1_by_cases, fixed_inverse_by_cases}

module _ (fl fh n : ℕ) (works : Liftable n) (y : ℕ → ℤ) where
  u2_is : Equal (lows n) (at_u2_by_cases fl fh n y) (at_u2 fl fh n y)
  unfolding at_u2_by_cases at_u2
  u2_is = lows_are_lem equal (congruence_equal (inverse_step delta)) (inverse_step_end_lem delta) n works (λ i p. refl) (λ i p. refl)

  p2_is : Equal (highs n) (at_p2_by_cases fl fh n y) (at_p2 fl fh n y)
  unfolding at_p2_by_cases at_p2
  p2_is = highs_are_lem equal (congruence_equal (inverse_step gamma)) (inverse_step_end_lem gamma) n works u2_is (λ i p. refl)

  u1_is : Equal (lows n) (at_u1_by_cases fl fh n y) (at_u1 fl fh n y)
  unfolding at_u1_by_cases at_u1
  u1_is = lows_are_lem equal (congruence_equal (inverse_step beta)) (inverse_step_end_lem beta) n works u2_is p2_is

  p1_is : Equal (highs n) (at_p1_by_cases fl fh n y) (at_p1 fl fh n y)
  unfolding at_p1_by_cases at_p1
  p1_is = highs_are_lem equal (congruence_equal (inverse_step alpha)) (inverse_step_end_lem alpha) n works u1_is p2_is

  long_is : Equal n (fixed_inverse_by_cases fl fh n y) (fixed_inverse_long fl fh n y)
  unfolding fixed_inverse_by_cases fixed_inverse_long
  long_is = interleaved_equal n u1_is p1_is

  pub back_is : Equal n (fixed_inverse_by_cases fl fh n y) (fixed_inverse fl fh n y)
  back_is k h = long_is k h ∙ sym (back_long fl fh n y k works)

-- The fixed-point 9/7 by cases is the fixed-point 9/7, at every place of every length from 2 (`pass_is`).
use Rattle.std.specs.Prelude.{ℕ, refl, ℤ}
use Rattle.std.proofs.Math.Path.{sym, ap}
use Rattle.std.proofs.Common.{◌∙◌}
use Rattle.lines.specs.Lines.{lows, highs, Liftable}
use Rattle.lines.specs.LineLaws.{Equal, first_equal}
use Rattle.lines.specs.InverseLaws.{equal}
use Rattle.lines.specs.OneLaws.{one_long}
use Rattle.lines.proofs.CaseLaws.{congruence_equal, highs_are_lem, lows_are_lem}
use Rattle.width_table.specs.Nodes.{Node, P1, U1, P2, U2, G1, G2}
use Rattle.exact.specs.Exact.{alpha, beta, gamma, delta, zeta, zeta_inverse}
use Rattle.stages.specs.Stages.{Product}
use Rattle.stages.specs.Fixed.{cut, step, scale}
use Rattle.stages.specs.Ends.{step_end_lem}
use Rattle.fixed_stages.specs.Fixed.{at_p1, at_u1, at_p2, at_u2, at_g1, at_g2, fixed_long, fixed_pass}
use Rattle.fixed_stages.specs.Cases.{at_p1_by_cases, at_u1_by_cases, at_p2_by_cases, at_u2_by_cases, fixed_pass_by_cases}

module _ (F : Node → ℕ) (fp : Node → Product) (fi : ℕ) (f : Node → ℕ) (n : ℕ) (works : Liftable n) (x : ℕ → ℤ) where
  p1_is : Equal (highs n) (at_p1_by_cases F fp fi f n x) (at_p1 F fp fi f n x)
  unfolding at_p1_by_cases at_p1
  p1_is = highs_are_lem equal (congruence_equal (step (fp P1) alpha (F P1) fi fi (f P1))) (step_end_lem (fp P1) alpha (F P1) fi fi (f P1)) n works (λ i p. refl) (λ i p. refl)

  u1_is : Equal (lows n) (at_u1_by_cases F fp fi f n x) (at_u1 F fp fi f n x)
  unfolding at_u1_by_cases at_u1
  u1_is = lows_are_lem equal (congruence_equal (step (fp U1) beta (F U1) (f P1) fi (f U1))) (step_end_lem (fp U1) beta (F U1) (f P1) fi (f U1)) n works (λ i p. refl) p1_is

  p2_is : Equal (highs n) (at_p2_by_cases F fp fi f n x) (at_p2 F fp fi f n x)
  unfolding at_p2_by_cases at_p2
  p2_is = highs_are_lem equal (congruence_equal (step (fp P2) gamma (F P2) (f U1) (f P1) (f P2))) (step_end_lem (fp P2) gamma (F P2) (f U1) (f P1) (f P2)) n works u1_is p1_is

  u2_is : Equal (lows n) (at_u2_by_cases F fp fi f n x) (at_u2 F fp fi f n x)
  unfolding at_u2_by_cases at_u2
  u2_is = lows_are_lem equal (congruence_equal (step (fp U2) delta (F U2) (f P2) (f U1) (f U2))) (step_end_lem (fp U2) delta (F U2) (f P2) (f U1) (f U2)) n works u1_is p2_is

  long_is : Equal n (fixed_pass_by_cases F fp fi f n x) (fixed_long F fp fi f n x)
  unfolding fixed_pass_by_cases fixed_long at_g1 at_g2
  long_is = first_equal n (λ i h. ap (scale zeta (F G1) (f U2) (f G1)) (u2_is i h)) (λ i h. ap (scale zeta_inverse (F G2) (f P2) (f G2)) (p2_is i h))

  pub pass_is : Equal n (fixed_pass_by_cases F fp fi f n x) (fixed_pass F fp fi f n x)
  unfolding fixed_pass
  pass_is k h = long_is k h ∙ sym (one_long (cut fi (f G1)) (fixed_long F fp fi f) n x k works)

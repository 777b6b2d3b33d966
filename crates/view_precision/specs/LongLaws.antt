-- Of lines of two values or more no bound is larger than of lines from one value, where what enters is not (`node_more`, `gives_more`).
use Rattle.std.specs.Prelude.{ℕ}
use Rattle.std.proofs.Common.{arith}
use Rattle.stages.specs.Stages.{Side, low, high, inverse, uncut}
use Rattle.stages.specs.Rule.{Bound, apart}
use Rattle.stages.proofs.RuleLaws.{AtMost, apart_at_most, bound_grows}
use Rattle.inverse_lifting.specs.Fixed.{node_bits, inverse_bits}
use Rattle.width_table.specs.Nodes.{Node, P1, U1, P2, U2, G1, G2}
use Rattle.view_precision.specs.Bounds.{larger, bound_after, even, inverse_bound, pass_gives}
use Rattle.view_precision.specs.Odd.{odd_range, odd_error}
use Rattle.view_precision.specs.LongLines.{long_inverse_bound, long_gives}

module _ {a a' b b' : Bound} (h : AtMost a a') (k : AtMost b b') where
  after_more : (s : Side) (m : ℕ) → AtMost (bound_after a b s m) (bound_after a' b' s m)
  after_more = bound_grows inverse (apart a b) (apart a' b') (λ i. inverse_bits) (λ i. uncut) (λ s. 0) (λ i. node_bits) (apart_at_most h k)

  pub node_more : (n : Node) → AtMost (long_inverse_bound a b n) (inverse_bound a' b' n)
  unfolding long_inverse_bound inverse_bound even larger
  node_more G1 = after_more low 1
  node_more G2 = after_more high 2
  node_more U2 = after_more low 3
  node_more P2 = after_more high 4
  node_more U1 = let m = after_more low 5 in record { range = omega (arith, m.range); error = omega (arith, m.error) }
  node_more P1 = let m = after_more high 6 in record { range = omega (arith, m.range, odd_range a' b'); error = omega (arith, m.error, odd_error a' b') }

  pub gives_more : AtMost (long_gives a b) (pass_gives a' b')
  unfolding long_gives pass_gives inverse_bound larger
  gives_more = record {
    range = omega (arith, (node_more U1).range, (node_more P1).range);
    error = omega (arith, (node_more U1).error, (node_more P1).error);
  }

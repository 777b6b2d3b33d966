-- On lines of two samples or more G1 has the larger error, so that the bound of each node is the one there (`same_bound`).
use Prim.Native.Nat.{ℕ, suc, max}
use Rattle.std.specs.Prelude.{◌≡◌}
use Rattle.std.proofs.Math.Path.{refl, ap}
use Rattle.std.proofs.Common.{arith}
use Rattle.stages.specs.Stages.{low, Product}
use Rattle.stages.specs.Rule as Rule
use Rattle.stages.specs.Rule.{Bound, single_error}
use Rattle.stages.proofs.ForwardLaws.{single_least}
use Rattle.width_table.specs.Nodes.{Node, P1, U1, P2, U2, G1, G2}
use Rattle.width_table.specs.Numbered.{node_of}
use Rattle.precision.specs.Bounds.{bound_after, node_bound}
use Rattle.precision.specs.LongLines.{long_bound}

-- the larger error of G1 is always the one on longer lines
module _ (F : Node → ℕ) (fp : Node → Product) (fi : ℕ) (b : Bound) (f : Node → ℕ) where
  pub same_bound : (n : Node) → node_bound F fp fi b f n ≡ long_bound F fp fi b f n
  unfolding node_bound long_bound Rule.side_bound
  same_bound P1 = refl
  same_bound U1 = refl
  same_bound P2 = refl
  same_bound U2 = refl
  same_bound G1 =
      let long = bound_after F fp fi b f low 5 in
      let e : max long.error (single_error fi b (f G1)) ≡ long.error = omega (arith, single_least b (λ i. F (node_of (suc i))) (λ i. fp (node_of (suc i))) fi (λ i. f (node_of (suc i)))) in
      ap (λ (x : ℕ). record { range = long.range; error = x }) e
  same_bound G2 = refl

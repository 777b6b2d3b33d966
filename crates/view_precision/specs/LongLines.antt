-- The bounds of an inverse pass on lines of two values or more, fed lows with bound a and highs with bound b.
use Rattle.stages.specs.Stages.{low, high}
use Rattle.stages.specs.Rule.{Bound}
use Rattle.width_table.specs.Nodes.{Node, P1, U1, P2, U2, G1, G2}
use Rattle.view_precision.specs.Bounds.{larger, bound_after}

module _ (a b : Bound) where
  -- of each node
  unfoldable pub long_inverse_bound : Node → Bound
  long_inverse_bound G1 = bound_after a b low 1
  long_inverse_bound G2 = bound_after a b high 2
  long_inverse_bound U2 = bound_after a b low 3
  long_inverse_bound P2 = bound_after a b high 4
  long_inverse_bound U1 = bound_after a b low 5
  long_inverse_bound P1 = bound_after a b high 6

  -- what a pass gives on
  unfoldable pub long_gives : Bound
  long_gives = larger (long_inverse_bound U1) (long_inverse_bound P1)

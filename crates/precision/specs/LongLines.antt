-- The bounds of a pass over lines of two samples or more.
use Rattle.std.specs.Prelude.{ℕ}
use Rattle.stages.specs.Stages.{low, high, Product}
use Rattle.stages.specs.Rule.{Bound}
use Rattle.width_table.specs.Nodes.{Node, P1, U1, P2, U2, G1, G2}
use Rattle.precision.specs.Bounds.{bound_after}

-- the bound of each node on lines of two samples or more
module _ (F : Node → ℕ) (fp : Node → Product) (fi : ℕ) (b : Bound) (f : Node → ℕ) where
  unfoldable pub long_bound : Node → Bound
  long_bound P1 = bound_after F fp fi b f high 1
  long_bound U1 = bound_after F fp fi b f low 2
  long_bound P2 = bound_after F fp fi b f high 3
  long_bound U2 = bound_after F fp fi b f low 4
  long_bound G1 = bound_after F fp fi b f low 5
  long_bound G2 = bound_after F fp fi b f high 6

use Prim.Native.Nat.{ℕ}
use mathlib.Core.Path.{ap₂}
use Rattle.stages.specs.Rule.{Bound}
use Rattle.view_precision.specs.Bounds.{larger}
use Rattle.view_precision.proofs.larger_bound.Goals as goal

pub returns : goal.returns
unfolding larger
returns c = ap₂ {C = Bound} (λ (r e : ℕ). record { range = r; error = e }) c.max.ensures c.max-2.ensures

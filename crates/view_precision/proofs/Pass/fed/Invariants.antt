use Prim.Native.Nat.{◌+◌, ◌≤◌}
use mathlib.Core.Path.{◌≡◌}
use Rattle.view_precision.specs.Places.{stages, owns_below}
use Rattle.bounds_rule.specs.Carried.{as_bound}
use Rattle.view_precision.proofs.Pass.fed.Given as goal

abbrev pub invariant-loop-stage : goal.invariant-loop-stage
invariant-loop-stage l = (l.stage ≤ stages) × (l.own ≡ owns_below (as_bound l.low) (as_bound l.high) (l.stage + 2))

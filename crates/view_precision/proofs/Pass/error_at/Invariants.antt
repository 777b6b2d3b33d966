use Prim.Native.Nat.{◌*◌, ◌≤◌}
use mathlib.Core.Path.{◌≡◌}
use Rattle.view_precision.specs.Places.{sources, largest}
use Rattle.stages.specs.GainTable.{inverse_gains}
use Rattle.bounds_rule.specs.Carried.{carried_to}
use Rattle.view_precision.proofs.Pass.error_at.Given as goal

abbrev pub invariant-loop-from : goal.invariant-loop-from
invariant-loop-from l = (l.from ≤ sources) × (l.error ≡ carried_to inverse_gains l.x-items l.stage l.from) × (l.error ≤ l.from * (4 * largest))

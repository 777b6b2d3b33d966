use mathlib.Core.Path.{◌≡◌}
use Prim.Native.Nat.{◌≤◌}
use lib.ListN.{length}
use Rattle.slices.specs.Patch.{at}
use Rattle.viewing.specs.CallSteps.{LevelsLeft}
use Rattle.viewing.proofs.levels_back.Given as goal

abbrev pub invariant-loop-k : goal.invariant-loop-k
invariant-loop-k l =
    (1 ≤ l.k) × (l.k ≤ l.table.levels) × (length l.work ≡ length l.initial.work) × (length l.state ≡ length l.initial.state) × (length l.line ≡ length l.initial.line) × LevelsLeft l.table l.w l.h l.k (at l.plane) (at l.initial.work) (at l.work)

abbrev pub decreases-loop-k : goal.decreases-loop-k
decreases-loop-k l = l.k

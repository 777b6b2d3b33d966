use mathlib.Core.Path.{◌≡◌}
use Prim.Native.Nat.{◌-◌, ◌≤◌}
use lib.ListN.{length}
use Rattle.slices.specs.Patch.{at}
use Rattle.inverse_lifting.specs.Planes.{rows_inverse}
use Rattle.inverse_lifting.proofs.rows.Given as goal

abbrev pub invariant-loop-r : goal.invariant-loop-r
invariant-loop-r l =
    (l.r ≤ l.h) × (length l.work ≡ length l.initial.work) × (length l.line ≡ length l.initial.line) × (at l.work ≡ rows_inverse l.stride l.w l.r (at l.initial.work))

abbrev pub decreases-loop-r : goal.decreases-loop-r
decreases-loop-r l = l.h - l.r

use mathlib.Core.Path.{◌≡◌}
use Prim.Native.Nat.{◌≤◌}
use lib.ListN.{length}
use Rattle.slices.specs.Patch.{at}
use Rattle.lifting.specs.Kernels.{rows_worked}
use Rattle.lifting.proofs.passes.rows.Given as goal

abbrev pub invariant-loop-r : goal.invariant-loop-r
invariant-loop-r l =
    (l.r ≤ l.part.h) × (length l.plane ≡ length l.initial.plane) × (length l.buffer ≡ length l.initial.buffer) × (at l.plane ≡ rows_worked l.kernel l.part.stride l.part.from l.part.w l.r (at l.initial.plane))

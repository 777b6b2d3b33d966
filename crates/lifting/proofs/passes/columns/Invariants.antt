use mathlib.Core.Path.{◌≡◌}
use Prim.Native.Nat.{◌-◌, ◌≤◌}
use lib.ListN.{length}
use Rattle.slices.specs.Patch.{at}
use Rattle.lifting.specs.Kernels.{columns_worked}
use Rattle.lifting.proofs.passes.columns.Given as goal

abbrev pub invariant-loop-done : goal.invariant-loop-done
invariant-loop-done l =
    (l.done ≤ l.part.w) × (length l.plane ≡ length l.initial.plane) × (length l.buffer ≡ length l.initial.buffer) × (at l.plane ≡ columns_worked l.kernel l.part.stride l.part.from l.done l.part.h (at l.initial.plane))

abbrev pub decreases-loop-done : goal.decreases-loop-done
decreases-loop-done l = l.part.w - l.done

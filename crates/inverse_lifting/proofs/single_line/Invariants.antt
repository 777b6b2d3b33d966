use mathlib.Core.Path.{◌≡◌}
use Prim.Native.Nat.{◌-◌, ◌≤◌}
use lib.ListN.{length}
use Rattle.slices.specs.Patch.{at}
use Rattle.inverse_lifting.specs.Strips.{singles}
use Rattle.inverse_lifting.proofs.single_line.Given as goal

abbrev pub invariant-loop-j : goal.invariant-loop-j
invariant-loop-j l = (l.j ≤ l.w) × (length l.work ≡ length l.initial.work) × (at l.work ≡ singles l.a l.lowbits l.j (at l.plane) (at l.initial.work))

abbrev pub decreases-loop-j : goal.decreases-loop-j
decreases-loop-j l = l.w - l.j

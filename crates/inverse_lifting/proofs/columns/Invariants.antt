use mathlib.Core.Path.{◌≡◌}
use Prim.Native.Nat.{◌-◌, ◌≤◌}
use lib.ListN.{length}
use Rattle.slices.specs.Patch.{at}
use Rattle.inverse_lifting.specs.Strips.{inverted}
use Rattle.inverse_lifting.proofs.columns.Given as goal

abbrev pub invariant-loop-done : goal.invariant-loop-done
invariant-loop-done l =
    (l.done ≤ l.b.columns) × (length l.work ≡ length l.initial.work) × (length l.state ≡ length l.initial.state) × (length l.line ≡ length l.initial.line)
    × (at l.work ≡ inverted l.a l.b.lowbits l.b.highbits l.done l.b.lines (at l.plane) (at l.initial.work))

abbrev pub decreases-loop-done : goal.decreases-loop-done
decreases-loop-done l = l.b.columns - l.done

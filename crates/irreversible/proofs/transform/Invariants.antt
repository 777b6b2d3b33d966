use mathlib.Core.Path.{◌≡◌}
use Prim.Native.Nat.{◌≤◌}
use lib.ListN.{length}
use Rattle.lines.specs.Planes.{side}
use Rattle.slices.specs.Patch.{at}
use Rattle.irreversible.specs.Memory.{After}
use Rattle.irreversible.proofs.transform.Given as goal

abbrev pub invariant-loop-k : goal.invariant-loop-k
invariant-loop-k l =
    (l.k ≤ l.table.levels) × (length l.plane ≡ length l.initial.plane) × (length l.buffer ≡ length l.initial.buffer) × (l.across ≡ side l.k l.w) × (l.down ≡ side l.k l.h) × After l.table l.pixels l.w l.h l.k (at l.initial.plane) (at l.plane)

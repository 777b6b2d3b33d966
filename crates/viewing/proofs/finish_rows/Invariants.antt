use mathlib.Core.Path.{◌≡◌}
use Prim.Native.Nat.{◌-◌, ◌≤◌}
use lib.ListN.{length, get_or}
use Rattle.slices.specs.Patch.{at}
use Rattle.viewing.specs.RowSteps.{shown_rows, cleared_rows}
use Rattle.viewing.proofs.finish_rows.Given as goal

abbrev pub invariant-loop-r : goal.invariant-loop-r
invariant-loop-r l =
    (l.r ≤ l.h) × (length l.work ≡ length l.initial.work) × (length l.line ≡ length l.initial.line) × (length l.pixels ≡ length l.initial.pixels)
    × ((λ k. get_or l.pixels k 0) ≡ shown_rows l.depth l.w l.r (at l.initial.work) (λ k. get_or l.initial.pixels k 0)) × (at l.work ≡ cleared_rows l.w l.r (at l.initial.work))

abbrev pub decreases-loop-r : goal.decreases-loop-r
decreases-loop-r l = l.h - l.r

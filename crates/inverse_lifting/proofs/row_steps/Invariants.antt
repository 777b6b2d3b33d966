use mathlib.Core.Path.{◌≡◌}
use Prim.Native.Nat.{◌-◌, ◌≤◌}
use lib.ListN.{length}
use Rattle.slices.specs.Patch.{at}
use Rattle.inverse_lifting.specs.Steps.{PipelineHolds}
use Rattle.inverse_lifting.specs.Rows.{row_line, Stand}
use Rattle.inverse_lifting.proofs.row_steps.Given as goal

abbrev pub invariant-loop-i : goal.invariant-loop-i
invariant-loop-i g l =
    (l.start ≤ l.i) × (l.i ≤ l.end) × (length l.line ≡ length l.initial.line) × (1 ≤ l.i → PipelineHolds (row_line (at l.work) l.from l.w) (l.i - 1) l.t) × Stand (row_line (at l.work) l.from l.w) l.i (at l.line)

abbrev pub decreases-loop-i : goal.decreases-loop-i
decreases-loop-i g l = l.end - l.i

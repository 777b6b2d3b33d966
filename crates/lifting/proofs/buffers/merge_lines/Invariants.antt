use mathlib.Core.Path.{◌≡◌}
use Prim.Native.Nat.{◌*◌, ◌≤◌}
use lib.ListN.{length}
use Rattle.lines.specs.Lines.{highs}
use Rattle.slices.specs.Patch.{at}
use Rattle.slices.specs.PatchLines.{line_at, patch_lines}
use Rattle.lifting.specs.Strips.{woven}
use Rattle.lifting.proofs.buffers.merge_lines.Given as goal

abbrev pub invariant-loop-i : goal.invariant-loop-i
invariant-loop-i l =
    (l.i ≤ highs l.part.h) × (length l.plane ≡ length l.initial.plane) × (at l.plane ≡ patch_lines (line_at l.part.from l.part.stride) l.part.w (2 * l.i) (woven l.part.w l.part.h (at l.buffer)) (at l.initial.plane))

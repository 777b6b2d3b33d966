use mathlib.Core.Path.{◌≡◌}
use Prim.Native.Nat.{◌+◌, ◌≤◌}
use lib.ListN.{length}
use Rattle.lifting.specs.Steps.{scaled_by}
use Rattle.slices.specs.Patch.{at}
use Rattle.slices.specs.PatchLines.{line_at, patch_lines}
use Rattle.lifting.proofs.buffers.scale_part.Given as goal

abbrev pub invariant-loop-r : goal.invariant-loop-r
invariant-loop-r l =
    (l.r ≤ l.part.h) × (length l.plane ≡ length l.initial.plane) × (at l.plane ≡ patch_lines (line_at l.part.from l.part.stride) l.part.w l.r (λ k j. scaled_by l.g (at l.initial.plane (line_at l.part.from l.part.stride k + j))) (at l.initial.plane))

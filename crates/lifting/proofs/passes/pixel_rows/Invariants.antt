use mathlib.Core.Path.{◌≡◌}
use Prim.Native.Nat.{◌*◌, ◌≤◌}
use lib.ListN.{length}
use Rattle.slices.specs.Patch.{at}
use Rattle.slices.specs.PatchLines.{line_at, patch_lines}
use Rattle.lifting.specs.Kernels.{worked}
use Rattle.slices.specs.Pixels.{pixel_line}
use Rattle.lifting.proofs.passes.pixel_rows.Given as goal

abbrev pub invariant-loop-r : goal.invariant-loop-r
invariant-loop-r l =
    (l.r ≤ l.h) × (length l.plane ≡ length l.initial.plane) × (length l.buffer ≡ length l.initial.buffer) × (at l.plane ≡ patch_lines (line_at 0 l.w) l.w l.r (λ r. worked l.kernel l.w (pixel_line l.pixels l.middle (r * l.w))) (at l.initial.plane))

use Rattle.std.specs.Prelude.{◌≡◌, ℕ, ◌<◌}
use Rattle.slices.specs.Patch.{at}
use Rattle.slices.specs.Pixels.{pixel_line}
use Rattle.lifting.proofs.passes.put_pixels.Given as goal

abbrev pub invariant-loop-j : goal.invariant-loop-j
invariant-loop-j l = (k : ℕ) → k < l.j → at l.x-items k ≡ pixel_line l.pixels l.middle 0 k

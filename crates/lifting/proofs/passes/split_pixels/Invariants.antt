use mathlib.Core.Path.{◌≡◌}
use Prim.Native.Nat.{◌*◌, ◌≤◌}
use lib.ListN.{length}
use Rattle.lines.specs.Lines.{lows, highs}
use Rattle.slices.specs.Patch.{at}
use Rattle.lifting.specs.Passes.{evens, odds}
use Rattle.lifting.specs.Buffers.{Filled}
use Rattle.slices.specs.Pixels.{pixel_line}
use Rattle.lifting.proofs.passes.split_pixels.Given as goal

abbrev pub invariant-loop-i : goal.invariant-loop-i
invariant-loop-i l =
    (l.i ≤ highs l.n) × (length l.buffer ≡ length l.initial.buffer) × Filled 1 (lows l.n * 1) l.i l.i (λ j. evens (pixel_line l.pixels l.middle l.from)) (λ j. odds (pixel_line l.pixels l.middle l.from)) (at l.buffer)

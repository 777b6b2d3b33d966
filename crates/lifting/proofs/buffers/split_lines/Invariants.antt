use mathlib.Core.Path.{◌≡◌}
use Prim.Native.Nat.{◌*◌, ◌≤◌}
use lib.ListN.{length}
use Rattle.lines.specs.Lines.{lows, highs}
use Rattle.slices.specs.Patch.{at}
use Rattle.lifting.specs.Passes.{evens, odds}
use Rattle.slices.specs.Parts.{column_of}
use Rattle.lifting.specs.Buffers.{Filled}
use Rattle.lifting.proofs.buffers.split_lines.Given as goal

abbrev pub invariant-loop-i : goal.invariant-loop-i
invariant-loop-i l =
    (l.i ≤ highs l.part.h) × (length l.buffer ≡ length l.initial.buffer) × Filled l.part.w (lows l.part.h * l.part.w) l.i l.i (λ j. evens (column_of l.part.stride l.part.from (at l.plane) j)) (λ j. odds (column_of l.part.stride l.part.from (at l.plane) j)) (at l.buffer)

use Prim.Native.Nat.{◌+◌}
use Rattle.lifting.specs.Steps.{scaled_by}
use Rattle.slices.specs.Patch.{at}
use Rattle.slices.specs.PatchLines.{line_at}
use Rattle.slices.specs.Filling.{FillingLines}
use Rattle.lifting.proofs.buffers.scale_lines.Given as goal

abbrev pub invariant-loop-i : goal.invariant-loop-i
invariant-loop-i l = FillingLines l.to l.leap l.m l.n (λ k j. scaled_by l.g (at l.src (line_at l.from l.m k + j))) l.initial.dst l.dst l.i

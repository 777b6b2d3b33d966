use Prim.Native.Nat.{◌+◌}
use Rattle.slices.specs.Patch.{at}
use Rattle.slices.specs.PatchLines.{line_at}
use Rattle.slices.specs.Filling.{FillingLines}
use Rattle.lifting.proofs.buffers.copy_lines.Given as goal

abbrev pub invariant-loop-i : goal.invariant-loop-i
invariant-loop-i l = FillingLines l.to l.leap l.m l.n (λ k j. at l.src (line_at l.from l.step k + j)) l.initial.dst l.dst l.i

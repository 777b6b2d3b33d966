use Rattle.slices.specs.Patch.{at}
use Rattle.reversible.specs.Columns.{LinesDone}
use Rattle.reversible.proofs.pixel_columns.Given as goal

abbrev pub invariant-loop-i : goal.invariant-loop-i
invariant-loop-i l = LinesDone l.i l.i l.pixels l.middle l.w l.h (at l.initial.plane) (at l.plane)

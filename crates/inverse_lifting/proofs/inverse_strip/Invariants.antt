use Rattle.std.proofs.Common.{◌≡◌, ◌≤◌, length}
use Rattle.inverse_lifting.specs.StripLoop.{StripDone}
use Rattle.inverse_lifting.proofs.inverse_strip.Given as goal

abbrev pub invariant-loop-i : goal.invariant-loop-i
invariant-loop-i l = (length l.low ≡ l.s.size.columns) × (l.s.size.columns ≤ length l.held) × StripDone l.plane l.initial.work l.work l.low l.held l.s.place l.s.size l.i

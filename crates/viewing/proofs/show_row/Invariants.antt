use Rattle.std.proofs.Common.{◌≡◌, ℕ, ◌+◌, ◌<◌, get_or}
use Rattle.slices.specs.Patch.{at}
use Rattle.viewing.specs.View.{pixel}
use Rattle.viewing.proofs.show_row.Given as goal

abbrev pub invariant-loop-i : goal.invariant-loop-i
invariant-loop-i l = (k : ℕ) → k < l.i → get_or l.p-items k 0 ≡ pixel l.depth (at l.values (l.first + k))

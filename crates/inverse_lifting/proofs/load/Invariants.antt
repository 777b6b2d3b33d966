use Rattle.std.proofs.Common.{◌≡◌, ℕ, ◌<◌}
use Rattle.slices.specs.Patch.{at}
use Rattle.inverse_lifting.proofs.load.Given as goal

abbrev pub invariant-loop-j : goal.invariant-loop-j
invariant-loop-j l = (k : ℕ) → k < l.j → at l.dst k ≡ at l.values k

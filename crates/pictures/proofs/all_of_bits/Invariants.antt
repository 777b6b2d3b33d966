use Rattle.std.proofs.Common.{◌≤◌}
use Rattle.slices.specs.Patch.{at}
use Rattle.pictures.specs.RangeChecks.{Gathered}
use Rattle.pictures.proofs.all_of_bits.Given as goal

abbrev pub invariant-loop-v : goal.invariant-loop-v
invariant-loop-v l = (few : l.bits ≤ 31) → Gathered l.bits few (at l.values) l.v-index l.gathered

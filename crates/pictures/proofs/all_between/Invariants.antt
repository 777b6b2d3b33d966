use Rattle.slices.specs.Patch.{at}
use Rattle.pictures.specs.RangeChecks.{Tells, Every, Between}
use Rattle.pictures.proofs.all_between.Given as goal

abbrev pub invariant-loop-v : goal.invariant-loop-v
invariant-loop-v l = Tells (Every (λ j. Between l.least l.most (at l.values j)) l.v-index) l.fits

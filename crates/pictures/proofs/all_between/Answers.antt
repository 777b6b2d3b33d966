-- The flag tells of the values passed.
use Rattle.std.proofs.Common.{ℤ, subst, to_z-of_z, w32, rules}
use mir.Val.{SFits}
use Rattle.pictures.specs.RangeChecks.{Tells, Between, every_more}
use Rattle.slices.specs.Patch.{at}
use Rattle.numbers.specs.Auto.{rd}
use Rattle.pictures.proofs.all_between.Goals as goal

pub loop-v-preserved : goal.loop-v-preserved
loop-v-preserved c =
    let a = c.args in
    let fits : SFits w32 (at a.values.now c.loop-v.v-index) = search rules in
    every_more _ _ _ _ c.loop-v.invariant (subst (λ (z : ℤ). Tells (Between (rd w32 a.least) (rd w32 a.most) z) c.in_range-fits.result) (to_z-of_z fits) c.in_range-fits.ensures)

-- The flag tells of the rows passed.
use Rattle.std.proofs.Common.{◌≡◌, ℕ, ◌+◌, ◌*◌, ◌<◌, refl, subst, arith}
use Rattle.std.proofs.lemmas.Fn.{says_at}
use Rattle.slices.specs.Patch.{at}
use Rattle.slices.specs.Parts.{row_of}
use Rattle.pictures.specs.RangeChecks.{Tells, Every, Between, every_more, row_tells}
use Rattle.pictures.proofs.rows_tell.Goals as goal

pub loop-i-preserved : goal.loop-i-preserved
loop-i-preserved g c =
    let a = c.args in
    let i = c.loop-i.i in
    λ least most looks. every_more _ _ _ _ (c.loop-i.invariant least most looks)
    (row_tells (Between least most) a.values.now (a.part.from + i * a.part.stride) _ a.part.w _ (omega arith) (c.requires.part i c.loop-i-test.true) (looks _ _ (says_at g.F.Fn c.look-fits.ensures refl)))

pub returns : goal.returns
returns g c =
    let a = c.args in
    let e : c.loop-i.i ≡ a.part.h = omega arith in
    λ least most looks. subst (λ (n : ℕ). Tells (Every (λ i. (j : ℕ) → j < a.part.w → Between least most (row_of a.part.stride a.part.from (at a.values.now) i j)) n) c.loop-i.fits) e (c.loop-i.invariant least most looks)

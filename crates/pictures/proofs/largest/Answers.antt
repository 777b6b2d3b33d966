-- The largest of the pixels passed.
use Rattle.std.proofs.Common.{sym, subst, arith, take, ◌+◌}
use Rattle.pictures.specs.PixelLaws.{Largest, largest_none, largest_more}
use Rattle.pictures.proofs.largest.Goals as goal

pub loop-p-init : goal.loop-p-init
loop-p-init c = largest_none c.args.pixels.now

pub loop-p-preserved : goal.loop-p-preserved
loop-p-preserved c =
    let t = c.loop-p in
    let l = c.args.pixels.now in
    subst (Largest (take (t.p-index + 1) l)) (sym c.max-most.ensures) (largest_more l t.p-index t.most (omega arith) t.invariant)

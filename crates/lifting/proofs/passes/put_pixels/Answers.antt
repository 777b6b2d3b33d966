-- `lifting::passes::put_pixels` meets its contract: the places passed hold their pixels.
use Rattle.std.specs.Prelude.{pos}
use Rattle.std.proofs.Common.{arith, length-take-le}
use Rattle.slices.specs.Patch.{patch_part}
use Rattle.lifting.proofs.passes.put_pixels.Goals as goal

pub returns : goal.returns
returns c =
    let a = c.args in
    let t = c.loop-j in
    patch_part 0 a.n _ a.plane.now t.x-items (pos 0) (omega arith) (omega (arith, length-take-le a.n a.plane.now (omega arith))) (λ j h. t.invariant j (omega (arith, length-take-le a.n a.plane.now (omega arith))))

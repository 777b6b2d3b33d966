-- `reversible::transform` meets its contract: the levels, and the work area cleared whatever the levels left in its front.
use Prim.Native.Nat.{◌*◌}
use native.Mathlib.Omega.{arith}
use lib.Seq.{length-take-le}
use Rattle.reversible.specs.StepLaws.{worked_plane}
use Rattle.reversible.proofs.transform.Goals as goal

pub returns-clause-plane : goal.returns-clause-plane
returns-clause-plane c =
    let f = c.levels_forward in
    let l = length-take-le (c.args.w * c.args.h) c.args.work.now c.requires.call.room.third in
    worked_plane c.requires c.args.plane.now f.new.plane f.ensures (omega arith) (omega arith)

-- `listing::list_picture` meets its contract: the forward call on the pixels that were read judges as the program does, and leaves the plane whose rows are printed.
use mathlib.Core.Path.{sym, ap}
use Rattle.refusals.specs.Told.{told}
use Prim.Native.Nat.{◌*◌, ◌≤◌}
use native.Mathlib.Omega.{arith}
use lib.ListN.{length}
use lib.Seq.{length-take-le}
use Rattle.listing.specs.Writing.{put_same}
use Rattle.listing.proofs.AnswerLaws.{area, refused_text, plane_text}
use Rattle.listing.proofs.list_picture.Goals as goal

pub read_pixels-requires : goal.read_pixels-requires
read_pixels-requires c = omega (arith, area _ _ c.requires.0 c.requires.1, c.requires.2.for_pixels)

pub slice_bounds-forward-end-2 : goal.slice_bounds-forward-end-2
slice_bounds-forward-end-2 c =
    let room : c.args.head.w * c.args.head.h ≤ length c.read_pixels.new.pixels =
    omega (arith, area _ _ c.requires.0 c.requires.1, c.requires.2.for_pixels, c.read_pixels.auto.pixels) in
    sym (length-take-le _ _ room)

pub put_plane-requires : goal.put_plane-requires
put_plane-requires c = omega (arith, area _ _ c.requires.0 c.requires.1, c.requires.2.for_plane, c.requires.2.for_text, c.forward.auto.plane)

pub returns-in-Err : goal.returns-in-Err
returns-in-Err c =
    put_same _ _ c.put_refused.ensures
    (refused_text _ _ c.requires.0 c.requires.1 _ _ _ _ _ c.read_pixels.ensures c.forward.ensures.answer c.requires.2.for_plane c.requires.2.for_work _ (ap told c.in-Err.is))

pub returns-in-Ok : goal.returns-in-Ok
returns-in-Ok c =
    put_same _ _ c.put_plane.ensures
    (plane_text _ _ c.requires.0 c.requires.1 _ _ _ _ _ c.read_pixels.ensures c.forward.ensures.answer c.requires.2.for_plane c.requires.2.for_work _ c.forward.ensures.plane (ap told c.in-Ok.is))

pub slice_bounds-forward-end : goal.slice_bounds-forward-end
slice_bounds-forward-end c =
    let room : c.args.head.w * c.args.head.h ≤ length c.read_pixels.new.pixels =
    omega (arith, area _ _ c.requires.0 c.requires.1, c.requires.2.for_pixels, c.read_pixels.auto.pixels) in
    room

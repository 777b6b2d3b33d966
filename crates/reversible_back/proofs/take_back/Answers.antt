-- Where a picture is found its pixels are written: what was found in the part of the work area that was lent is said of the whole of it.
use mathlib.Core.Path.{◌≡◌, sym, ◌∙◌, subst}
use Prim.Native.Nat.{◌*◌}
use native.Mathlib.Omega.{arith}
use lib.ListN.{length, drop}
use lib.Seq.{length-take-le}
use Rattle.reversible_back.specs.FoundLaws.{TakenBack, found_front, taken}
use Rattle.reversible_back.specs.Orders.{order_of}
use Rattle.reversible_back.proofs.take_back.Goals as goal

pub returns-clause-taken_back : goal.returns-clause-taken_back
returns-clause-taken_back c =
    let s = c.args in
    let f = c.args.form in
    let part = c.found.new.values in
    let l = length-take-le (f.w * f.h) s.work.now c.requires.room.third in
    let part_length : length part ≡ f.w * f.h = omega arith in
    let whole = found_front part (drop (f.w * f.h) s.work.now) part_length c.found.ensures in
    subst (TakenBack (order_of f.first) f.depth f.levels f.w f.h s.plane.now s.pixels.now c.write_pixels.new.pixels) (sym c.if-not-found.false ∙ c.found.ensures.answer)
    (taken c.requires s.plane.now _ s.pixels.now c.write_pixels.new.pixels _ whole c.if-not-found.false c.write_pixels.ensures.k_after (omega arith) (omega arith))

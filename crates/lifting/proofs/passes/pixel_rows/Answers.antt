-- `lifting::passes::pixel_rows` meets its contract. The loop's invariant: the first r rows are done.
use mathlib.Core.Path.{refl}
use Prim.Native.Nat.{suc, ◌*◌}
use native.Mathlib.Nat.{mul-le-mul_right}
use native.Mathlib.Omega.{arith}
use Rattle.slices.specs.Patch.{at}
use Rattle.slices.specs.PatchLines.{lines_none, lines_to}
use Rattle.slices.specs.Pixels.{pixel_line}
use Rattle.slices.specs.PartLaws.{row_put}
use Rattle.lifting.proofs.passes.pixel_rows.Goals as goal

pub loop-r-init : goal.loop-r-init
loop-r-init c = (omega arith, refl, refl, lines_none _ _ _ _)

pub overflow_mul-from : goal.overflow_mul-from
overflow_mul-from c = omega (arith, c.requires.part.0.fits c.loop-r.r c.loop-r-test.true)

pub split_pixels-requires : goal.split_pixels-requires
split_pixels-requires c = omega (arith, c.requires.part.0.wide, c.requires.part.2, c.requires.part.4, mul-le-mul_right {m = suc c.loop-r.r} {n = c.args.h} c.args.w c.loop-r-test.true)

pub finish-requires : goal.finish-requires
finish-requires c =
    let part = c.requires.part.0 in
    let h = c.loop-r-test.true in
    let there = part.fits c.loop-r.r h in record {
      strip_room = (
        record {
          lines = record { some = omega (arith, c.requires.part.1); few = omega (arith, part.wide); narrow = omega arith; fits = λ i p. omega arith };
          some = omega arith;
          two = c.requires.part.1;
          room = omega (arith, c.requires.part.2);
        },
        c.requires.part.3,
      );
      ready = record { line = λ j. pixel_line c.args.pixels.now c.args.middle (c.loop-r.r * c.args.w); held = c.split_pixels.ensures; safe = λ j g. c.requires.by_index c.loop-r.r h };
    }

pub loop-r-preserved : goal.loop-r-preserved
loop-r-preserved c =
    let r = c.loop-r.r in (
      omega arith,
      omega arith,
      omega arith,
      row_put c.args.w c.args.w r (r * c.args.w) _ _ (at c.args.plane.now) _ _ c.loop-r.invariant.3 (omega arith) (c.finish.ensures _ c.split_pixels.ensures) refl,
    )

pub returns : goal.returns
returns c = record {
  plane = lines_to _ _ _ _ _ _ _ c.loop-r.invariant.3 (omega arith);
  buffer = c.loop-r.invariant.2;
}

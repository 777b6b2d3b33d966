-- `lifting::buffers::split_lines` meets its contract. The loop's invariant: i lines of the lows and i of the highs are there.
use mathlib.Core.Path.{refl, ap}
use native.Mathlib.Omega.{arith}
use lib.IntN.{pos}
use Rattle.lines.specs.Lines.{highs}
use Rattle.slices.specs.Patch.{at}
use Rattle.lifting.specs.Buffers.{filled_none, filled_low, filled_high, filled_to, sizes}
use Rattle.lifting.specs.Strips.{two_lines_lem, last_line}
use Rattle.lifting.proofs.buffers.split_lines.Goals as goal

pub overflow_mul-top : goal.overflow_mul-top
overflow_mul-top c = omega (arith, c.requires.room, (sizes c.args.part.w c.args.part.h c.requires.two).all)

pub loop-i-init : goal.loop-i-init
loop-i-init c = (omega arith, refl, filled_none _ _ _ _ _)

pub loop-i-preserved : goal.loop-i-preserved
loop-i-preserved c =
    let i = c.loop-i.i in
    let z = two_lines_lem c.requires i c.loop-i-test.true in
    let x = at c.args.plane.now in (
      omega arith,
      omega arith,
      filled_high (filled_low c.loop-i.invariant.2 _ _ refl (λ j g. ap x (omega (arith, z.even))) (omega (arith, z.low))) _ _ c.copy_pair.ensures (λ j g. ap x (omega (arith, z.odd))) (omega (arith, z.low)),
    )

pub returns-then-high-low : goal.returns-then-high-low
returns-then-high-low c =
    let z = last_line c.requires c.if-high-low.true in
    let x = at c.args.plane.now in
    let n = c.args.part.h in
    filled_to (filled_low {a = highs n} {b = highs n} (filled_to c.loop-i.invariant.2 (omega arith) (omega arith)) _ _ (c.copy_run.ensures (pos 0)) (λ j g. ap x (omega arith)) (omega (arith, z.low))) (omega arith) (omega arith)

pub returns-else-high-low : goal.returns-else-high-low
returns-else-high-low c = filled_to c.loop-i.invariant.2 (omega arith) (omega arith)

pub overflow_add-low : goal.overflow_add-low
overflow_add-low c = omega (arith, c.requires.lines.few)

pub overflow_mul-a : goal.overflow_mul-a
overflow_mul-a c = omega (arith, (two_lines_lem c.requires _ c.loop-i-test.true).both)

pub overflow_mul-a-in-loop-i : goal.overflow_mul-a-in-loop-i
overflow_mul-a-in-loop-i c = omega (arith, (two_lines_lem c.requires _ c.loop-i-test.true).both)

pub overflow_add-a : goal.overflow_add-a
overflow_add-a c = omega (arith, (two_lines_lem c.requires _ c.loop-i-test.true).both)

pub overflow_mul-c : goal.overflow_mul-c
overflow_mul-c c = omega (arith, (two_lines_lem c.requires _ c.loop-i-test.true).high)

pub overflow_add-a-in-loop-i : goal.overflow_add-a-in-loop-i
overflow_add-a-in-loop-i c = omega (arith, (two_lines_lem c.requires _ c.loop-i-test.true).both)

pub overflow_add-top : goal.overflow_add-top
overflow_add-top c = omega (arith, (two_lines_lem c.requires _ c.loop-i-test.true).high)

pub copy_pair-requires : goal.copy_pair-requires
copy_pair-requires c = omega (arith, (two_lines_lem c.requires _ c.loop-i-test.true).both, (two_lines_lem c.requires _ c.loop-i-test.true).high, (two_lines_lem c.requires _ c.loop-i-test.true).apart, (two_lines_lem c.requires _ c.loop-i-test.true).low)

pub overflow_mul-high : goal.overflow_mul-high
overflow_mul-high c = omega (arith, (last_line c.requires c.if-high-low.true).there)

pub overflow_mul-high-then-high-low : goal.overflow_mul-high-then-high-low
overflow_mul-high-then-high-low c = omega (arith, (last_line c.requires c.if-high-low.true).there)

pub overflow_add-part : goal.overflow_add-part
overflow_add-part c = omega (arith, (last_line c.requires c.if-high-low.true).there)

pub overflow_mul-high-then-high-low-2 : goal.overflow_mul-high-then-high-low-2
overflow_mul-high-then-high-low-2 c = omega (arith, (last_line c.requires c.if-high-low.true).high, (last_line c.requires c.if-high-low.true).low)

pub copy_run-requires : goal.copy_run-requires
copy_run-requires c = let z = last_line c.requires c.if-high-low.true in omega (arith, z.there, z.low, z.high)

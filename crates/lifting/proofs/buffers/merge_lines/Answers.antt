-- `lifting::buffers::merge_lines` meets its contract. The loop's invariant: the first 2 i lines are there.
use mathlib.Core.Path.{refl}
use Prim.Native.Nat.{◌*◌}
use native.Mathlib.Omega.{arith}
use lib.IntN.{pos}
use Rattle.lines.specs.Lines.{highs}
use Rattle.slices.specs.Patch.{at}
use Rattle.slices.specs.PatchLines.{lines_none, lines_to}
use Rattle.lifting.specs.Buffers.{sizes}
use Rattle.lifting.specs.Strips.{two_lines_lem, last_line, woven_pair, woven_last}
use Rattle.lifting.proofs.buffers.merge_lines.Goals as goal

pub overflow_mul-top : goal.overflow_mul-top
overflow_mul-top c = omega (arith, c.requires.room, (sizes c.args.part.w c.args.part.h c.requires.two).all)

pub loop-i-init : goal.loop-i-init
loop-i-init c = (omega arith, refl, lines_none _ _ _ _)

pub loop-i-preserved : goal.loop-i-preserved
loop-i-preserved c = (omega arith, omega arith, woven_pair _ _ _ _ (at c.args.buffer.now) _ _ _ _ c.loop-i.invariant.2 c.copy_pair.ensures)

pub returns-then-high-low : goal.returns-then-high-low
returns-then-high-low c = woven_last _ _ _ _ (at c.args.buffer.now) _ c.if-high-low.true _ _ (lines_to _ _ _ (2 * highs c.args.part.h) _ _ _ c.loop-i.invariant.2 (omega arith)) (c.copy_run.ensures (pos 0))

pub returns-else-high-low : goal.returns-else-high-low
returns-else-high-low c = lines_to _ _ _ _ _ _ _ c.loop-i.invariant.2 (omega arith)

pub overflow_add-low : goal.overflow_add-low
overflow_add-low c = omega (arith, c.requires.lines.few)

pub overflow_mul-a : goal.overflow_mul-a
overflow_mul-a c = omega (arith, (two_lines_lem c.requires _ c.loop-i-test.true).both)

pub overflow_mul-a-in-loop-i : goal.overflow_mul-a-in-loop-i
overflow_mul-a-in-loop-i c = omega (arith, (two_lines_lem c.requires _ c.loop-i-test.true).both)

pub overflow_add-a : goal.overflow_add-a
overflow_add-a c = omega (arith, (two_lines_lem c.requires _ c.loop-i-test.true).both)

pub overflow_mul-c : goal.overflow_mul-c
overflow_mul-c c = omega (arith, (two_lines_lem c.requires _ c.loop-i-test.true).high)

pub overflow_add-top : goal.overflow_add-top
overflow_add-top c = omega (arith, (two_lines_lem c.requires _ c.loop-i-test.true).high)

pub overflow_add-a-in-loop-i : goal.overflow_add-a-in-loop-i
overflow_add-a-in-loop-i c = omega (arith, (two_lines_lem c.requires _ c.loop-i-test.true).both)

pub copy_pair-requires : goal.copy_pair-requires
copy_pair-requires c = let z = two_lines_lem c.requires _ c.loop-i-test.true in omega (arith, z.both, z.high, z.apart, z.low)

pub overflow_mul-high : goal.overflow_mul-high
overflow_mul-high c = omega (arith, (last_line c.requires c.if-high-low.true).high, (last_line c.requires c.if-high-low.true).low)

pub overflow_mul-high-then-high-low : goal.overflow_mul-high-then-high-low
overflow_mul-high-then-high-low c = omega (arith, (last_line c.requires c.if-high-low.true).there)

pub overflow_mul-high-then-high-low-2 : goal.overflow_mul-high-then-high-low-2
overflow_mul-high-then-high-low-2 c = omega (arith, (last_line c.requires c.if-high-low.true).there)

pub overflow_add-part : goal.overflow_add-part
overflow_add-part c = omega (arith, (last_line c.requires c.if-high-low.true).there)

pub copy_run-requires : goal.copy_run-requires
copy_run-requires c = let z = last_line c.requires c.if-high-low.true in omega (arith, z.there, z.low, z.high)

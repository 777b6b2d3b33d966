-- `viewing::finish_rows` meets its contract. The loop's invariant: the first r rows are shown and cleared, the others as they were.
use mathlib.Core.Path.{refl}
use native.Mathlib.Omega.{arith}
use Rattle.slices.specs.PatchLines.{lines_none}
use Rattle.viewing.specs.RowSteps.{row_ready, shown_more, cleared_more}
use Rattle.viewing.proofs.finish_rows.Goals as goal

pub finish_row-requires : goal.finish_row-requires
finish_row-requires c = row_ready c.requires c.loop-r.r c.loop-r-test.true c.loop-r.work c.loop-r.invariant.1 c.loop-r.invariant.5 _ _ c.loop-r.invariant.3 c.loop-r.invariant.2

pub loop-r-preserved : goal.loop-r-preserved
loop-r-preserved c =
    let more = c.loop-r-test.true in (
      omega arith,
      omega (arith, c.loop-r.invariant.1),
      omega (arith, c.loop-r.invariant.2),
      omega (arith, c.loop-r.invariant.3),
      shown_more c.requires c.loop-r.r more c.loop-r.work c.loop-r.invariant.1 c.loop-r.invariant.5 _ _ _ c.loop-r.invariant.4 c.finish_row.ensures.pixels,
      cleared_more c.requires c.loop-r.r more c.loop-r.work c.loop-r.invariant.1 c.loop-r.invariant.5 _ c.finish_row.ensures.work,
    )

pub loop-r-init : goal.loop-r-init
loop-r-init c = (omega arith, refl, refl, refl, lines_none _ _ _ _, lines_none _ _ _ _)

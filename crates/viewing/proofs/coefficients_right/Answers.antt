-- `viewing::coefficients_right` meets its contract. The loop's invariant: what lies outside of the part that the levels so far leave is right.
use mathlib.Core.Path.{◌≡◌, sym, ◌∙◌, ap}
use native.Mathlib.Omega.{arith}
use Rattle.lines.specs.Lines.{lows}
use Rattle.lines.specs.PlaneLaws.{side_none, side_more}
use Rattle.viewing.specs.WidthLaws.{right_none, last_level, look_part, look_ready, right_next, details_wrong, low_low_done, low_low_wrong}
use Rattle.viewing.proofs.coefficients_right.Goals as goal

pub details_fit-requires : goal.details_fit-requires
details_fit-requires c = look_ready c.args.table c.args.w c.args.h c.args.plane.now c.requires c.loop-k.k _ _ c.loop-k.invariant.1 c.loop-k.invariant.2 c.loop-k-test.true

pub returns-then-not-details_fit : goal.returns-then-not-details_fit
returns-then-not-details_fit c = details_wrong c.args.table c.args.w c.args.h c.args.plane.now c.requires c.loop-k.k _ _ c.loop-k.invariant.1 c.loop-k.invariant.2 c.loop-k-test.true _ c.details_fit.ensures c.if-not-details_fit.true

pub overflow_add-across : goal.overflow_add-across
overflow_add-across c = omega (arith, (look_part c.args.table c.args.w c.args.h c.args.plane.now c.requires c.loop-k.k _ _ c.loop-k.invariant.1 c.loop-k.invariant.2).narrow, c.requires.width.1)

pub overflow_add-down : goal.overflow_add-down
overflow_add-down c = omega (arith, (look_part c.args.table c.args.w c.args.h c.args.plane.now c.requires c.loop-k.k _ _ c.loop-k.invariant.1 c.loop-k.invariant.2).few)

pub loop-k-preserved : goal.loop-k-preserved
loop-k-preserved c = (
  omega arith,
  ap lows c.loop-k.invariant.1 ∙ side_more _ _,
  ap lows c.loop-k.invariant.2 ∙ side_more _ _,
  right_next c.args.table c.args.w c.args.h c.args.plane.now c.requires c.loop-k.k _ _ c.loop-k.invariant.1 c.loop-k.invariant.2 c.loop-k-test.true _ c.details_fit.ensures c.if-not-details_fit.false c.loop-k.invariant.3,
)

pub part_fits-requires : goal.part_fits-requires
part_fits-requires c =
    record {
      level = (last_level c.args.table c.args.w c.args.h c.args.plane.now c.requires, (omega arith, omega arith), (omega arith, omega arith));
      by_index = (look_part c.args.table c.args.w c.args.h c.args.plane.now c.requires c.loop-k.k _ _ c.loop-k.invariant.1 c.loop-k.invariant.2).fits;
    }

pub returns : goal.returns
returns c =
    let last : c.loop-k.k ≡ c.args.table.levels = omega arith in
    low_low_done c.args.table c.args.w c.args.h c.args.plane.now c.requires c.loop-k.k _ _ c.loop-k.invariant.1 c.loop-k.invariant.2 last _ c.part_fits.ensures c.if-not-part_fits.false c.loop-k.invariant.3

pub returns-then-not-part_fits : goal.returns-then-not-part_fits
returns-then-not-part_fits c =
    let last : c.loop-k.k ≡ c.args.table.levels = omega arith in
    low_low_wrong c.args.table c.args.w c.args.h c.args.plane.now c.requires c.loop-k.k _ _ c.loop-k.invariant.1 c.loop-k.invariant.2 last _ c.part_fits.ensures c.if-not-part_fits.true

pub loop-k-init : goal.loop-k-init
loop-k-init c = (omega arith, sym (side_none _), sym (side_none _), right_none _ _ _ _)

use mathlib.Core.Path.{refl, sym, subst}
use native.Mathlib.Omega.{arith}
use Rattle.view_precision.specs.Places.{own_at, owns_below, AllSmall}
use Rattle.bounds_rule.specs.Carried.{as_bound}
use Rattle.view_precision.specs.PlaceLaws.{owns_step}
use Rattle.view_precision.specs.SizeLaws.{owns_small}
use Rattle.view_precision.proofs.Pass.fed.Goals as goal

pub loop-stage-init : goal.loop-stage-init
unfolding owns_below own_at
loop-stage-init c = (omega arith, refl)

pub loop-stage-preserved : goal.loop-stage-preserved
loop-stage-preserved c =
    let a = c.args in
    (omega arith, owns_step (as_bound a.low) (as_bound a.high) c.loop-stage.stage (omega arith) c.loop-stage.invariant.1 c.total_before-total.ensures.0 c.own_error.ensures)

pub invariant_of-total_before : goal.invariant_of-total_before
invariant_of-total_before c = record {
  low_small = c.requires.0;
  high_small = c.requires.1;
  own_small = subst AllSmall (sym c.loop-stage.invariant.1) (owns_small (as_bound c.args.low) (as_bound c.args.high) c.requires.0 c.requires.1 c.loop-stage.stage (omega arith));
}

pub invariant_of-result : goal.invariant_of-result
invariant_of-result c = record {
  low_small = c.requires.0;
  high_small = c.requires.1;
  own_small = subst AllSmall (sym c.loop-stage.invariant.1) (owns_small (as_bound c.args.low) (as_bound c.args.high) c.requires.0 c.requires.1 c.loop-stage.stage (omega arith));
}

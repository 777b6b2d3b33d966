-- `lifting::passes::pixel_row` meets its contract: the row holds the pixels split, then lifted, then lifted twice, then with its lows scaled, then with its highs scaled.
use mathlib.Core.Path.{sym, subst}
use native.Mathlib.Omega.{arith}
use Rattle.lifting.specs.Steps.{scaled_by, FactorSafe}
use Rattle.lifting.specs.Kernels.{worked}
use Rattle.lifting.specs.Buffers.{lift_held, lift_asked, row_low, row_high, row_at, lows_each, highs_each}
use Rattle.lifting.proofs.passes.pixel_row.Goals as goal

pub lift-requires : goal.lift-requires
lift-requires c =
    record {
      buffer = record { two = c.requires.w_bound.1; few = omega arith; room = omega arith };
      lift_safe = lift_asked c.args.by.first c.requires.w_bound.1 c.split_pixels.ensures (λ j g. c.requires.safe_kernel.at_first);
    }

pub lift-requires-2 : goal.lift-requires-2
lift-requires-2 c =
    let two = c.requires.w_bound.1 in
    let once = lift_held c.args.by.first two c.split_pixels.ensures _ c.lift.ensures in
    record {
      buffer = record { two = two; few = omega arith; room = omega arith };
      lift_safe = lift_asked c.args.by.second two once (λ j g. c.requires.safe_kernel.at_second);
    }

pub scale_here-requires : goal.scale_here-requires
scale_here-requires c =
    let two = c.requires.w_bound.1 in
    let once = lift_held c.args.by.first two c.split_pixels.ensures _ c.lift.ensures in
    let twice = lift_held c.args.by.second two once _ c.lift-2.ensures in
    record {
      n_in_bounds = omega arith;
      by_index = λ j h. subst (FactorSafe c.args.by.low) (sym (row_low c.args.w twice j h)) (c.requires.safe_kernel.at_lows j h);
    }

pub scale_here-requires-2 : goal.scale_here-requires-2
scale_here-requires-2 c =
    let two = c.requires.w_bound.1 in
    let once = lift_held c.args.by.first two c.split_pixels.ensures _ c.lift.ensures in
    let twice = lift_held c.args.by.second two once _ c.lift-2.ensures in
    let lows_scaled = lows_each c.args.w twice (scaled_by c.args.by.low) _ c.scale_here.ensures in
    record {
      n_in_bounds = omega arith;
      by_index = λ j h. subst (FactorSafe c.args.by.high) (sym (row_high c.args.w lows_scaled j h)) (c.requires.safe_kernel.at_highs j h);
    }

pub returns : goal.returns
unfolding worked
returns c i h =
    let two = c.requires.w_bound.1 in
    let once = lift_held c.args.by.first two c.split_pixels.ensures _ c.lift.ensures in
    let twice = lift_held c.args.by.second two once _ c.lift-2.ensures in
    let lows_scaled = lows_each c.args.w twice (scaled_by c.args.by.low) _ c.scale_here.ensures in
    row_at c.args.w (highs_each c.args.w lows_scaled (scaled_by c.args.by.high) _ c.scale_here-2.ensures) i h

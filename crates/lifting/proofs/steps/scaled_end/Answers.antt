-- `lifting::steps::scaled_end` meets its contract: each call's result is the number that `scaled_end` has at its place.
use mathlib.Core.Path.{ap, ◌∙◌}
use Prim.Native.Nat.{◌^◌}
use lib.IntN.{ℤ, pos, ◌+ℤ◌, ◌*ℤ◌}
use mir.Syntax.{w32}
use mir.Facts.{to_z-of_z}
use Rattle.lifting.specs.declared.Step.TheVariants.{Scaled}
use Rattle.slices.specs.SignedRuns.{got, fits_at}
use Rattle.numbers.specs.Laws.{twice_times}
use Rattle.lifting.specs.Ends.{ended_fits}
use Rattle.lifting.proofs.Signed.{power_small, power_times, double_times, sum_back, shr_back}
use Rattle.lifting.proofs.steps.scaled_end.Goals as goal

pub overflow_cast-power : goal.overflow_cast-power
overflow_cast-power c = record { sfits = power_small c.requires.few c.power.ensures }

pub times-left-requires : goal.times-left-requires
times-left-requires c = fits_at (power_times c.requires.few c.power.ensures c.ranges.own c.wide.type_inv c.wide.ensures) c.requires.left

-- the constant doubled
pub times-requires : goal.times-requires
times-requires c = fits_at (ap (λ (z : ℤ). pos 2 *ℤ z) (to_z-of_z c.ranges.c)) c.requires.doubled

pub times-right-requires : goal.times-right-requires
times-right-requires c =
    let right = double_times c.ranges.c c.times.type_inv c.times.ensures c.ranges.x c.wide-2.type_inv c.wide-2.ensures in
    fits_at (right ∙ twice_times c.args.c c.args.x) c.requires.right

pub plus-requires : goal.plus-requires
plus-requires c =
    let left = power_times c.requires.few c.power.ensures c.ranges.own c.wide.type_inv c.wide.ensures in
    let right = double_times c.ranges.c c.times.type_inv c.times.ensures c.ranges.x c.wide-2.type_inv c.wide-2.ensures in
    let both = sum_back c.times-left.type_inv (c.times-left.ensures ∙ left) c.times-right.type_inv (c.times-right.ensures ∙ right) in
    fits_at (both ∙ ap (λ (z : ℤ). pos (2 ^ c.args.k) *ℤ c.args.own +ℤ z) (twice_times c.args.c c.args.x)) c.requires.both

pub narrowed-requires : goal.narrowed-requires
narrowed-requires c =
    let left = power_times c.requires.few c.power.ensures c.ranges.own c.wide.type_inv c.wide.ensures in
    let right = double_times c.ranges.c c.times.type_inv c.times.ensures c.ranges.x c.wide-2.type_inv c.wide-2.ensures in
    let both = sum_back c.times-left.type_inv (c.times-left.ensures ∙ left) c.times-right.type_inv (c.times-right.ensures ∙ right) in
    let v = c.args in
    record {
      cut_bound = c.requires.short;
      sfits = fits_at (shr_back v.cut c.plus.type_inv (c.plus.ensures ∙ both)) (ended_fits (Scaled v.k v.c v.cut) v.own v.x c.requires.result);
    }

pub returns : goal.returns
returns c =
    let left = power_times c.requires.few c.power.ensures c.ranges.own c.wide.type_inv c.wide.ensures in
    let right = double_times c.ranges.c c.times.type_inv c.times.ensures c.ranges.x c.wide-2.type_inv c.wide-2.ensures in
    let both = sum_back c.times-left.type_inv (c.times-left.ensures ∙ left) c.times-right.type_inv (c.times-right.ensures ∙ right) in
    got w32 c.narrowed.type_inv (c.narrowed.ensures ∙ shr_back c.args.cut c.plus.type_inv (c.plus.ensures ∙ both))

-- `lifting::steps::scaled_of` meets its contract: each call's result is the number that `scaled` has at its place.
use mathlib.Core.Path.{ap₂, ◌∙◌}
use lib.IntN.{◌+ℤ◌, ◌*ℤ◌}
use mir.Syntax.{w32, w64}
use mir.Facts.{to_z-of_z}
use Rattle.slices.specs.SignedRuns.{got, fits_at}
use Rattle.lifting.proofs.Signed.{sfits_wide, wide_back, power_small, power_times, sum_back, shr_back}
use Rattle.lifting.proofs.steps.scaled_of.Goals as goal

pub overflow_cast-power : goal.overflow_cast-power
overflow_cast-power c = record { sfits = power_small c.requires.few c.power.ensures }

pub times-left-requires : goal.times-left-requires
times-left-requires c = fits_at (power_times c.requires.few c.power.ensures c.ranges.own c.wide.type_inv c.wide.ensures) c.requires.left

pub plus-requires : goal.plus-requires
plus-requires c =
    fits_at (ap₂ ◌+ℤ◌ (wide_back c.ranges.x c.wide-2.type_inv c.wide-2.ensures) (wide_back c.ranges.y c.wide-3.type_inv c.wide-3.ensures)) (sfits_wide c.requires.sides.sum)

pub times-right-requires : goal.times-right-requires
times-right-requires c =
    let sides = ap₂ ◌+ℤ◌ (wide_back c.ranges.x c.wide-2.type_inv c.wide-2.ensures) (wide_back c.ranges.y c.wide-3.type_inv c.wide-3.ensures) in
    fits_at (ap₂ ◌*ℤ◌ (to_z-of_z c.ranges.c) (got w64 c.plus.type_inv (c.plus.ensures ∙ sides))) c.requires.right

pub plus-requires-2 : goal.plus-requires-2
plus-requires-2 c =
    let left = power_times c.requires.few c.power.ensures c.ranges.own c.wide.type_inv c.wide.ensures in
    let sides = ap₂ ◌+ℤ◌ (wide_back c.ranges.x c.wide-2.type_inv c.wide-2.ensures) (wide_back c.ranges.y c.wide-3.type_inv c.wide-3.ensures) in
    let right = ap₂ ◌*ℤ◌ (to_z-of_z c.ranges.c) (got w64 c.plus.type_inv (c.plus.ensures ∙ sides)) in
    fits_at (sum_back c.times-left.type_inv (c.times-left.ensures ∙ left) c.times-right.type_inv (c.times-right.ensures ∙ right)) c.requires.both

pub narrowed-requires : goal.narrowed-requires
narrowed-requires c =
    let left = power_times c.requires.few c.power.ensures c.ranges.own c.wide.type_inv c.wide.ensures in
    let sides = ap₂ ◌+ℤ◌ (wide_back c.ranges.x c.wide-2.type_inv c.wide-2.ensures) (wide_back c.ranges.y c.wide-3.type_inv c.wide-3.ensures) in
    let right = ap₂ ◌*ℤ◌ (to_z-of_z c.ranges.c) (got w64 c.plus.type_inv (c.plus.ensures ∙ sides)) in
    let both = sum_back c.times-left.type_inv (c.times-left.ensures ∙ left) c.times-right.type_inv (c.times-right.ensures ∙ right) in
    record { cut_bound = c.requires.short; sfits = fits_at (shr_back c.args.cut c.plus-2.type_inv (c.plus-2.ensures ∙ both)) c.requires.result }

pub returns : goal.returns
returns c =
    let left = power_times c.requires.few c.power.ensures c.ranges.own c.wide.type_inv c.wide.ensures in
    let sides = ap₂ ◌+ℤ◌ (wide_back c.ranges.x c.wide-2.type_inv c.wide-2.ensures) (wide_back c.ranges.y c.wide-3.type_inv c.wide-3.ensures) in
    let right = ap₂ ◌*ℤ◌ (to_z-of_z c.ranges.c) (got w64 c.plus.type_inv (c.plus.ensures ∙ sides)) in
    let both = sum_back c.times-left.type_inv (c.times-left.ensures ∙ left) c.times-right.type_inv (c.times-right.ensures ∙ right) in
    got w32 c.narrowed.type_inv (c.narrowed.ensures ∙ shr_back c.args.cut c.plus-2.type_inv (c.plus-2.ensures ∙ both))

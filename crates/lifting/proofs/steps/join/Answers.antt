-- `lifting::steps::join` meets its contract: each call's result is the number that `joined` has at its place.
use mathlib.Core.Path.{ap₂, ◌∙◌}
use lib.IntN.{◌*ℤ◌}
use mir.Syntax.{w32}
use mir.Facts.{to_z-of_z}
use Rattle.slices.specs.SignedRuns.{got, fits_at}
use Rattle.lifting.proofs.Signed.{power_small, power_back, power_times, sum_back, shr_back}
use Rattle.lifting.proofs.steps.join.Goals as goal

pub overflow_cast-power : goal.overflow_cast-power
overflow_cast-power c = record { sfits = power_small c.requires.few c.power.ensures }

pub times-left-requires : goal.times-left-requires
times-left-requires c = fits_at (power_times c.requires.few c.power.ensures c.ranges.own c.wide.type_inv c.wide.ensures) c.requires.left

pub overflow_cast-power-2 : goal.overflow_cast-power-2
overflow_cast-power-2 c = record { sfits = power_small c.requires.rises c.power-2.ensures }

pub times-right-requires : goal.times-right-requires
times-right-requires c = fits_at (ap₂ ◌*ℤ◌ (power_back c.requires.rises c.power-2.ensures) (to_z-of_z c.ranges.part)) c.requires.right

pub plus-requires : goal.plus-requires
plus-requires c =
    let left = power_times c.requires.few c.power.ensures c.ranges.own c.wide.type_inv c.wide.ensures in
    let right = ap₂ ◌*ℤ◌ (power_back c.requires.rises c.power-2.ensures) (to_z-of_z c.ranges.part) in
    fits_at (sum_back c.times-left.type_inv (c.times-left.ensures ∙ left) c.times-right.type_inv (c.times-right.ensures ∙ right)) c.requires.both

pub narrowed-requires : goal.narrowed-requires
narrowed-requires c =
    let left = power_times c.requires.few c.power.ensures c.ranges.own c.wide.type_inv c.wide.ensures in
    let right = ap₂ ◌*ℤ◌ (power_back c.requires.rises c.power-2.ensures) (to_z-of_z c.ranges.part) in
    let both = sum_back c.times-left.type_inv (c.times-left.ensures ∙ left) c.times-right.type_inv (c.times-right.ensures ∙ right) in
    record { cut_bound = c.requires.short; sfits = fits_at (shr_back c.args.cut c.plus.type_inv (c.plus.ensures ∙ both)) c.requires.result }

pub returns : goal.returns
returns c =
    let left = power_times c.requires.few c.power.ensures c.ranges.own c.wide.type_inv c.wide.ensures in
    let right = ap₂ ◌*ℤ◌ (power_back c.requires.rises c.power-2.ensures) (to_z-of_z c.ranges.part) in
    let both = sum_back c.times-left.type_inv (c.times-left.ensures ∙ left) c.times-right.type_inv (c.times-right.ensures ∙ right) in
    got w32 c.narrowed.type_inv (c.narrowed.ensures ∙ shr_back c.args.cut c.plus.type_inv (c.plus.ensures ∙ both))

-- `lifting::steps::cut_of` meets its contract: each call's result is the number that `cut_first` has at its place.
use mathlib.Core.Path.{sym, ap₂, ◌∙◌}
use lib.IntN.{◌+ℤ◌, ◌*ℤ◌}
use mir.Syntax.{w32, w64}
use mir.Facts.{to_z-of_z}
use Rattle.slices.specs.Runs.{as_type}
use Rattle.lifting.specs.BiasedCut.{joined, JoinSafe, cut_joins}
use Rattle.slices.specs.SignedRuns.{got, fits_at}
use Rattle.lifting.proofs.Signed.{sfits_wide, wide_back, shr_back}
use Rattle.lifting.proofs.steps.cut_of.Goals as goal

pub plus-requires : goal.plus-requires
plus-requires c =
    fits_at (ap₂ ◌+ℤ◌ (wide_back c.ranges.x c.wide.type_inv c.wide.ensures) (wide_back c.ranges.y c.wide-2.type_inv c.wide-2.ensures)) (sfits_wide c.requires.sides.sum)

pub times-requires : goal.times-requires
times-requires c =
    let sides = ap₂ ◌+ℤ◌ (wide_back c.ranges.x c.wide.type_inv c.wide.ensures) (wide_back c.ranges.y c.wide-2.type_inv c.wide-2.ensures) in
    fits_at (ap₂ ◌*ℤ◌ (to_z-of_z c.ranges.c) (got w64 c.plus.type_inv (c.plus.ensures ∙ sides))) c.requires.whole

pub join-requires : goal.join-requires
join-requires c =
    let sides = ap₂ ◌+ℤ◌ (wide_back c.ranges.x c.wide.type_inv c.wide.ensures) (wide_back c.ranges.y c.wide-2.type_inv c.wide-2.ensures) in
    let whole = ap₂ ◌*ℤ◌ (to_z-of_z c.ranges.c) (got w64 c.plus.type_inv (c.plus.ensures ∙ sides)) in
    let part = got w64 c.shifted-part.type_inv (c.shifted-part.ensures ∙ shr_back c.args.first c.times.type_inv (c.times.ensures ∙ whole)) in
    as_type (λ u. JoinSafe c.args.k c.args.up c.args.cut (sym (to_z-of_z c.ranges.own) u) (sym part u)) (cut_joins c.requires)

pub returns : goal.returns
returns c =
    let sides = ap₂ ◌+ℤ◌ (wide_back c.ranges.x c.wide.type_inv c.wide.ensures) (wide_back c.ranges.y c.wide-2.type_inv c.wide-2.ensures) in
    let whole = ap₂ ◌*ℤ◌ (to_z-of_z c.ranges.c) (got w64 c.plus.type_inv (c.plus.ensures ∙ sides)) in
    let part = got w64 c.shifted-part.type_inv (c.shifted-part.ensures ∙ shr_back c.args.first c.times.type_inv (c.times.ensures ∙ whole)) in
    got w32 c.join.type_inv (c.join.ensures ∙ (λ u. joined c.args.k c.args.up c.args.cut (to_z-of_z c.ranges.own u) (part u)))

-- `lifting::steps::scaled_by` meets its contract: each call's result is the number that `scaled_by` has at its place.
use mathlib.Core.Path.{ap₂, ◌∙◌}
use lib.IntN.{◌*ℤ◌}
use mir.Syntax.{w32}
use mir.Facts.{to_z-of_z}
use Rattle.slices.specs.SignedRuns.{got, fits_at}
use Rattle.lifting.proofs.Signed.{wide_back, shr_back}
use Rattle.lifting.proofs.steps.scaled_by.Goals as goal

pub times-requires : goal.times-requires
times-requires c = fits_at (ap₂ ◌*ℤ◌ (to_z-of_z c.ranges.c) (wide_back c.ranges.x c.wide.type_inv c.wide.ensures)) c.requires.product

pub narrowed-requires : goal.narrowed-requires
narrowed-requires c =
    let product = ap₂ ◌*ℤ◌ (to_z-of_z c.ranges.c) (wide_back c.ranges.x c.wide.type_inv c.wide.ensures) in
    record { cut_bound = c.requires.short; sfits = fits_at (shr_back c.args.cut c.times.type_inv (c.times.ensures ∙ product)) c.requires.result }

pub returns : goal.returns
returns c =
    let product = ap₂ ◌*ℤ◌ (to_z-of_z c.ranges.c) (wide_back c.ranges.x c.wide.type_inv c.wide.ensures) in
    got w32 c.narrowed.type_inv (c.narrowed.ensures ∙ shr_back c.args.cut c.times.type_inv (c.times.ensures ∙ product))

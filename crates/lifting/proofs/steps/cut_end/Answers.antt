-- `lifting::steps::cut_end` meets its contract: each call's result is the number that `cut_first_end` has at its place.
use mathlib.Core.Path.{sym, ap, ◌∙◌}
use lib.IntN.{ℤ, pos, ◌*ℤ◌}
use mir.Syntax.{w32, w64}
use mir.Facts.{to_z-of_z}
use Rattle.numbers.specs.Laws.{twice_times}
use Rattle.slices.specs.Runs.{as_type}
use Rattle.lifting.specs.BiasedCut.{joined, JoinSafe, end_joins}
use Rattle.slices.specs.SignedRuns.{got, fits_at}
use Rattle.lifting.proofs.Signed.{double_times, shr_back}
use Rattle.lifting.proofs.steps.cut_end.Goals as goal

-- the constant doubled
pub times-requires : goal.times-requires
times-requires c = fits_at (ap (λ (z : ℤ). pos 2 *ℤ z) (to_z-of_z c.ranges.c)) c.requires.doubled

pub times-requires-2 : goal.times-requires-2
times-requires-2 c =
    let whole = double_times c.ranges.c c.times.type_inv c.times.ensures c.ranges.x c.wide.type_inv c.wide.ensures in
    fits_at (whole ∙ twice_times c.args.c c.args.x) c.requires.whole

pub join-requires : goal.join-requires
join-requires c =
    let whole = double_times c.ranges.c c.times.type_inv c.times.ensures c.ranges.x c.wide.type_inv c.wide.ensures in
    let part = got w64 c.shifted-part.type_inv (c.shifted-part.ensures ∙ shr_back c.args.first c.times-2.type_inv (c.times-2.ensures ∙ whole)) in
    let a = c.args in
    as_type (λ u. JoinSafe a.k a.up a.cut (sym (to_z-of_z c.ranges.own) u) (sym part u)) (end_joins a.k a.c a.first a.up a.cut a.own a.x c.requires)

pub returns : goal.returns
returns c =
    let whole = double_times c.ranges.c c.times.type_inv c.times.ensures c.ranges.x c.wide.type_inv c.wide.ensures in
    let part = got w64 c.shifted-part.type_inv (c.shifted-part.ensures ∙ shr_back c.args.first c.times-2.type_inv (c.times-2.ensures ∙ whole)) in
    got w32 c.join.type_inv (c.join.ensures ∙ (λ u. joined c.args.k c.args.up c.args.cut (to_z-of_z c.ranges.own u) (part u)))

use mathlib.Core.Bool.{◌&&◌}
use mathlib.Core.Path.{◌≡◌, sym, ◌∙◌, subst}
use native.Mathlib.Omega.{arith}
use lib.Dec.{lit≤}
use Rattle.std.proofs.Common.{rules}
use Rattle.bounds_rule.specs.Carried.{as_bound}
use Rattle.precision.specs.JudgeLaws.{at_pass}
use Rattle.view_precision.specs.Places.{SmallFed, most_entering}
use Rattle.view_precision.specs.LevelLaws.{within_small, low_within, high_within, low_is_lem, high_is_lem, gives_is, right_is}
use Rattle.view_precision.proofs.Stored.work_level.Goals as goal

pub bound-low_high-requires : goal.bound-low_high-requires
bound-low_high-requires c = record { at = at_pass c.requires.at 2 (lit≤ tt, lit≤ tt); node = (lit≤ tt, lit≤ tt) }

pub bound-high_low-requires : goal.bound-high_low-requires
bound-high_low-requires c = record { at = at_pass c.requires.at 3 (lit≤ tt, lit≤ tt); node = (lit≤ tt, lit≤ tt) }

pub bound-high_high-requires : goal.bound-high_high-requires
bound-high_high-requires c = record { at = at_pass c.requires.at 3 (lit≤ tt, lit≤ tt); node = (lit≤ tt, lit≤ tt) }

pub work_pass-low_columns-requires : goal.work_pass-low_columns-requires
work_pass-low_columns-requires c = (within_small (omega arith) c.requires.entering, within_small (lit≤ tt) c.bound-low_high.ensures.1)

pub work_pass-high_columns-requires : goal.work_pass-high_columns-requires
work_pass-high_columns-requires c = (within_small (lit≤ tt) c.bound-high_low.ensures.1, within_small (lit≤ tt) c.bound-high_high.ensures.1)

pub work_pass-rows-requires : goal.work_pass-rows-requires
work_pass-rows-requires c =
    let p = c.args.self.now in
    let t = p.table.now in
    let l = c.args.level in
    let b = as_bound c.args.entering in
    let low = low_is_lem t p.steps l b c.bound-low_high.ensures.0 c.work_pass-low_columns.ensures.bound in
    let high = high_is_lem t p.steps l b c.bound-high_low.ensures.0 c.bound-high_high.ensures.0 c.work_pass-high_columns.ensures.bound in
    let at = c.requires.at in
    (subst SmallFed (sym low) (within_small (lit≤ tt) (low_within t p.form p.steps p.few l at.level_from at.level_to b most_entering (lit≤ tt) c.requires.entering)), subst SmallFed (sym high) (within_small (lit≤ tt) (high_within t p.form p.steps p.few l at.level_from at.level_to b most_entering (lit≤ tt) c.requires.entering)))

pub returns-clause-right : goal.returns-clause-right
returns-clause-right c =
    let p = c.args.self.now in
    let t = p.table.now in
    let l = c.args.level in
    let b = as_bound c.args.entering in
    let low = low_is_lem t p.steps l b c.bound-low_high.ensures.0 c.work_pass-low_columns.ensures.bound in
    let high = high_is_lem t p.steps l b c.bound-high_low.ensures.0 c.bound-high_high.ensures.0 c.work_pass-high_columns.ensures.bound in
    let all : c.if-high_columns.result ≡ (c.work_pass-low_columns.result.right && c.work_pass-high_columns.result.right && c.work_pass-rows.result.right) = search rules in
    all ∙ right_is t p.steps l b c.bound-low_high.ensures.0 c.work_pass-low_columns.ensures.right c.bound-high_low.ensures.0 c.bound-high_high.ensures.0 c.work_pass-high_columns.ensures.right low high c.work_pass-rows.ensures.right

pub returns-clause-bound : goal.returns-clause-bound
returns-clause-bound c =
    let p = c.args.self.now in
    let t = p.table.now in
    let l = c.args.level in
    let b = as_bound c.args.entering in
    let low = low_is_lem t p.steps l b c.bound-low_high.ensures.0 c.work_pass-low_columns.ensures.bound in
    let high = high_is_lem t p.steps l b c.bound-high_low.ensures.0 c.bound-high_high.ensures.0 c.work_pass-high_columns.ensures.bound in
    gives_is t p.steps l b low high c.work_pass-rows.ensures.bound

use mathlib.Core.Bool.{◌&&◌}
use mathlib.Core.Path.{◌≡◌, ◌∙◌, ap}
use native.Mathlib.Omega.{arith}
use lib.Dec.{lit≤}
use Rattle.width_table.specs.Limits.{form_levels}
use Rattle.view_precision.specs.LevelLaws.{reached_first, reached_next, reached_small, reached_last}
use Rattle.std.proofs.Common.{rules}
use Rattle.view_precision.proofs.Stored.work_levels.Goals as goal

pub bound-bound-requires : goal.bound-bound-requires
bound-bound-requires c =
    let p = c.args.self.now in
    record {
      at = record { form = p.form; level_from = (form_levels p.table.now p.form).0; level_to = omega arith; pass = (lit≤ tt, lit≤ tt) };
      node = (lit≤ tt, lit≤ tt);
    }

pub loop-level-init : goal.loop-level-init
loop-level-init c =
    let p = c.args.self.now in
    reached_first p.table.now p.steps p.form p.few _ c.bound-bound.ensures.0

pub work_level-given-requires : goal.work_level-given-requires
work_level-given-requires c =
    let p = c.args.self.now in
    record {
      at = record { form = p.form; level_from = c.loop-level-test.true; level_to = c.loop-level.invariant.level; pass = (lit≤ tt, lit≤ tt) };
      entering = reached_small p.table.now p.steps c.loop-level.invariant;
    }

pub loop-level-preserved : goal.loop-level-preserved
loop-level-preserved c =
    let p = c.args.self.now in
    let both : c.if-right.right ≡ (c.loop-level.right && c.work_level-given.result.right) = search rules in
    reached_next p.table.now p.steps p.form p.few c.loop-level.level c.loop-level-test.true c.loop-level.invariant (both ∙ ap (λ x. c.loop-level.right && x) c.work_level-given.ensures.right) c.work_level-given.ensures.bound

pub returns : goal.returns
returns c =
    let p = c.args.self.now in
    let zero : c.loop-level.level ≡ 0 = omega arith in
    let last = reached_last p.table.now p.steps zero c.loop-level.invariant in
    record { right = last.0; bound = last.1 }

use Rattle.bounds_rule.specs.Carried.{as_bound}
use Rattle.view_precision.specs.LevelLaws.{Reached}
use Rattle.view_precision.proofs.Stored.work_levels.Given as goal

abbrev pub invariant-loop-level : goal.invariant-loop-level
invariant-loop-level l = Reached l.self.table.now l.self.steps l.level l.right (as_bound l.bound)

-- The side is halved once for each level.
use Rattle.std.proofs.Common.{sym, ap, ◌∙◌, arith}
use Rattle.lines.specs.Lines.{lows}
use Rattle.lines.specs.PlaneLaws.{side_none, side_more, side_le}
use Rattle.pictures.proofs.side_after.Goals as goal

pub loop-init : goal.loop-init
loop-init c = sym (side_none _)

pub overflow_add-m : goal.overflow_add-m
overflow_add-m c = omega (arith, side_le c.loop.counter c.args.n)

pub loop-preserved : goal.loop-preserved
loop-preserved c = ap lows c.loop.invariant ∙ side_more _ _

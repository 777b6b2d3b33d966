use mathlib.Core.Path.{sym, ◌∙◌}
use lib.Dec.{lit≤}
use Rattle.width_table.specs.Nodes.{G1, G2}
use Rattle.precision.specs.OrderLaws.{left_reached}
use Rattle.precision.proofs.PassAt.judge.Goals as goal

pub returns-clause-low : goal.returns-clause-low
returns-clause-low c =
    let h = c.bounds-bounds.ensures in
    left_reached G1 c.requires.place (c.bound_at.ensures ∙ h.is 5 (lit≤ tt, lit≤ tt)) (sym c.in_ok-judge_nodes.ensures)

pub returns-clause-high : goal.returns-clause-high
returns-clause-high c =
    let h = c.bounds-bounds.ensures in
    left_reached G2 c.requires.place (c.bound_at-2.ensures ∙ h.is 6 (lit≤ tt, lit≤ tt)) (sym c.in_ok-judge_nodes.ensures)

use mathlib.Core.Path.{ap}
use Rattle.bounds_rule.specs.Carried.{as_bound}
use Rattle.view_precision.specs.Bounds.{within_max}
use Rattle.view_precision.specs.PlaceLaws.{node_bound_lem}
use Rattle.view_precision.proofs.Pass.node_right.Goals as goal

pub returns : goal.returns
returns c =
    let a = c.args.self.now in
    ap within_max (node_bound_lem (as_bound a.low) (as_bound a.high) c.args.stage c.requires.stage c.requires.own c.node_at-bound.ensures.0)

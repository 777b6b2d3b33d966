use Rattle.stages.specs.Rule.{own_lift}
use Rattle.bounds_rule.proofs.own_lift.Goals as goal

pub returns : goal.returns
unfolding own_lift
returns c = cc

use Rattle.stages.specs.Rule.{own_scale}
use Rattle.bounds_rule.proofs.own_scale.Goals as goal

pub returns : goal.returns
unfolding own_scale
returns c = cc

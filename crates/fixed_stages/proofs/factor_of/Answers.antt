use Rattle.std.proofs.Common.{rules}
use Rattle.fixed_stages.specs.Steps.{factor_of}
use Rattle.fixed_stages.proofs.factor_of.Goals as goal

pub returns : goal.returns
unfolding factor_of
returns c = search rules

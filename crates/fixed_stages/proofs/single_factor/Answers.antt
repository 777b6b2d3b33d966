use Rattle.std.proofs.Common.{rules}
use Rattle.fixed_stages.specs.Steps.{single_of}
use Rattle.fixed_stages.proofs.single_factor.Goals as goal

pub returns : goal.returns
unfolding single_of
returns c = search rules

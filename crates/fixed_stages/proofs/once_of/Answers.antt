use Rattle.std.proofs.Common.{rules}
use Rattle.fixed_stages.specs.Steps.{once_of}
use Rattle.fixed_stages.proofs.once_of.Goals as goal

pub returns : goal.returns
unfolding once_of
returns c = search rules

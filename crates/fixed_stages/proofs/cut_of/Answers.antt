use Rattle.std.proofs.Common.{rules}
use Rattle.fixed_stages.specs.Steps.{cut_of}
use Rattle.fixed_stages.proofs.cut_of.Goals as goal

pub returns : goal.returns
unfolding cut_of
returns c = search rules

use Rattle.view_precision.proofs.Pass.bound_at.Goals as goal

pub returns : goal.returns
returns c = cc

-- `lifting::runs::scale_here` meets its contract: in each arm the scaling is the one that the arm takes.
use borrow.Author.Rules.{rules}
use Rattle.lifting.proofs.Read.{plain_back}
use Rattle.lifting.proofs.Turn.{scale_made}
use Rattle.lifting.proofs.runs.scale_here.Goals as goal

pub returns-in-Plain : goal.returns-in-Plain
returns-in-Plain c = scale_made _ (plain_back (search rules) c.in-Plain.is) c.map_here.ensures (λ j v h p. search rules)

pub returns-in-Biased : goal.returns-in-Biased
returns-in-Biased c = scale_made _ c.in-Biased.is c.map_here-in-Biased.ensures (λ j v h p. search rules)

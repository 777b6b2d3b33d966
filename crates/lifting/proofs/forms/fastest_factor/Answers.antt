-- `lifting::forms::fastest_factor` meets its contract.
use mathlib.Core.Path.{sym, subst}
use borrow.Author.Rules.{rules}
use Rattle.lifting.specs.declared.Factor.{Factor}
use Rattle.lifting.specs.Steps.{SameFactor}
use Rattle.lifting.proofs.Read.{plain_back}
use Rattle.lifting.proofs.forms.fastest_factor.Goals as goal

pub returns-in-Plain : goal.returns-in-Plain
returns-in-Plain c = subst (λ (g : Factor). SameFactor g c.quick_factor.result) (sym (plain_back (search rules) c.in-Plain.is)) c.quick_factor.ensures

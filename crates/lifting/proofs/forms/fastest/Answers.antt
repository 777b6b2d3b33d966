-- `lifting::forms::fastest` meets its contract.
use mathlib.Core.Path.{sym, subst}
use borrow.Author.Rules.{rules}
use Rattle.lifting.specs.declared.Step.{Step}
use Rattle.lifting.specs.Steps.{SameStep}
use Rattle.lifting.proofs.Read.{scaled_back, cut_back}
use Rattle.lifting.proofs.forms.fastest.Goals as goal

pub returns-in-Scaled : goal.returns-in-Scaled
returns-in-Scaled c = subst (λ (s : Step). SameStep s c.quick.result) (sym (scaled_back (search rules) c.in-Scaled.is)) c.quick.ensures

pub returns-in-Cut : goal.returns-in-Cut
returns-in-Cut c = subst (λ (s : Step). SameStep s c.quick_cut.result) (sym (cut_back (search rules) c.in-Cut.is)) c.quick_cut.ensures

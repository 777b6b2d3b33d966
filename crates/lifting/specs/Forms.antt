-- The steps and the scaling that are run in biased forms, by their numbers.
use Rattle.std.specs.Prelude.{Bool}
use Rattle.lifting.specs.declared.Step.{Step}
use Rattle.lifting.specs.declared.Step.TheVariants.{Separate, Combined, BiasedCut}
use Rattle.lifting.specs.declared.Factor.{Factor}
use Rattle.lifting.specs.declared.Factor.TheVariants.{Biased}
use Rattle.lifting.specs.declared.BiasedForm.{BiasedForm}
use Rattle.lifting.specs.declared.CutForm.{CutForm}
use Rattle.lifting.specs.declared.FactorForm.{FactorForm}

-- `by` is the rise: the own value is taken out of the cut, and there is no offset
abbrev pub separate_step : Bool → BiasedForm → Step
separate_step down f = Separate down f.by f.c f.base f.cut

-- `by` is k: the own value is cut with the product
abbrev pub combined_step : Bool → BiasedForm → Step
combined_step down f = Combined down f.by f.c f.offset f.base f.cut

-- the product is cut first
abbrev pub cut_step : Bool → CutForm → Step
cut_step down f = BiasedCut down f.k f.c f.offset f.first f.up f.base f.cut

-- a scaling
abbrev pub biased_factor : FactorForm → Factor
biased_factor f = Biased f.c f.offset f.base f.cut

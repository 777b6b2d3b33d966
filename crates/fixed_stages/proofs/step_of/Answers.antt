use mathlib.Core.Path.{sym, ◌∙◌, ap}
use lib.IntN.{ℤ}
use mir.Facts.{to_z-of_z}
use Rattle.fixed_stages.specs.Steps.{once_of, cut_of}
use Rattle.fixed_stages.specs.StepLaws.{step_once, step_cut}
use Rattle.fixed_stages.proofs.step_of.Goals as goal

pub returns-then-cut_together : goal.returns-then-cut_together
returns-then-cut_together c =
    let a = c.args in
    c.once_of.ensures
    ∙ ap (λ (k : ℤ). once_of k a.bits a.sides a.own a.kept) (to_z-of_z c.ranges.constant)
    ∙ sym (step_once a.width a.constant a.bits a.sides a.own a.kept (sym c.cut_together.ensures ∙ c.if-cut_together.true))

pub returns : goal.returns
returns c =
    let a = c.args in
    c.cut_of.ensures
    ∙ ap (λ (k : ℤ). cut_of a.width k a.bits a.sides a.own a.kept) (to_z-of_z c.ranges.constant)
    ∙ sym (step_cut a.width a.constant a.bits a.sides a.own a.kept (sym c.cut_together.ensures ∙ c.if-cut_together.false))

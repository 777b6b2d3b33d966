use mathlib.Core.Path.{◌∙◌, sym}
use native.Mathlib.Omega.{arith}
use Rattle.stages.proofs.RuleLaws.{loss_below, loss_none}
use Rattle.bounds_rule.specs.CarriedLaws.{loss_most}
use Rattle.bounds_rule.proofs.loss_of.Goals as goal

pub returns-then-f-full : goal.returns-then-f-full
returns-then-f-full c =
    let a = c.args in
    let e = sym (loss_below a.f a.full c.if-f-full.true) in
    (c.power.ensures ∙ e, omega (arith, e, c.power.ensures, loss_most a.f a.full))

pub returns-else-f-full : goal.returns-else-f-full
returns-else-f-full c = (sym (loss_none c.args.f c.args.full c.if-f-full.false), omega arith)

use mathlib.Core.Path.{◌∙◌, sym}
use native.Mathlib.Omega.{arith}
use Rattle.stages.proofs.ProductLaws.{loss_narrow, loss_wide}
use Rattle.bounds_rule.proofs.product_loss.Goals as goal

pub returns-then-width-full : goal.returns-then-width-full
returns-then-width-full c =
    let a = c.args in
    let e = c.up_div.ensures in
    (e.0 ∙ sym (loss_narrow a.width a.full c.if-width-full.true), e.1)

pub returns-else-width-full : goal.returns-else-width-full
returns-else-width-full c = (sym (loss_wide c.args.width c.args.full c.if-width-full.false), omega arith)

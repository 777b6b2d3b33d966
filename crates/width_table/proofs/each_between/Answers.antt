use Rattle.std.proofs.Common.{rules, tests, ◌∙◌}
use Rattle.std.proofs.lemmas.Iterator.{YieldsList-from_slice}
use Rattle.std.proofs.lemmas.Iterator.Search.{all_from_yields_List}
use Rattle.numbers.specs.Tests.{between}
use Rattle.width_table.specs.FormLaws.{every_all}
use Rattle.width_table.proofs.each_between.Goals as goal

pub returns : goal.returns
returns c =
    let a = c.args in
    all_from_yields_List (between a.least a.most) _ _ c.all.result c.all.ensures.ran (YieldsList-from_slice a.numbers.now cc) (λ x b q k. search (rules, tests)) ∙ every_all (between a.least a.most) a.numbers.now

use Rattle.std.specs.Simd.{first_chunks}
use Rattle.std.specs.List.{list_all}
use Rattle.std.proofs.Common.{rules, tests, ◌∙◌, sym, ap, Bool, ◌&&◌, ◌*◌, ◌/◌, length, drop}
use Rattle.std.proofs.lemmas.Iterator.{YieldsList-from_slice}
use Rattle.std.proofs.lemmas.Iterator.Search.{all_from_yields_List}
use Rattle.numbers.specs.Tests.{between, every, left_false}
use Rattle.width_table.specs.FormLaws.{every_chunks}
use Rattle.width_table.proofs.all_between.Goals as goal

pub returns-then-all : goal.returns-then-all
returns-then-all c =
    let l = c.args.numbers.now in
    let test = between c.args.least c.args.most in
    let fours = all_from_yields_List (every test) _ _ c.all.result c.all.ensures.ran (YieldsList-from_slice c.as_chunks.result.0.now cc) (λ x b q k. search (rules, tests)) in
    c.each_between.ensures
    ∙ ap (every test) c.as_chunks.ensures.back
    ∙ ap (λ (t : Bool). t && every test (drop (length l / 4 * 4) l)) (sym c.if-all.true ∙ fours ∙ ap (list_all (every test)) c.as_chunks.ensures.front)
    ∙ every_chunks test 4 (length l / 4) l

pub returns-else-all : goal.returns-else-all
returns-else-all c =
    let l = c.args.numbers.now in
    let test = between c.args.least c.args.most in
    let fours = all_from_yields_List (every test) _ _ c.all.result c.all.ensures.ran (YieldsList-from_slice c.as_chunks.result.0.now cc) (λ x b q k. search (rules, tests)) in
    c.if-all.false
    ∙ sym (left_false (list_all (every test) (first_chunks 4 (length l / 4) l)) (every test (drop (length l / 4 * 4) l)) (sym (fours ∙ ap (list_all (every test)) c.as_chunks.ensures.front) ∙ c.if-all.false))
    ∙ every_chunks test 4 (length l / 4) l

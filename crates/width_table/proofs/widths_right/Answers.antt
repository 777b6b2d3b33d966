use Rattle.std.proofs.Common.{rules, tests, ◌∙◌, ◌≡◌, sym, length, ◌/◌, ◌%◌, arith}
use Rattle.std.proofs.lemmas.Iterator.{YieldsList-from_slice}
use Rattle.std.proofs.lemmas.Iterator.Search.{all_from_yields_List}
use Rattle.std.proofs.lemmas.Bool.Decides.{nat_tests}
use Rattle.width_table.specs.FormLaws.{pair_width_right, widths_two_by_two, odd_widths}
use Rattle.width_table.proofs.widths_right.Goals as goal

pub returns-then-is_empty : goal.returns-then-is_empty
returns-then-is_empty c =
    let l = c.args.numbers.now in
    let none : length l % 2 ≡ 0 = grind (arith, nat_tests) in
    let e = all_from_yields_List pair_width_right _ _ c.all.result c.all.ensures.ran (YieldsList-from_slice c.as_chunks.result.0.now cc) (λ x b q k. search (rules, tests)) in
    let d = widths_two_by_two (length l / 2) l (omega arith) in
    cc

pub returns-else-is_empty : goal.returns-else-is_empty
returns-else-is_empty c =
    let l = c.args.numbers.now in
    let one : length l % 2 ≡ 1 = grind (arith, nat_tests) in
    c.if-is_empty.false ∙ sym (odd_widths (length l / 2) l (omega arith))

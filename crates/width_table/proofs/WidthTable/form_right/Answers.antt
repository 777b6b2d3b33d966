use Rattle.std.proofs.Common.{refl, ◌∙◌, ◌≡◌, sym, ap, ℕ, ◌-◌, List, eqb, length, take, drop, arith}
use Rattle.width_table.specs.Lists.{node_bytes, FullLists, form_lists}
use Rattle.numbers.specs.Tests.{between, every}
use Rattle.numbers.specs.Lists.{rest_whole}
use Rattle.width_table.specs.FormLists.{form_lists_lem}
use Rattle.width_table.specs.FormLaws.{zeros_test}
use Rattle.width_table.proofs.WidthTable.form_right.Goals as goal

-- the rest of an array, all zeros
rest-zeros : (l : List ℕ) (n m : ℕ) → length l ≡ m → every (eqb 0) (drop n l) ≡ every (between 0 0) (take (m - n) (drop n l))
rest-zeros l n m e = sym (ap (every (between 0 0)) (ap (λ (k : ℕ). take (k - n) (drop n l)) (sym e) ∙ rest_whole n l) ∙ zeros_test (drop n l))

pub returns-then-all_between-3 : goal.returns-then-all_between-3
unfolding form_lists
returns-then-all_between-3 c =
    let t = c.args.self in
    let sized : FullLists t = record { constants = omega arith; nodes = omega arith; products = omega arith } in
    let form = form_lists_lem t sized in
    let nodes = rest-zeros t.nodes (node_bytes t.levels) _ sized.nodes in
    -- the last rule, by the call that decides it
    let unused : c.all_between-then-all_between-3.result ≡ every (eqb 0) (drop c.used_products-used.result t.products) =
    c.all_between-then-all_between-3.ensures ∙ sym (rest-zeros t.products c.used_products-used.result _ refl) in
    grind arith

pub returns-else-all_between-3 : goal.returns-else-all_between-3
unfolding form_lists
returns-else-all_between-3 c =
    let t = c.args.self in
    let sized : FullLists t = record { constants = omega arith; nodes = omega arith; products = omega arith } in
    let form = form_lists_lem t sized in
    let nodes = rest-zeros t.nodes (node_bytes t.levels) _ sized.nodes in
    grind arith

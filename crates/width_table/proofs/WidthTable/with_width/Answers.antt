use Rattle.std.proofs.Common.{ℕ, ◌+◌, ◌≡◌, ◌∙◌, ◌&&◌, sym, ap, List, set, arith, rules}
use Rattle.refusals.specs.Answers.{passed, asks}
use Rattle.refusals.specs.AnswerLaws.{answered_done, answered_refused}
use Rattle.width_table.specs.declared.WidthTable.{WidthTable}
use Rattle.width_table.specs.Table.{form_right}
use Rattle.width_table.specs.Changes.{width_answer, with_width, table_after_width}
use Rattle.width_table.specs.Told.{told_change, table_back}
use Rattle.width_table.specs.FormLaws.{width_place}
use Rattle.width_table.proofs.WidthTable.with_width.Goals as goal

pub returns-in_err-takes-clause-outcome : goal.returns-in_err-takes-clause-outcome
unfolding width_answer
returns-in_err-takes-clause-outcome c =
    let a = c.args in
    -- what decided is the answer
    let answer : told_change c.takes.result ≡ width_answer a.self a.level a.pass a.node a.integer a.fraction =
    c.takes.ensures.outcome ∙ (λ u. asks (form_right a.self && c.has_node.ensures u && c.width_right.ensures u) 4 passed) in
    search rules

pub returns-in_err-takes-clause-table : goal.returns-in_err-takes-clause-table
unfolding width_answer table_after_width
returns-in_err-takes-clause-table c =
    let a = c.args in
    let answer : told_change c.takes.result ≡ width_answer a.self a.level a.pass a.node a.integer a.fraction =
    c.takes.ensures.outcome ∙ (λ u. asks (form_right a.self && c.has_node.ensures u && c.width_right.ensures u) 4 passed) in
    let back : table_back c.from_residual.result ≡ a.self = search rules in
    back ∙ sym (answered_refused (with_width a.self a.level a.pass a.node a.integer a.fraction) a.self (sym answer ∙ ap told_change c.in_err-takes.was))

pub node_place-at-requires : goal.node_place-at-requires
unfolding width_answer
node_place-at-requires c =
    let a = c.args in
    let answer : told_change c.takes.result ≡ width_answer a.self a.level a.pass a.node a.integer a.fraction =
    c.takes.ensures.outcome ∙ (λ u. asks (form_right a.self && c.has_node.ensures u && c.width_right.ensures u) 4 passed) in
    let n = width_place a.self a.level a.pass a.node a.integer a.fraction (sym answer ∙ ap told_change c.in_ok-takes.was) in
    omega arith

pub returns-clause-outcome : goal.returns-clause-outcome
unfolding width_answer
returns-clause-outcome c =
    let a = c.args in
    let answer : told_change c.takes.result ≡ width_answer a.self a.level a.pass a.node a.integer a.fraction =
    c.takes.ensures.outcome ∙ (λ u. asks (form_right a.self && c.has_node.ensures u && c.width_right.ensures u) 4 passed) in
    sym (ap told_change c.in_ok-takes.was) ∙ answer

pub returns-clause-table : goal.returns-clause-table
unfolding width_answer table_after_width
returns-clause-table c =
    let a = c.args in
    let answer : told_change c.takes.result ≡ width_answer a.self a.level a.pass a.node a.integer a.fraction =
    c.takes.ensures.outcome ∙ (λ u. asks (form_right a.self && c.has_node.ensures u && c.width_right.ensures u) 4 passed) in
    ap (λ (n : ℕ). changed a.self (set (set a.self.nodes n a.integer) (n + 1) a.fraction)) c.node_place-at.ensures.0
    ∙ sym (answered_done (with_width a.self a.level a.pass a.node a.integer a.fraction) a.self (sym answer ∙ ap told_change c.in_ok-takes.was))
  where
    changed : WidthTable → List ℕ → WidthTable
    changed t l = record { depth = t.depth; levels = t.levels; constants = t.constants; nodes = l; has_products = t.has_products; products = t.products }

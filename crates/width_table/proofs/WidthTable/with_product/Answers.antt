use Rattle.std.proofs.Common.{ℕ, ◌≡◌, ◌∙◌, sym, ap, Bool, true, false, ◌&&◌, List, refl, set, arith, rules}
use Rattle.std.proofs.lemmas.Grind.{common_steps}
use Rattle.refusals.specs.Answers.{passed, refused, asks}
use Rattle.refusals.specs.AnswerLaws.{answered_done, answered_refused}
use Rattle.refusals.specs.Told.{told_refusal}
use Rattle.width_table.specs.declared.WidthTable.{WidthTable}
use Rattle.width_table.specs.Table.{product_right, form_right}
use Rattle.width_table.specs.Changes.{has_product, product_answer, with_product, table_after_product}
use Rattle.width_table.specs.Told.{table_back}
use Rattle.width_table.specs.FormLaws.{product_place_lem}
use Rattle.width_table.proofs.WidthTable.with_product.Goals.{then-self, else-self}
use Rattle.width_table.proofs.WidthTable.with_product.Goals as goal

-- the table's own rule and the place's are one rule of the change
grouped : (t : WidthTable) (level pass product fp : ℕ) (v : Bool) → v ≡ (t.has_products && has_product t.levels level pass product)
    → asks (form_right t && v && product_right fp) 4 passed ≡ product_answer t level pass product fp
unfolding product_answer
grouped t level pass product fp v e =
    ap (λ (x : Bool). asks (x && product_right fp) 4 passed) (ap (λ (x : Bool). form_right t && x) e ∙ and_groups (form_right t) t.has_products (has_product t.levels level pass product))
  where
    and_groups : (x y z : Bool) → x && (y && z) ≡ x && y && z
    and_groups true y z = refl
    and_groups false y z = refl

pub returns-in_err-takes-clause-outcome : goal.returns-in_err-takes-clause-outcome
returns-in_err-takes-clause-outcome c =
    let a = c.args in
    let place = elim c.if-self.branch as (λ _. c.if-self.takes ≡ (a.self.has_products && has_product a.self.levels a.level a.pass a.product)) [ then-self w ↦ grind arith | else-self w ↦ grind arith ] in
    let e = grouped a.self a.level a.pass a.product a.bits c.if-self.takes place in
    grind (arith, common_steps)

pub returns-in_err-takes-clause-table : goal.returns-in_err-takes-clause-table
unfolding table_after_product
returns-in_err-takes-clause-table c =
    let a = c.args in
    let place = elim c.if-self.branch as (λ _. c.if-self.takes ≡ (a.self.has_products && has_product a.self.levels a.level a.pass a.product)) [ then-self w ↦ grind arith | else-self w ↦ grind arith ] in
    let e = grouped a.self a.level a.pass a.product a.bits c.if-self.takes place in
    let not_taken : product_answer a.self a.level a.pass a.product a.bits ≡ refused (told_refusal c.in_err-takes.field-0.0.why) = grind (arith, common_steps) in
    let back : table_back c.from_residual.result ≡ a.self = search rules in
    back ∙ sym (answered_refused (with_product a.self a.level a.pass a.product a.bits) a.self not_taken)

pub product_place-requires : goal.product_place-requires
product_place-requires c =
    let a = c.args in
    let place = elim c.if-self.branch as (λ _. c.if-self.takes ≡ (a.self.has_products && has_product a.self.levels a.level a.pass a.product)) [ then-self w ↦ grind arith | else-self w ↦ grind arith ] in
    let e = grouped a.self a.level a.pass a.product a.bits c.if-self.takes place in
    let taken : product_answer a.self a.level a.pass a.product a.bits ≡ passed = grind (arith, common_steps) in
    let n = product_place_lem a.self a.level a.pass a.product a.bits taken in
    omega arith

pub returns-clause-outcome : goal.returns-clause-outcome
returns-clause-outcome c =
    let a = c.args in
    let place = elim c.if-self.branch as (λ _. c.if-self.takes ≡ (a.self.has_products && has_product a.self.levels a.level a.pass a.product)) [ then-self w ↦ grind arith | else-self w ↦ grind arith ] in
    let e = grouped a.self a.level a.pass a.product a.bits c.if-self.takes place in
    grind (arith, common_steps)

pub returns-clause-table : goal.returns-clause-table
unfolding table_after_product
returns-clause-table c =
    let a = c.args in
    let place = elim c.if-self.branch as (λ _. c.if-self.takes ≡ (a.self.has_products && has_product a.self.levels a.level a.pass a.product)) [ then-self w ↦ grind arith | else-self w ↦ grind arith ] in
    let e = grouped a.self a.level a.pass a.product a.bits c.if-self.takes place in
    let taken : product_answer a.self a.level a.pass a.product a.bits ≡ passed = grind (arith, common_steps) in
    ap (λ (n : ℕ). changed a.self (set a.self.products n a.bits)) c.product_place.ensures.0
    ∙ sym (answered_done (with_product a.self a.level a.pass a.product a.bits) a.self taken)
  where
    changed : WidthTable → List ℕ → WidthTable
    changed t l = record { depth = t.depth; levels = t.levels; constants = t.constants; nodes = t.nodes; has_products = t.has_products; products = l }

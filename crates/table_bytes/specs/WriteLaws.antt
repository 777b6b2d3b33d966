-- Writing a table, rule by rule and field by field.
use Rattle.std.specs.Prelude.{ℕ, suc, ◌+◌, ◌-◌, ◌/◌, ◌%◌, ◌<◌, ◌≤◌, Bool, true, false, List, [], ◌∷◌, ◌++◌, ◌≡◌, refl, leb, length, take}
use Rattle.std.proofs.Common.{append-nil, append_assoc, ◌∙◌, arith, le-leb, length-append, length-take-le}
use Rattle.std.proofs.Math.Path.{sym, ap, ap₂}
use Rattle.std.proofs.lemmas.Bool.{lt-leb}
use Rattle.std.proofs.Math.Seq.{paste}
use Rattle.numbers.specs.Lists.{over, put_next, put_both}
use Rattle.refusals.specs.Answers.{Answer, done, refused, passed, asks, ◌then◌, answered}
use Rattle.width_table.specs.declared.WidthTable.{WidthTable}
use Rattle.width_table.specs.Table.{max_levels, form_right}
use Rattle.width_table.specs.Lists.{node_bytes, product_bytes, FullLists}
use Rattle.table_bytes.specs.Fields.{depth_tag, levels_tag, constants_tag, nodes_tag, products_tag, IsTag, head_bytes, Field, nodes_field, products_field, fields, field_of, table_size, value_start, value_length, field_bytes, bytes_of}
use Rattle.table_bytes.specs.Bytes.{bytes_of_table, write_answer, writing, bytes_after, placed}
use Rattle.table_bytes.specs.ReadLaws.{tag_is, start_after_lem}

-- ---- the rules

-- what the call gives and leaves
abbrev pub Writes : WidthTable → List ℕ → Answer ℕ → List ℕ → Type 0
Writes t lent answer left = (answer ≡ writing t lent) × (left ≡ bytes_after t lent)

module _ (t : WidthTable) (lent : List ℕ) where
  abbrev size : ℕ
  size = table_size t.has_products t.levels

  decided : (o : Answer Unit) → write_answer t lent ≡ o → Writes t lent (o then done size) (answered o (over (bytes_of_table t) lent) lent)
  unfolding writing bytes_after
  decided o e = (sym (ap (λ (p : Answer Unit). p then done size) e), sym (ap (λ (p : Answer Unit). answered p (over (bytes_of_table t) lent) lent) e))

  rules : (x y : Bool) → form_right t ≡ x → leb size (length lent) ≡ y → write_answer t lent ≡ asks x 4 (asks y 9 passed)
  unfolding write_answer
  rules x y e f = ap₂ (λ (a b : Bool). asks a 4 (asks b 9 passed)) e f

  pub not_formed : form_right t ≡ false → Writes t lent (refused (4, [])) lent
  not_formed e = decided (refused (4, [])) (rules false _ e refl)

  pub too_short : form_right t ≡ true → length lent < size → Writes t lent (refused (9, [])) lent
  too_short e h = decided (refused (9, [])) (rules true false e (lt-leb _ _ h))

  pub table_written_lem : form_right t ≡ true → size ≤ length lent → Writes t lent (done size) (over (bytes_of_table t) lent)
  table_written_lem e h = decided passed (rules true true e (le-leb _ _ h))

-- ---- the fields

-- head and value are put one after the other
pub field_put : (L tag : ℕ) → IsTag tag → (n : ℕ) → n ≡ value_start L tag → (value e a b : List ℕ) → length value ≡ value_length L tag → n ≤ length e
    → a ≡ paste e (n - head_bytes) (tag ∷ length value / 256 ∷ length value % 256 ∷ []) head_bytes
    → b ≡ paste a n value (length value)
    → b ≡ placed L tag value e
field_put L tag h n start value e a b long fits i j =
    let head : List ℕ = tag ∷ length value / 256 ∷ length value % 256 ∷ [] in
    let back : n ≡ n - head_bytes + head_bytes = omega (arith, start, start_after_lem L tag h) in
    let whole : length (head ++ value) ≡ head_bytes + length value = omega arith in
    j
    ∙ (λ u. paste (i u) (back u) value (length value))
    ∙ put_both e head value (n - head_bytes) (omega arith)
    ∙ (λ u. paste e (start u - head_bytes) (sym (tag_is L tag h) u ∷ long u / 256 ∷ long u % 256 ∷ value) (whole u))

module _ (t : WidthTable) (s : FullLists t) where
  abbrev L : ℕ
  L = t.levels

  -- bytes of the first four fields, and of all five
  abbrev four : List ℕ
  four = bytes_of (fields false L) t

  abbrev five_fields : List ℕ
  five_fields = bytes_of (fields true L) t

  abbrev used : List ℕ
  used = take (node_bytes L) t.nodes

  abbrev products : List ℕ
  products = take (product_bytes L) t.products

  three : (v : List ℕ) → head_bytes + length v ≡ suc (suc (suc (length v)))
  three v = omega arith

  -- the four fields one after the other
  pub four_put : (e a b c d : List ℕ)
      → a ≡ placed L depth_tag (t.depth ∷ []) e
      → b ≡ placed L levels_tag (L ∷ []) a
      → c ≡ placed L constants_tag t.constants b
      → d ≡ placed L nodes_tag used c
      → d ≡ over four e
  four_put e a b c d h i j k =
      let f : ℕ → Field = field_of (fields true L) in
      let w1 : List ℕ = field_bytes (f depth_tag) (t.depth ∷ []) in
      let w2 : List ℕ = field_bytes (f levels_tag) (L ∷ []) in
      let w3 : List ℕ = field_bytes (f constants_tag) t.constants in
      let w4 : List ℕ = field_bytes (f nodes_tag) used in
      let at : ℕ → ℕ = λ tag. value_start L tag - head_bytes in
      let a' : a ≡ over w1 e = h ∙ put_next [] w1 e e (at depth_tag) refl refl in
      let b' : b ≡ over (w1 ++ w2) e = i ∙ put_next w1 w2 e a (at levels_tag) a' refl in
      let c' : c ≡ over (w1 ++ w2 ++ w3) e = j ∙ ap (paste b (at constants_tag) w3) (three t.constants) ∙ put_next (w1 ++ w2) w3 e b (at constants_tag) b' refl in
      let d' : d ≡ over (w1 ++ w2 ++ w3 ++ w4) e = k ∙ ap (paste c (at nodes_tag) w4) (three used) ∙ put_next (w1 ++ w2 ++ w3) w4 e c (at nodes_tag) c' (omega (arith, s.constants)) in
      d' ∙ ap (λ (l : List ℕ). over (w1 ++ w2 ++ field_bytes (f constants_tag) (t.constants ++ field_bytes (f nodes_tag) l)) e) (sym (append-nil used))

  -- and the fifth after them
  pub five_put : L ≤ max_levels → (e a b : List ℕ) → a ≡ over four e → b ≡ placed L products_tag products a → b ≡ over five_fields e
  five_put few e a b h i =
      let w4 : List ℕ = field_bytes (nodes_field L) (used ++ []) in
      let w5 : List ℕ = field_bytes (products_field L) products in
      let n = value_start L products_tag - head_bytes in
      let long : length four ≡ n = omega (arith, length-append t.constants w4, length-append used [], s.constants, length-take-le (node_bytes L) t.nodes (omega (arith, s.nodes))) in
      i
      ∙ ap (paste a n w5) (three products)
      ∙ put_next four w5 e a n h long
      ∙ ap (λ (l : List ℕ). over (take (value_start L constants_tag) four ++ l) e) (append_assoc t.constants w4 w5)
      ∙ (λ u. over (take (value_start L constants_tag) four ++ (t.constants ++ field_bytes (nodes_field L) (append-nil used u ++ field_bytes (products_field L) (sym (append-nil products) u)))) e)

  -- the whole table, with tag 5 and without it
  pub all_put : (x : Bool) → t.has_products ≡ x → (e l : List ℕ) → l ≡ over (bytes_of (fields x L) t) e → l ≡ over (bytes_of_table t) e
  unfolding bytes_of_table
  all_put x h e l i = i ∙ ap (λ (y : Bool). over (bytes_of (fields y L) t) e) (sym h)

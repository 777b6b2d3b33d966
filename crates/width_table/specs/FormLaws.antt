-- The form of a table in memory, rule by rule.
use Rattle.std.specs.Prelude.{ℕ, zero, suc, ◌+◌, ◌*◌, ◌≤◌, Bool, true, false, ◌&&◌, List, [], ◌∷◌, ◌≡◌, refl, T, eqb, length, get_or, ◌-◌, ◌<◌, take, drop, ◌++◌}
use Rattle.std.specs.List.{list_all}
use Rattle.std.specs.Simd.{first_chunks}
use Rattle.std.proofs.Common.{sym, ◌∙◌, ap₂, subst, arith, drop_of_length-le, drop-cons}
use Rattle.std.proofs.Math.Path.{ap}
use Rattle.std.proofs.Math.Bool.{and_assoc}
use Rattle.std.proofs.Math.Nat.{zero-mul, suc-mul, add_comm}
use Rattle.std.proofs.lemmas.List.{drop-drop, take-append-drop}
use Rattle.std.proofs.lemmas.List.Folds.{list_all-append}
use Rattle.std.proofs.Math.Dec.{leb-zero, leb-suc-zero, eqb-zero-suc}
use Rattle.width_table.specs.declared.WidthTable.{WidthTable}
use Rattle.refusals.specs.Answers.{refused, passed, asks, Answer, answered}
use Rattle.refusals.specs.AnswerLaws.{asks_done}
use Rattle.numbers.specs.Tests.{both, three, four, is_true, left_false, right_false, between_≤, between, every}
use Rattle.width_table.specs.Nodes.{nodes_per_pass, passes_per_level, products_per_pass}
use Rattle.width_table.specs.Numbered.{IsNode, IsPass, IsProduct}
use Rattle.width_table.specs.Table.{max_levels, width_bytes, width_right, product_right, form_right, depth_right, levels_right, constant_right}
use Rattle.width_table.specs.Lists.{widths_right, product_bytes, used_products, node_bytes, form_lists}
use Rattle.width_table.specs.Changes.{has_node, width_answer, has_product, product_answer, with_product, table_after_product, with_width, table_after_width, constant_answer, with_constant, table_after_constant}
use Rattle.width_table.specs.Limits.{form_levels}
use Rattle.numbers.specs.Lists.{next_two}

zero_test : (n : ℕ) → between 0 0 n ≡ eqb 0 n
zero_test zero = refl
zero_test (suc n) = ap₂ ◌&&◌ (leb-zero (suc n)) (leb-suc-zero n) ∙ sym (eqb-zero-suc n)

pub zeros_test : (l : List ℕ) → every (between 0 0) l ≡ every (eqb 0) l
unfolding every
zeros_test [] = refl
zeros_test (a ∷ l) = ap₂ ◌&&◌ (zero_test a) (zeros_test l)

-- ---- tests by the library's words

pub every_all : {A : Type 0} (test : A → Bool) (l : List A) → list_all test l ≡ every test l
unfolding every
every_all test [] = refl
every_all test (a ∷ l) = ap (λ (t : Bool). test a && t) (every_all test l)

-- the chunks of n elements, and the rest
pub every_chunks : {A : Type 0} (test : A → Bool) (n k : ℕ) (l : List A) → list_all (every test) (first_chunks n k l) && every test (drop (k * n) l) ≡ every test l
every_chunks test n zero l = ap (λ (m : ℕ). every test (drop m l)) (zero-mul n)
every_chunks {A = A} test n (suc k) l =
    ap (λ (m : List A). every test (take n l) && list_all (every test) (first_chunks n k (drop n l)) && every test m) (ap (λ (m : ℕ). drop m l) (suc-mul k n ∙ add_comm (k * n) n) ∙ sym (drop-drop (k * n) n l))
    ∙ and_assoc (every test (take n l)) _ _
    ∙ ap (λ (t : Bool). every test (take n l) && t) (every_chunks test n k (drop n l))
    ∙ joined (take n l) (drop n l)
    ∙ ap (every test) (take-append-drop n l)
  where
    joined : (l m : List A) → every test l && every test m ≡ every test (l ++ m)
    joined l m = ap₂ ◌&&◌ (sym (every_all test l)) (sym (every_all test m)) ∙ sym (list_all-append test l m) ∙ every_all test (l ++ m)

-- the width that two numbers are
abbrev pub pair_width_right : List ℕ → Bool
pair_width_right w = width_right (get_or w 0 0) (get_or w 1 0)

pub widths_two_by_two : (k : ℕ) (l : List ℕ) → length l ≡ width_bytes * k → list_all pair_width_right (first_chunks width_bytes k l) ≡ widths_right l
unfolding widths_right
widths_two_by_two zero [] h = refl
widths_two_by_two zero (IB ∷ l) h = absurd (omega arith)
widths_two_by_two (suc k) [] h = absurd (omega arith)
widths_two_by_two (suc k) (IB ∷ []) h = absurd (omega arith)
widths_two_by_two (suc k) (IB ∷ f ∷ l) h = ap (λ (t : Bool). width_right IB f && t) (widths_two_by_two k l (omega arith))

pub odd_widths : (k : ℕ) (l : List ℕ) → length l ≡ width_bytes * k + 1 → widths_right l ≡ false
unfolding widths_right
odd_widths k [] h = absurd (omega arith)
odd_widths k (IB ∷ []) h = refl
odd_widths zero (IB ∷ f ∷ l) h = absurd (omega arith)
odd_widths (suc k) (IB ∷ f ∷ l) h = right_false (width_right IB f) (widths_right l) (odd_widths k l (omega arith))

-- ---- widths, two by two

module _ (l : List ℕ) (i : ℕ) (h : i + 1 < length l) where
  pub widths_next : width_right (get_or l i 0) (get_or l (i + 1) 0) ≡ true → widths_right (drop i l) ≡ widths_right (drop (i + width_bytes) l)
  unfolding widths_right
  widths_next e = ap widths_right (next_two l 0 i h) ∙ ap (λ (t : Bool). t && widths_right (drop (i + width_bytes) l)) e

  pub widths_stop : width_right (get_or l i 0) (get_or l (i + 1) 0) ≡ false → widths_right (drop i l) ≡ false
  unfolding widths_right
  widths_stop e = ap widths_right (next_two l 0 i h) ∙ ap (λ (t : Bool). t && widths_right (drop (i + width_bytes) l)) e

pub widths_odd : (l : List ℕ) (i : ℕ) → i < length l → length l - i < width_bytes → widths_right (drop i l) ≡ false
unfolding widths_right
widths_odd l i h k = ap widths_right (drop-cons l i 0 h ∙ ap (λ (r : List ℕ). get_or l i 0 ∷ r) (drop_of_length-le l {i = suc i} (omega arith)))

pub widths_end : (l : List ℕ) (i : ℕ) → length l ≤ i → widths_right (drop i l) ≡ true
unfolding widths_right
widths_end l i h = ap widths_right (drop_of_length-le l h)

-- ---- the form

-- no more products are used than there are
pub used_few : (t : WidthTable) → t.levels ≤ max_levels → used_products t ≤ product_bytes max_levels
used_few t h = go t.has_products
  where
    go : (has_products : Bool) → elim has_products [ true ↦ product_bytes t.levels | false ↦ 0 ] ≤ product_bytes max_levels
    go true = omega arith
    go false = omega arith

-- any rule of the form by lists that fails decides it, and the last one where the others hold
module _ (t : WidthTable) where
  abbrev B : Bool
  B = depth_right t.depth

  abbrev L : Bool
  L = levels_right t.levels

  abbrev C : Bool
  C = every constant_right t.constants

  abbrev W : Bool
  W = widths_right (take (node_bytes t.levels) t.nodes)

  abbrev Z : Bool
  Z = every (eqb 0) (drop (node_bytes t.levels) t.nodes)

  abbrev P : Bool
  P = every product_right (take (used_products t) t.products)

  abbrev U : Bool
  U = every (eqb 0) (drop (used_products t) t.products)

  before_products : B && L && C && W && Z ≡ false → form_lists t ≡ false
  unfolding form_lists
  before_products e = left_false (B && L && C && W && Z && P) U (left_false (B && L && C && W && Z) P e)

  pub limits_wrong : B && L ≡ false → form_lists t ≡ false
  limits_wrong e = before_products (left_false (B && L && C && W) Z (left_false (B && L && C) W (left_false (B && L) C e)))

  -- within its limits
  pub levels_few : B && L ≡ true → t.levels ≤ max_levels
  levels_few e = (between_≤ 1 max_levels t.levels (both B L (subst T (sym e) tt)).1).1

  pub constants_wrong : C ≡ false → form_lists t ≡ false
  constants_wrong e = before_products (left_false (B && L && C && W) Z (left_false (B && L && C) W (right_false (B && L) C e)))

  pub widths_wrong : W ≡ false → form_lists t ≡ false
  widths_wrong e = before_products (left_false (B && L && C && W) Z (right_false (B && L && C) W e))

  pub unused_wrong : Z ≡ false → form_lists t ≡ false
  unused_wrong e = before_products (right_false (B && L && C && W) Z e)

  pub products_wrong : P ≡ false → form_lists t ≡ false
  unfolding form_lists
  products_wrong e = left_false (B && L && C && W && Z && P) U (right_false (B && L && C && W && Z) P e)

  pub unused_products_decide : B && L ≡ true → C ≡ true → W ≡ true → Z ≡ true → P ≡ true → form_lists t ≡ U
  unfolding form_lists
  unused_products_decide e f g h i =
      ap (λ (x : Bool). x && C && W && Z && P && U) e
      ∙ ap (λ (x : Bool). x && W && Z && P && U) f
      ∙ ap (λ (x : Bool). x && Z && P && U) g
      ∙ ap (λ (x : Bool). x && P && U) h
      ∙ ap (λ (x : Bool). x && U) i

-- ---- a change

-- what a table of L levels has
module _ (L level pass : ℕ) where
  pub pass_in : between 1 L level && between 1 passes_per_level pass ≡ true → ((1 ≤ level) × (level ≤ L)) × IsPass pass
  pass_in e =
      let (l, p) = both (between 1 L level) (between 1 passes_per_level pass) (subst T (sym e) tt) in
      (between_≤ 1 L level l, between_≤ 1 passes_per_level pass p)

  part_in : (most part : ℕ) → between 1 L level && between 1 passes_per_level pass && between 1 most part ≡ true → ((1 ≤ level) × (level ≤ L)) × IsPass pass × ((1 ≤ part) × (part ≤ most))
  part_in most part e =
      let (l, p, n) = three (between 1 L level) (between 1 passes_per_level pass) (between 1 most part) (subst T (sym e) tt) in
      (between_≤ 1 L level l, between_≤ 1 passes_per_level pass p, between_≤ 1 most part n)

  pub node_in : (node : ℕ) → has_node L level pass node ≡ true → ((1 ≤ level) × (level ≤ L)) × IsPass pass × IsNode node
  node_in = part_in nodes_per_pass

  pub product_in : (product : ℕ) → has_product L level pass product ≡ true → ((1 ≤ level) × (level ≤ L)) × IsPass pass × IsProduct product
  product_in = part_in products_per_pass

-- three rules
first_fails : (a b c : Bool) → a ≡ false → a && b && c ≡ false
first_fails a b c e = left_false (a && b) c (left_false a b e)

second_fails : (a b c : Bool) → b ≡ false → a && b && c ≡ false
second_fails a b c e = left_false (a && b) c (right_false a b e)

third_fails : (a b c : Bool) → c ≡ false → a && b && c ≡ false
third_fails a b c e = right_false (a && b) c e

all_hold : (a b c : Bool) → a ≡ true → b ≡ true → c ≡ true → a && b && c ≡ true
all_hold a b c e f g = ap (λ (x : Bool). x && b && c) e ∙ ap (λ (x : Bool). x && c) f ∙ g

-- a refused change answers and gives the same as what refuses it
pub gives_back : {o p q : Answer Unit} {t u v : WidthTable} → (o ≡ p) × (u ≡ t) → (p ≡ q) × (t ≡ v) → (o ≡ q) × (u ≡ v)
gives_back h k = (h.0 ∙ k.0, h.1 ∙ k.1)

-- what a change answers and gives, by its rules
module _ (t : WidthTable) (level pass node IB f : ℕ) where
  abbrev has_it : Bool
  has_it = has_node t.levels level pass node

  abbrev new : WidthTable
  new = with_width t level pass node IB f

  abbrev pub WidthChange : Answer Unit → WidthTable → Type 0
  WidthChange answer gives = (answer ≡ width_answer t level pass node IB f) × (gives ≡ table_after_width t level pass node IB f)

  decided : (x : Bool) → form_right t && has_it && width_right IB f ≡ x → WidthChange (asks x 4 passed) (answered (asks x 4 passed) new t)
  unfolding table_after_width width_answer
  decided x e = (ap (λ (y : Bool). asks y 4 passed) (sym e), ap (λ (y : Bool). answered (asks y 4 passed) new t) (sym e))

  pub not_formed : form_right t ≡ false → WidthChange (refused (4, [])) t
  not_formed e = decided false (first_fails (form_right t) has_it (width_right IB f) e)

  pub no_node : has_it ≡ false → WidthChange (refused (4, [])) t
  no_node e = decided false (second_fails (form_right t) has_it (width_right IB f) e)

  pub no_width : width_right IB f ≡ false → WidthChange (refused (4, [])) t
  no_width e = decided false (third_fails (form_right t) has_it (width_right IB f) e)

  pub width_changes : form_right t ≡ true → has_it ≡ true → width_right IB f ≡ true → WidthChange passed new
  width_changes a b e = decided true (all_hold (form_right t) has_it (width_right IB f) a b e)

module _ (t : WidthTable) (node F : ℕ) where
  abbrev with : WidthTable
  with = with_constant t node F

  abbrev pub ConstantChange : Answer Unit → WidthTable → Type 0
  ConstantChange answer gives = (answer ≡ constant_answer t node F) × (gives ≡ table_after_constant t node F)

  constant_decided : (x : Bool) → form_right t && between 1 nodes_per_pass node && constant_right F ≡ x → ConstantChange (asks x 4 passed) (answered (asks x 4 passed) with t)
  unfolding table_after_constant constant_answer
  constant_decided x e = (ap (λ (y : Bool). asks y 4 passed) (sym e), ap (λ (y : Bool). answered (asks y 4 passed) with t) (sym e))

  pub table_not_formed : form_right t ≡ false → ConstantChange (refused (4, [])) t
  table_not_formed e = constant_decided false (first_fails (form_right t) (between 1 nodes_per_pass node) (constant_right F) e)

  pub no_stage : between 1 nodes_per_pass node ≡ false → ConstantChange (refused (4, [])) t
  no_stage e = constant_decided false (second_fails (form_right t) (between 1 nodes_per_pass node) (constant_right F) e)

  pub no_bits : constant_right F ≡ false → ConstantChange (refused (4, [])) t
  no_bits e = constant_decided false (third_fails (form_right t) (between 1 nodes_per_pass node) (constant_right F) e)

  pub constant_changes : form_right t ≡ true → between 1 nodes_per_pass node ≡ true → constant_right F ≡ true → ConstantChange passed with
  constant_changes a b e = constant_decided true (all_hold (form_right t) (between 1 nodes_per_pass node) (constant_right F) a b e)

-- a product's width (document 02, job 7): without tag 5 the change is refused too
module _ (t : WidthTable) (level pass product fp : ℕ) where
  abbrev has : Bool
  has = has_product t.levels level pass product

  abbrev with_it : WidthTable
  with_it = with_product t level pass product fp

  abbrev pub ProductChange : Answer Unit → WidthTable → Type 0
  ProductChange answer gives = (answer ≡ product_answer t level pass product fp) × (gives ≡ table_after_product t level pass product fp)

  product_decided : (x : Bool) → form_right t && t.has_products && has && product_right fp ≡ x → ProductChange (asks x 4 passed) (answered (asks x 4 passed) with_it t)
  unfolding table_after_product product_answer
  product_decided x e = (ap (λ (y : Bool). asks y 4 passed) (sym e), ap (λ (y : Bool). answered (asks y 4 passed) with_it t) (sym e))

  pub product_not_formed : form_right t ≡ false → ProductChange (refused (4, [])) t
  product_not_formed e = product_decided false (first_fails (form_right t && t.has_products) has (product_right fp) (left_false (form_right t) t.has_products e))

  pub no_products_lem : t.has_products ≡ false → ProductChange (refused (4, [])) t
  no_products_lem e = product_decided false (first_fails (form_right t && t.has_products) has (product_right fp) (right_false (form_right t) t.has_products e))

  pub no_product : has ≡ false → ProductChange (refused (4, [])) t
  no_product e = product_decided false (second_fails (form_right t && t.has_products) has (product_right fp) e)

  pub no_product_width : product_right fp ≡ false → ProductChange (refused (4, [])) t
  no_product_width e = product_decided false (third_fails (form_right t && t.has_products) has (product_right fp) e)

  pub product_changes : form_right t ≡ true → t.has_products ≡ true → has ≡ true → product_right fp ≡ true → ProductChange passed with_it
  product_changes a b e f = product_decided true (all_hold (form_right t && t.has_products) has (product_right fp) (ap (λ (x : Bool). x && t.has_products) a ∙ b) e f)

-- a right form has no more levels than a table may have
pub few_levels : (t : WidthTable) → form_right t ≡ true → t.levels ≤ max_levels
few_levels t e = (form_levels t (subst T (sym e) tt)).1

-- the place of a change that is made
pub width_place : (t : WidthTable) (level pass node IB f : ℕ) → width_answer t level pass node IB f ≡ passed → ((1 ≤ level) × (level ≤ max_levels)) × IsPass pass × IsNode node
unfolding width_answer
width_place t level pass node IB f e =
    let h = three (form_right t) (has_node t.levels level pass node) (width_right IB f) (asks_done (form_right t && has_node t.levels level pass node && width_right IB f) _ _ e).0 in
    let few = few_levels t (is_true (form_right t) h.0) in
    let (l, p, n) = node_in t.levels level pass node (is_true (has_node t.levels level pass node) h.1) in
    ((l.0, omega arith), p, n)

pub product_place_lem : (t : WidthTable) (level pass product fp : ℕ) → product_answer t level pass product fp ≡ passed → ((1 ≤ level) × (level ≤ max_levels)) × IsPass pass × IsProduct product
unfolding product_answer
product_place_lem t level pass product fp e =
    let h = four (form_right t) t.has_products (has_product t.levels level pass product) (product_right fp) (asks_done (form_right t && t.has_products && has_product t.levels level pass product && product_right fp) _ _ e).0 in
    let few = few_levels t (is_true (form_right t) h.0) in
    let (l, p, n) = product_in t.levels level pass product (is_true (has_product t.levels level pass product) h.2) in
    ((l.0, omega arith), p, n)

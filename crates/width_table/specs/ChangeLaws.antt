-- Changes that are accepted: the new number is there, every other number is as it was, the form stays right, and the same change twice is once.
use Rattle.std.specs.Prelude.{ℕ, ◌+◌, ◌*◌, ◌-◌, ◌/◌, ◌<◌, ◌≤◌, Bool, true, false, ◌&&◌, List, ◌≡◌, refl, eqb, get_or, set}
use Rattle.std.proofs.Common.{sym, ◌∙◌, ap₂, arith, le-leb, length-set, set-set}
use Rattle.std.proofs.Math.Path.{ap, subst}
use Rattle.std.proofs.Math.Dec.{T}
use Rattle.std.proofs.Math.Seq.{get_or-set_same, get_or-set_other}
use Rattle.std.proofs.lemmas.List.{set_comm}
use Rattle.numbers.specs.Tests.{between, every, both, three, four, and_intro, is_true, by_leb, between_≤, to_between}
use Rattle.numbers.specs.Lists.{every_set}
use Rattle.refusals.specs.Answers.{passed}
use Rattle.refusals.specs.AnswerLaws.{asks_done}
use Rattle.width_table.specs.declared.WidthTable.{WidthTable}
use Rattle.width_table.specs.Numbered.{IsNode, IsPass, IsProduct}
use Rattle.width_table.specs.Nodes.{nodes_per_pass, passes_per_level, nodes_per_level, products_per_pass, products_per_level, every_node, table_order, product_order}
use Rattle.width_table.specs.Table.{max_levels, width_bytes, pass_bytes, depth_right, levels_right, constant_right, width_right, product_right, constant_bits, node_place, product_place, node_right, product_held, form_right}
use Rattle.width_table.specs.Changes.{has_node, width_answer, with_width, constant_answer, with_constant, has_product, product_answer, with_product}
use Rattle.width_table.specs.Readers.{or_zero, constant_bits_at, integer_bits_at, fraction_bits_at, product_width_at}
use Rattle.width_table.specs.Lists.{FullLists}
use Rattle.width_table.specs.FormLists.{all_nodes, all_products, every_from, holds_at, holds_all, pair_right, place_right, number_right, number_at, book_places, product_places, constants_list}
use Rattle.width_table.specs.FormLaws.{node_in, product_in, few_levels}

-- ---- parts

all_true : (a b c : Bool) → T (a && b && c) → (a ≡ true) × (b ≡ true) × (c ≡ true)
all_true a b c h =
    let (x, y, z) = three a b c h in
    (is_true a x, is_true b y, is_true c z)

holding : {x : Bool} → x ≡ true → T x
holding e = subst T (sym e) tt

same_or : (P : Type 0) (a b : ℕ) → (a ≡ b → P) → ((a ≡ b → ⊥) → P) → P
same_or P a b is not = by_leb (λ (x : Bool). P) a b (λ h. by_leb (λ (x : Bool). P) b a (λ k. is (omega arith)) (λ k. not (λ e. omega arith))) (λ h. not (λ e. omega arith))

or_zero_lem : (b : Bool) (x y : ℕ) → (T b → x ≡ y) → or_zero b x ≡ or_zero b y
or_zero_lem true x y h = h tt
or_zero_lem false x y h = refl

-- the numbers of a node stand at no other node's places
one_node : (a b c x y z k : ℕ) → b < passes_per_level → c < nodes_per_pass → y < passes_per_level → z < nodes_per_pass
    → (a * passes_per_level + b) * pass_bytes + c * width_bytes ≤ k → k ≤ (a * passes_per_level + b) * pass_bytes + c * width_bytes + 1 → (x * passes_per_level + y) * pass_bytes + z * width_bytes ≤ k → k ≤ (x * passes_per_level + y) * pass_bytes + z * width_bytes + 1
    → (a ≡ x) × (b ≡ y) × (c ≡ z)
one_node a b c x y z k h i j m o p q r =
    let d : a ≡ x = omega arith in
    let e : b ≡ y = omega arith in
    (d, e, omega arith)

less_one : (a b : ℕ) → (1 ≤ a) × (a ≤ b) → a - 1 < b
less_one a b h = omega arith

more_one : (a b : ℕ) → 1 ≤ a → 1 ≤ b → a - 1 ≡ b - 1 → a ≡ b
more_one a b h k e = omega arith

at_first : (k m : ℕ) → k ≡ m → (m ≤ k) × (k ≤ m + 1)
at_first k m e = (omega arith, omega arith)

at_second : (k m : ℕ) → k ≡ m + 1 → (m ≤ k) × (k ≤ m + 1)
at_second k m e = (omega arith, omega arith)

abbrev Limits : ℕ → ℕ → ℕ → ℕ → Type 0
Limits L l p n = ((1 ≤ l) × (l ≤ L)) × IsPass p × IsNode n

nodes_apart : (L M l p n l' p' n' k : ℕ) → Limits L l p n → Limits M l' p' n' → (l ≡ l' → p ≡ p' → n ≡ n' → ⊥)
    → node_place l p n ≤ k → k ≤ node_place l p n + 1 → node_place l' p' n' ≤ k → k ≤ node_place l' p' n' + 1 → ⊥
nodes_apart L M l p n l' p' n' k h i differs a b c d =
    let w = one_node (l - 1) (p - 1) (n - 1) (l' - 1) (p' - 1) (n' - 1) k (less_one p passes_per_level h.1) (less_one n nodes_per_pass h.2) (less_one p' passes_per_level i.1) (less_one n' nodes_per_pass i.2) a b c d in
    differs (more_one l l' h.0.0 i.0.0 w.0) (more_one p p' h.1.0 i.1.0 w.1) (more_one n n' h.2.0 i.2.0 w.2)

-- at a used level a right width is right
used_right : (L k IB f : ℕ) → k / nodes_per_level + 1 ≤ L → width_right IB f ≡ true → pair_right L k IB f ≡ true
used_right L k IB f h e = ap (λ (x : Bool). elim x [ true ↦ width_right IB f | false ↦ eqb IB 0 && eqb f 0 ]) (le-leb (k / nodes_per_level + 1) L h) ∙ e

-- and so is a right width of a product, with tag 5
product_right_lem : (has_products : Bool) (L k fp : ℕ) → has_products ≡ true → k / products_per_level + 1 ≤ L → product_right fp ≡ true → number_right has_products L k fp ≡ true
product_right_lem has_products L k fp b h e = ap₂ (λ (x y : Bool). elim (x && y) [ true ↦ product_right fp | false ↦ eqb fp 0 ]) b (le-leb (k / products_per_level + 1) L h) ∙ e

-- the form by its five rules
record Rules (t : WidthTable) : Type 0 where
  depth : T (depth_right t.depth)
  levels : T (levels_right t.levels)
  constants : T (every (λ n. constant_right (constant_bits t n)) every_node)
  nodes : T (every_from (place_right t.levels t.nodes) 0 all_nodes)
  products : T (every_from (number_at t.has_products t.levels t.products) 0 all_products)

module _ (t : WidthTable) where
  abbrev D : Bool
  D = depth_right t.depth

  abbrev L : Bool
  L = levels_right t.levels

  abbrev C : Bool
  C = every (λ n. constant_right (constant_bits t n)) every_node

  abbrev N : Bool
  N = every (node_right t) (table_order max_levels)

  abbrev P : Bool
  P = every (product_held t) (product_order max_levels)

  rules : form_right t ≡ true → Rules t
  unfolding form_right
  rules e =
      let (x, p) = both (D && L && C && N) P (holding e) in
      let (a, b, c, d) = four D L C N x in
      record { depth = a; levels = b; constants = c; nodes = subst T (book_places t) d; products = subst T (product_places t) p }

  formed : Rules t → form_right t ≡ true
  unfolding form_right
  formed r =
      is_true (form_right t)
      (and_intro (D && L && C && N) P
      (and_intro (D && L && C) N (and_intro (D && L) C (and_intro D L r.depth r.levels) r.constants) (subst T (sym (book_places t)) r.nodes))
      (subst T (sym (product_places t)) r.products))

-- ---- a node's width

-- u is t but for the width of one node
pub record WidthIs (t u : WidthTable) (level pass node IB f : ℕ) : Type 0 where
  pub depth : u.depth ≡ t.depth
  pub levels : u.levels ≡ t.levels
  pub constants : u.constants ≡ t.constants
  pub has_products : u.has_products ≡ t.has_products
  pub products : u.products ≡ t.products
  pub integer : integer_bits_at u level pass node ≡ IB
  pub fraction : fraction_bits_at u level pass node ≡ f
  pub other_integer : (l p n : ℕ) → (l ≡ level → p ≡ pass → n ≡ node → ⊥) → integer_bits_at u l p n ≡ integer_bits_at t l p n
  pub other_fraction : (l p n : ℕ) → (l ≡ level → p ≡ pass → n ≡ node → ⊥) → fraction_bits_at u l p n ≡ fraction_bits_at t l p n

module _ (t : WidthTable) (s : FullLists t) (level pass node IB f : ℕ) (ok : width_answer t level pass node IB f ≡ passed) where
  abbrev changed : WidthTable
  changed = with_width t level pass node IB f

  abbrev place : ℕ
  place = node_place level pass node

  accepted : (form_right t ≡ true) × (has_node t.levels level pass node ≡ true) × (width_right IB f ≡ true)
  unfolding width_answer
  accepted = all_true (form_right t) (has_node t.levels level pass node) (width_right IB f) (asks_done (form_right t && has_node t.levels level pass node && width_right IB f) _ _ ok).0

  few : t.levels ≤ max_levels
  few = few_levels t accepted.0

  limits : Limits t.levels level pass node
  limits = node_in t.levels level pass node accepted.1

  -- a node of its levels is one of all levels
  has_it_lem : has_node max_levels level pass node ≡ true
  has_it_lem =
      is_true (has_node max_levels level pass node)
      (and_intro (between 1 max_levels level && between 1 passes_per_level pass) (between 1 nodes_per_pass node)
      (and_intro (between 1 max_levels level) (between 1 passes_per_level pass) (to_between 1 max_levels level limits.0.0 (omega (arith, few, limits.0.1))) (to_between 1 passes_per_level pass limits.1.0 limits.1.1))
      (to_between 1 nodes_per_pass node limits.2.0 limits.2.1))

  -- what stands at a place: the new width, and every other number as it was
  new_integer : get_or changed.nodes place 0 ≡ IB
  new_integer =
      get_or-set_other (set t.nodes place IB) (place + 1) place f 0 (λ e. omega arith)
      ∙ get_or-set_same t.nodes place IB 0 (omega (arith, s.nodes, few, limits.0.0, limits.0.1, limits.1.0, limits.1.1, limits.2.0, limits.2.1))

  new_fraction : get_or changed.nodes (place + 1) 0 ≡ f
  new_fraction = get_or-set_same (set t.nodes place IB) (place + 1) f 0 (omega (arith, length-set t.nodes place IB, s.nodes, few, limits.0.0, limits.0.1, limits.1.0, limits.1.1, limits.2.0, limits.2.1))

  pub other : (k : ℕ) → (k ≡ place → ⊥) → (k ≡ place + 1 → ⊥) → get_or changed.nodes k 0 ≡ get_or t.nodes k 0
  other k a b = get_or-set_other (set t.nodes place IB) (place + 1) k f 0 b ∙ get_or-set_other t.nodes place k IB 0 a

  -- the two numbers of another node are as they were
  apart : (l p n : ℕ) → T (has_node max_levels l p n) → (l ≡ level → p ≡ pass → n ≡ node → ⊥) → (k : ℕ) → node_place l p n ≤ k → k ≤ node_place l p n + 1 → get_or changed.nodes k 0 ≡ get_or t.nodes k 0
  apart l p n h differs k a b =
      let no_place = nodes_apart max_levels t.levels l p n level pass node k (node_in max_levels l p n (is_true (has_node max_levels l p n) h)) limits differs a b in
      other k (λ e. let (x, y) = at_first k place e in no_place x y) (λ e. let (x, y) = at_second k place e in no_place x y)

  pub width_is : WidthIs t changed level pass node IB f
  unfolding integer_bits_at fraction_bits_at
  width_is = record {
    depth = refl;
    levels = refl;
    constants = refl;
    has_products = refl;
    products = refl;
    integer = ap (λ (x : Bool). or_zero x (get_or changed.nodes place 0)) has_it_lem ∙ new_integer;
    fraction = ap (λ (x : Bool). or_zero x (get_or changed.nodes (place + 1) 0)) has_it_lem ∙ new_fraction;
    other_integer = λ l p n differs. or_zero_lem (has_node max_levels l p n) _ _ (λ h. apart l p n h differs (node_place l p n) (omega arith) (omega arith));
    other_fraction = λ l p n differs. or_zero_lem (has_node max_levels l p n) _ _ (λ h. apart l p n h differs (node_place l p n + 1) (omega arith) (omega arith));
  }

  pub width_form : form_right changed ≡ true
  width_form =
      let r = rules t accepted.0 in
      let q = ((level - 1) * passes_per_level + (pass - 1)) * nodes_per_pass + (node - 1) in
      let L = t.levels in
      let e : width_bytes * q ≡ place = omega arith in
      let up : q / nodes_per_level + 1 ≤ L = omega (arith, limits.0.0, limits.0.1, limits.1.0, limits.1.1, limits.2.0, limits.2.1) in
      let here : place_right L changed.nodes q ≡ true =
      ap₂ (pair_right L q) (ap (λ (k : ℕ). get_or changed.nodes k 0) e ∙ new_integer) (ap (λ (k : ℕ). get_or changed.nodes (k + 1) 0) e ∙ new_fraction) ∙ used_right L q IB f up accepted.2
      in
      formed changed (record {
        depth = r.depth;
        levels = r.levels;
        constants = r.constants;
        products = r.products;
        nodes = holds_all (place_right L changed.nodes) 0 all_nodes (λ k a b.
            same_or (T (place_right L changed.nodes k)) k q
            (λ h. subst (λ (x : ℕ). T (place_right L changed.nodes x)) (sym h) (holding here))
            (λ h. subst T (sym (ap₂ (pair_right L k) (other (width_bytes * k) (λ x. h (omega arith)) (λ x. omega arith)) (other (width_bytes * k + 1) (λ x. omega arith) (λ x. h (omega arith))))) (holds_at (place_right L t.nodes) 0 all_nodes r.nodes k a b)));
      })

  pub width_twice : with_width changed level pass node IB f ≡ changed
  width_twice =
      ap made (
      ap (λ (l : List ℕ). set l (place + 1) f) (set_comm (set t.nodes place IB) (place + 1) place f IB (λ e. omega arith) ∙ ap (λ (l : List ℕ). set l (place + 1) f) (set-set t.nodes place IB IB))
      ∙ set-set (set t.nodes place IB) (place + 1) f f)
    where
      made : List ℕ → WidthTable
      made l = record { depth = t.depth; levels = t.levels; constants = t.constants; nodes = l; has_products = t.has_products; products = t.products }

-- ---- a constant's bits

-- u is t but for the bits of one constant
pub record ConstantIs (t u : WidthTable) (node F : ℕ) : Type 0 where
  pub depth : u.depth ≡ t.depth
  pub levels : u.levels ≡ t.levels
  pub nodes : u.nodes ≡ t.nodes
  pub has_products : u.has_products ≡ t.has_products
  pub products : u.products ≡ t.products
  pub bits : constant_bits_at u node ≡ F
  pub other_bits : (n : ℕ) → (n ≡ node → ⊥) → constant_bits_at u n ≡ constant_bits_at t n

module _ (t : WidthTable) (s : FullLists t) (node F : ℕ) (ok : constant_answer t node F ≡ passed) where
  abbrev with : WidthTable
  with = with_constant t node F

  allowed : (form_right t ≡ true) × (between 1 nodes_per_pass node ≡ true) × (constant_right F ≡ true)
  unfolding constant_answer
  allowed = all_true (form_right t) (between 1 nodes_per_pass node) (constant_right F) (asks_done (form_right t && between 1 nodes_per_pass node && constant_right F) _ _ ok).0

  stage : IsNode node
  stage = between_≤ 1 nodes_per_pass node (holding allowed.1)

  pub constant_is : ConstantIs t with node F
  unfolding constant_bits_at
  constant_is = record {
    depth = refl;
    levels = refl;
    nodes = refl;
    has_products = refl;
    products = refl;
    bits = ap (λ (x : Bool). or_zero x (get_or with.constants (node - 1) 0)) allowed.1 ∙ get_or-set_same t.constants (node - 1) F 0 (omega (arith, s.constants, stage.0, stage.1));
    other_bits = λ n differs. or_zero_lem (between 1 nodes_per_pass n) _ _ (λ h. get_or-set_other t.constants (node - 1) (n - 1) F 0 (λ e. differs (omega (arith, (between_≤ 1 nodes_per_pass n h).0, stage.0))));
  }

  pub constant_form : form_right with ≡ true
  constant_form =
      let r = rules t allowed.0 in
      let c = t.constants in
      let old : T (every constant_right c) = subst T (constants_list c s.constants) r.constants in
      formed with (record {
        depth = r.depth;
        levels = r.levels;
        constants = subst T (sym (constants_list (set c (node - 1) F) (length-set c (node - 1) F ∙ s.constants))) (every_set constant_right c (node - 1) F old (holding allowed.2));
        nodes = r.nodes;
        products = r.products;
      })

  pub constant_twice : with_constant with node F ≡ with
  constant_twice = ap made (set-set t.constants (node - 1) F F)
    where
      made : List ℕ → WidthTable
      made l = record { depth = t.depth; levels = t.levels; constants = l; nodes = t.nodes; has_products = t.has_products; products = t.products }

-- ---- a product's width (document 02, job 7)

-- u is t but for the width of one product
pub record ProductIs (t u : WidthTable) (level pass product fp : ℕ) : Type 0 where
  pub depth : u.depth ≡ t.depth
  pub levels : u.levels ≡ t.levels
  pub constants : u.constants ≡ t.constants
  pub nodes : u.nodes ≡ t.nodes
  pub has_products : u.has_products ≡ t.has_products
  pub width : product_width_at u level pass product ≡ fp
  pub other_width : (l p k : ℕ) → (l ≡ level → p ≡ pass → k ≡ product → ⊥) → product_width_at u l p k ≡ product_width_at t l p k

-- the number of a product stands at no other product's place
one_product : (a b c x y z : ℕ) → b < passes_per_level → c < products_per_pass → y < passes_per_level → z < products_per_pass
    → (a * passes_per_level + b) * products_per_pass + c ≡ (x * passes_per_level + y) * products_per_pass + z
    → (a ≡ x) × (b ≡ y) × (c ≡ z)
one_product a b c x y z h i j m o =
    let d : a ≡ x = omega arith in
    let e : b ≡ y = omega arith in
    (d, e, omega arith)

abbrev ProductLimits : ℕ → ℕ → ℕ → ℕ → Type 0
ProductLimits L l p k = ((1 ≤ l) × (l ≤ L)) × IsPass p × IsProduct k

products_apart : (L M l p k l' p' k' : ℕ) → ProductLimits L l p k → ProductLimits M l' p' k' → (l ≡ l' → p ≡ p' → k ≡ k' → ⊥) → product_place l p k ≡ product_place l' p' k' → ⊥
products_apart L M l p k l' p' k' h i differs e =
    let w = one_product (l - 1) (p - 1) (k - 1) (l' - 1) (p' - 1) (k' - 1) (less_one p passes_per_level h.1) (less_one k products_per_pass h.2) (less_one p' passes_per_level i.1) (less_one k' products_per_pass i.2) e in
    differs (more_one l l' h.0.0 i.0.0 w.0) (more_one p p' h.1.0 i.1.0 w.1) (more_one k k' h.2.0 i.2.0 w.2)

module _ (t : WidthTable) (s : FullLists t) (level pass product fp : ℕ) (ok : product_answer t level pass product fp ≡ passed) where
  abbrev with_it : WidthTable
  with_it = with_product t level pass product fp

  abbrev its_place : ℕ
  its_place = product_place level pass product

  agreed : (form_right t && t.has_products ≡ true) × (has_product t.levels level pass product ≡ true) × (product_right fp ≡ true)
  unfolding product_answer
  agreed = all_true (form_right t && t.has_products) (has_product t.levels level pass product) (product_right fp) (asks_done (form_right t && t.has_products && has_product t.levels level pass product && product_right fp) _ _ ok).0

  right : form_right t ≡ true
  right = is_true (form_right t) (both (form_right t) t.has_products (holding agreed.0)).0

  has_products : t.has_products ≡ true
  has_products = is_true t.has_products (both (form_right t) t.has_products (holding agreed.0)).1

  fewer : t.levels ≤ max_levels
  fewer = few_levels t right

  within : ProductLimits t.levels level pass product
  within = product_in t.levels level pass product agreed.1

  -- a product of its levels is one of all levels
  has_product_lem : has_product max_levels level pass product ≡ true
  has_product_lem =
      is_true (has_product max_levels level pass product)
      (and_intro (between 1 max_levels level && between 1 passes_per_level pass) (between 1 products_per_pass product)
      (and_intro (between 1 max_levels level) (between 1 passes_per_level pass) (to_between 1 max_levels level within.0.0 (omega (arith, fewer, within.0.1))) (to_between 1 passes_per_level pass within.1.0 within.1.1))
      (to_between 1 products_per_pass product within.2.0 within.2.1))

  -- what stands at a place: the new width, and every other number as it was
  new_width : get_or with_it.products its_place 0 ≡ fp
  new_width = get_or-set_same t.products its_place fp 0 (omega (arith, s.products, fewer, within.0.0, within.0.1, within.1.0, within.1.1, within.2.0, within.2.1))

  other_width_lem : (k : ℕ) → (k ≡ its_place → ⊥) → get_or with_it.products k 0 ≡ get_or t.products k 0
  other_width_lem k h = get_or-set_other t.products its_place k fp 0 h

  pub product_is : ProductIs t with_it level pass product fp
  unfolding product_width_at
  product_is = record {
    depth = refl;
    levels = refl;
    constants = refl;
    nodes = refl;
    has_products = refl;
    width = ap (λ (x : Bool). or_zero x (get_or with_it.products its_place 0)) has_product_lem ∙ new_width;
    other_width = λ l p k differs. or_zero_lem (has_product max_levels l p k) _ _ (λ h. other_width_lem (product_place l p k) (products_apart max_levels t.levels l p k level pass product (product_in max_levels l p k (is_true (has_product max_levels l p k) h)) within differs));
  }

  abbrev right_at : ℕ → Bool
  right_at = number_at t.has_products t.levels with_it.products

  new_right : right_at its_place ≡ true
  new_right =
      let up : its_place / products_per_level + 1 ≤ t.levels = omega (arith, within.0.0, within.0.1, within.1.0, within.1.1, within.2.0, within.2.1) in
      ap (number_right t.has_products t.levels its_place) new_width ∙ product_right_lem t.has_products t.levels its_place fp has_products up agreed.2

  pub product_form : form_right with_it ≡ true
  product_form =
      let r = rules t right in
      formed with_it (record {
        depth = r.depth;
        levels = r.levels;
        constants = r.constants;
        nodes = r.nodes;
        products = holds_all right_at 0 all_products (λ k a b.
            same_or (T (right_at k)) k its_place
            (λ h. subst (λ (x : ℕ). T (right_at x)) (sym h) (holding new_right))
            (λ h. subst T (sym (ap (number_right t.has_products t.levels k) (other_width_lem k h))) (holds_at (number_at t.has_products t.levels t.products) 0 all_products r.products k a b)));
      })

  pub product_twice : with_product with_it level pass product fp ≡ with_it
  product_twice = ap made (set-set t.products its_place fp fp)
    where
      made : List ℕ → WidthTable
      made l = record { depth = t.depth; levels = t.levels; constants = t.constants; nodes = t.nodes; has_products = t.has_products; products = l }

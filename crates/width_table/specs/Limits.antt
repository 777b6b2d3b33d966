-- The limits of a table of right form: of its numbers by level, pass and node, and of what is read of it by number.
use Rattle.std.specs.Prelude.{ℕ, zero, suc, ◌<◌, ◌≤◌, Bool, ◌&&◌, List, ◌++◌, ◌≡◌, refl, T, leb, eqb}
use Rattle.std.proofs.Math.Bool.{true, false}
use Rattle.std.proofs.Common.{sym, ◌∙◌, ap, subst, le→leb}
use native.Mathlib.Omega.{arith}
use Rattle.std.proofs.Math.Decide.{dec_lt}
use Rattle.numbers.specs.Tests.{between, every, both, four, and_intro, between_≤}
use Rattle.numbers.specs.Lists.{In, here, there, in_left, in_right, every_in}
use Rattle.width_table.specs.declared.WidthTable.{WidthTable}
use Rattle.width_table.specs.Nodes.{products_per_pass, every_node, Node, P1, U1, P2, U2, G1, G2, Pass, Rows, LowColumns, HighColumns, TableNode, node_number, node_at, pass_nodes, level_nodes, table_order, pass_products, level_products, product_order}
use Rattle.width_table.specs.Numbered.{node_of, pass_of, IsNode, IsPass, IsProduct, node_number_lem, pass_number_lem}
use Rattle.width_table.specs.Table.{max_depth, max_levels, max_constant_bits, max_integer_bits, max_fraction_bits, max_product_bits, constant_right, constant_bits, integer_bits, fraction_bits, product_width, input_bits, node_right, product_held, form_right}
use Rattle.width_table.specs.Readers.{constant_bits_at, integer_bits_at, fraction_bits_at, product_width_at, cut_at, input_bits_at, constant_bits_lem, integer_bits_lem, fraction_bits_lem, product_width_lem, input_bits_lem}

-- ---- nodes in book order

pub in_nodes : (l : ℕ) (p : Pass) (n : Node) → In (node_at l p n) (pass_nodes l p)
in_nodes l p P1 = here
in_nodes l p U1 = there here
in_nodes l p P2 = there (there here)
in_nodes l p U2 = there (there (there here))
in_nodes l p G1 = there (there (there (there here)))
in_nodes l p G2 = there (there (there (there (there here))))

in_level : (l : ℕ) (p : Pass) (n : Node) → In (node_at l p n) (level_nodes l)
in_level l Rows n = in_left _ (in_nodes l Rows n)
in_level l LowColumns n = in_right (pass_nodes l Rows) (in_left _ (in_nodes l LowColumns n))
in_level l HighColumns n = in_right (pass_nodes l Rows) (in_right (pass_nodes l LowColumns) (in_nodes l HighColumns n))

-- those that have a product
in_products : (l : ℕ) (p : Pass) (n : Node) → node_number n ≤ products_per_pass → In (node_at l p n) (pass_products l p)
in_products l p P1 h = here
in_products l p U1 h = there here
in_products l p P2 h = there (there here)
in_products l p U2 h = there (there (there here))
in_products l p G1 h = absurd (omega arith)
in_products l p G2 h = absurd (omega arith)

in_level_products : (l : ℕ) (p : Pass) (n : Node) → node_number n ≤ products_per_pass → In (node_at l p n) (level_products l)
in_level_products l Rows n h = in_left _ (in_products l Rows n h)
in_level_products l LowColumns n h = in_right (pass_products l Rows) (in_left _ (in_products l LowColumns n h))
in_level_products l HighColumns n h = in_right (pass_products l Rows) (in_right (pass_products l LowColumns) (in_products l HighColumns n h))

-- an order that goes level by level holds what its levels 1 to L hold
module _ (order level : ℕ → List TableNode) (next : (k : ℕ) → order (suc k) ≡ order k ++ level (suc k)) (x : TableNode) where
  in_levels : (L l : ℕ) → 1 ≤ l → l ≤ L → In x (level l) → In x (order L)
  in_levels zero l a b h = absurd (omega arith)
  in_levels (suc k) l a b h = subst (In x) (sym (next k)) (go (dec_lt l (suc k)) (λ i. in_levels k l a i h))
    where
      go : Dec (l < suc k) → (l ≤ k → In x (order k)) → In x (order k ++ level (suc k))
      go (yes i) before = in_left _ (before (omega arith))
      go (no i) before =
          let e : l ≡ suc k = omega arith in
          in_right (order k) (subst (λ (j : ℕ). In x (level j)) e h)

-- book order holds each pass and node of levels 1 to L
pub in_order : (L l : ℕ) → 1 ≤ l → l ≤ L → (p : Pass) (n : Node) → In (node_at l p n) (table_order L)
in_order L l a b p n = in_levels table_order level_nodes (λ k. refl) (node_at l p n) L l a b (in_level l p n)

-- and each product
pub in_product_order : (L l : ℕ) → 1 ≤ l → l ≤ L → (p : Pass) (n : Node) → node_number n ≤ products_per_pass → In (node_at l p n) (product_order L)
in_product_order L l a b p n h = in_levels product_order level_products (λ k. refl) (node_at l p n) L l a b (in_level_products l p n h)

-- ---- the numbers of a table of right form

in_nodes_list : (n : Node) → In n every_node
in_nodes_list P1 = here
in_nodes_list U1 = there here
in_nodes_list P2 = there (there here)
in_nodes_list U2 = there (there (there here))
in_nodes_list G1 = there (there (there (there here)))
in_nodes_list G2 = there (there (there (there (there here))))

width_right_lem : (used : Bool) (IB f : ℕ) → T used → T (elim used [ true ↦ between 1 max_integer_bits IB && between 0 max_fraction_bits f | false ↦ eqb IB 0 && eqb f 0 ]) → (1 ≤ IB) × (IB ≤ max_integer_bits) × (f ≤ max_fraction_bits)
width_right_lem true IB f u h =
    let (i, j) = both (between 1 max_integer_bits IB) (between 0 max_fraction_bits f) h in
    let (a, b) = between_≤ 1 max_integer_bits IB i in
    (a, b, (between_≤ 0 max_fraction_bits f j).1)
width_right_lem false IB f u h = absurd u

held_right : (used : Bool) (fp : ℕ) → T used → T (elim used [ true ↦ between 0 max_product_bits fp | false ↦ eqb fp 0 ]) → fp ≤ max_product_bits
held_right true fp u h = (between_≤ 0 max_product_bits fp h).1
held_right false fp u h = absurd u

module _ (t : WidthTable) (form : T (form_right t)) where
  parts :
      T (between 1 max_depth t.depth) × T (between 1 max_levels t.levels) × T (every (λ n. constant_right (constant_bits t n)) every_node) × T (every (node_right t) (table_order max_levels))
      × T (every (product_held t) (product_order max_levels))
  unfolding form_right
  parts =
      let B = between 1 max_depth t.depth in
      let L = between 1 max_levels t.levels in
      let C = every (λ n. constant_right (constant_bits t n)) every_node in
      let N = every (node_right t) (table_order max_levels) in
      let (x, p) = both (B && L && C && N) (every (product_held t) (product_order max_levels)) form in
      let (b, l, c, n) = four B L C N x in
      (b, l, c, n, p)

  pub form_depth : (1 ≤ t.depth) × (t.depth ≤ max_depth)
  form_depth = between_≤ 1 max_depth t.depth parts.0

  pub form_levels : (1 ≤ t.levels) × (t.levels ≤ max_levels)
  form_levels = between_≤ 1 max_levels t.levels parts.1

  pub form_constants : (n : Node) → (1 ≤ constant_bits t n) × (constant_bits t n ≤ max_constant_bits)
  form_constants n = between_≤ 1 max_constant_bits (constant_bits t n) (every_in (λ n. constant_right (constant_bits t n)) (in_nodes_list n) parts.2)

  pub form_widths : (l : ℕ) → 1 ≤ l → l ≤ t.levels → (p : Pass) (n : Node) → (1 ≤ integer_bits t l p n) × (integer_bits t l p n ≤ max_integer_bits) × (fraction_bits t l p n ≤ max_fraction_bits)
  form_widths l a b p n =
      width_right_lem (leb l t.levels) (integer_bits t l p n) (fraction_bits t l p n) (le→leb l t.levels b)
      (every_in (node_right t) (in_order max_levels l a (omega (arith, form_levels.1)) p n) parts.3)

  -- the products of a table with tag 5 (document 02, job 7)
  pub form_products : T t.has_products → (l : ℕ) → 1 ≤ l → l ≤ t.levels → (p : Pass) (n : Node) → node_number n ≤ products_per_pass → product_width t l p n ≤ max_product_bits
  form_products has_products l a b p n h =
      held_right (t.has_products && leb l t.levels) (product_width t l p n) (and_intro t.has_products (leb l t.levels) has_products (le→leb l t.levels b))
      (every_in (product_held t) (in_product_order max_levels l a (omega (arith, form_levels.1)) p n h) parts.4)

  -- what enters a pass has no more fractional bits than a node may have
  pub form_input : (l : ℕ) → 1 ≤ l → l ≤ t.levels → (p : Pass) → input_bits t l p ≤ max_fraction_bits
  form_input zero a b p = absurd (omega arith)
  form_input (suc zero) a b Rows = omega (arith, form_depth.1)
  form_input (suc (suc l)) a b Rows = (form_widths (suc l) (omega arith) (omega arith) LowColumns G1).2
  form_input (suc l) a b LowColumns = (form_widths (suc l) a b Rows G1).2
  form_input (suc l) a b HighColumns = (form_widths (suc l) a b Rows G2).2

  -- ---- by number

  pub constant_read : (n : ℕ) → IsNode n → (constant_bits_at t n ≡ constant_bits t (node_of n)) × (1 ≤ constant_bits_at t n) × (constant_bits_at t n ≤ max_constant_bits)
  constant_read n h =
      let e = ap (constant_bits_at t) (sym (node_number_lem n h)) ∙ constant_bits_lem t (node_of n) in
      let r = form_constants (node_of n) in
      (e, omega (arith, e, r.0), omega (arith, e, r.1))

  module _ (l : ℕ) (least : 1 ≤ l) (most : l ≤ t.levels) where
    few : l ≤ max_levels
    few = omega (arith, most, form_levels.1)

    pub integer_read : (p n : ℕ) → IsPass p → IsNode n → (integer_bits_at t l p n ≡ integer_bits t l (pass_of p) (node_of n)) × (1 ≤ integer_bits_at t l p n) × (integer_bits_at t l p n ≤ max_integer_bits)
    integer_read p n h k =
        let e = (λ u. integer_bits_at t l (sym (pass_number_lem p h) u) (sym (node_number_lem n k) u)) ∙ integer_bits_lem t l (pass_of p) (node_of n) least few in
        let r = form_widths l least most (pass_of p) (node_of n) in
        (e, omega (arith, e, r.0), omega (arith, e, r.1))

    pub fraction_read : (p n : ℕ) → IsPass p → IsNode n → (fraction_bits_at t l p n ≡ fraction_bits t l (pass_of p) (node_of n)) × (fraction_bits_at t l p n ≤ max_fraction_bits)
    fraction_read p n h k =
        let e = (λ u. fraction_bits_at t l (sym (pass_number_lem p h) u) (sym (node_number_lem n k) u)) ∙ fraction_bits_lem t l (pass_of p) (node_of n) least few in
        (e, omega (arith, e, (form_widths l least most (pass_of p) (node_of n)).2))

    width_read : (p k : ℕ) → IsPass p → IsProduct k → (node_number (node_of k) ≤ products_per_pass) × (product_width_at t l p k ≡ product_width t l (pass_of p) (node_of k))
    width_read p k h i =
        let e = node_number_lem k (omega arith) in
        let m : node_number (node_of k) ≤ products_per_pass = omega (arith, e) in
        (m, (λ u. product_width_at t l (sym (pass_number_lem p h) u) (sym e u)) ∙ product_width_lem t l (pass_of p) (node_of k) least few m)

    pub product_read : T t.has_products → (p k : ℕ) → IsPass p → IsProduct k → (product_width_at t l p k ≡ product_width t l (pass_of p) (node_of k)) × (product_width_at t l p k ≤ max_product_bits)
    product_read has_products p k h i =
        let (m, e) = width_read p k h i in
        (e, omega (arith, e, form_products has_products l least most (pass_of p) (node_of k) m))

    -- what a product is cut to, with tag 5 and without it
    pub cut_read : (p k : ℕ) → IsPass p → IsProduct k → (cut_at t l p k ≡ elim t.has_products [ true ↦ product_width t l (pass_of p) (node_of k) | false ↦ max_product_bits ]) × (cut_at t l p k ≤ max_product_bits)
    unfolding cut_at
    cut_read p k h i =
        let (m, e) = width_read p k h i in
        (ap (λ (w : ℕ). elim t.has_products [ true ↦ w | false ↦ max_product_bits ]) e, limit t.has_products (product_width_at t l p k) (λ has_products. (product_read has_products p k h i).1))
      where
        limit : (has_products : Bool) (w : ℕ) → (T has_products → w ≤ max_product_bits) → elim has_products [ true ↦ w | false ↦ max_product_bits ] ≤ max_product_bits
        limit true w h = h tt
        limit false w h = omega arith

    pub input_read : (p : ℕ) → IsPass p → (input_bits_at t l p ≡ input_bits t l (pass_of p)) × (input_bits_at t l p ≤ max_fraction_bits)
    input_read p h =
        let e = input_bits_lem t l p least few h in
        (e, omega (arith, e, form_input l least most (pass_of p)))

-- The form of a table in memory by its lists: the nodes' numbers, two by two, are those of the nodes in book order, and the products'
-- numbers (document 02, job 7), one by one, those of the products.
use Rattle.std.specs.Prelude.{ℕ, zero, suc, ◌+◌, ◌*◌, ◌-◌, ◌/◌, ◌<◌, ◌≤◌, Bool, true, false, ◌&&◌, List, [], ◌∷◌, ◌≡◌, refl, T, leb, eqb, length, get_or, take, drop}
use Rattle.std.proofs.Common.{sym, ◌∙◌, ap, ap₂, subst, arith, le-leb, drop_of_length-le}
use Rattle.std.proofs.lemmas.Bool.{lt-leb}
use Rattle.std.proofs.Math.Dec.{eqb-zero-suc, eqb-suc-zero}
use Rattle.numbers.specs.Tests.{every, both, and_intro, between_≤, by_leb}
use Rattle.numbers.specs.Lists.{next_one, next_two, rest_whole}
use Rattle.width_table.specs.declared.WidthTable.{WidthTable}
use Rattle.width_table.specs.Nodes.{every_node, nodes_per_pass, nodes_per_level, products_per_level, node_number, table_order, product_order}
use Rattle.width_table.specs.Table.{max_levels, width_bytes, depth_right, levels_right, constant_right, width_right, product_right, node_right, product_held, form_right}
use Rattle.width_table.specs.Lists.{node_bytes, product_bytes, widths_right, FullLists, form_lists}

-- ---- tests of a run of places

-- the test holds of the n places from i on
unfoldable pub every_from : (ℕ → Bool) → ℕ → ℕ → Bool
every_from test i zero = true
every_from test i (suc n) = test i && every_from test (i + 1) n

and_assoc : (a b c : Bool) → a && b && c ≡ a && (b && c)
and_assoc true b c = refl
and_assoc false b c = refl

holds_add : (test : ℕ → Bool) (i m n : ℕ) → every_from test i (m + n) ≡ every_from test i m && every_from test (i + m) n
unfolding every_from
holds_add test i zero n =
    let e : 0 + n ≡ n = omega arith in
    let f : i ≡ i + 0 = omega arith in
    ap₂ (every_from test) f e
holds_add test i (suc m) n =
    let e : i + 1 + m ≡ i + suc m = omega arith in
    let f : suc m + n ≡ suc (m + n) = omega arith in
    ap (every_from test i) f
    ∙ ap (λ (x : Bool). test i && x) (holds_add test (i + 1) m n ∙ ap (λ (k : ℕ). every_from test (i + 1) m && every_from test k n) e)
    ∙ sym (and_assoc (test i) (every_from test (i + 1) m) (every_from test (i + suc m) n))

holds_same : (f g : ℕ → Bool) (i n : ℕ) → ((k : ℕ) → i ≤ k → k < i + n → f k ≡ g k) → every_from f i n ≡ every_from g i n
unfolding every_from
holds_same f g i zero h = refl
holds_same f g i (suc n) h = ap₂ ◌&&◌ (h i (omega arith) (omega arith)) (holds_same f g (i + 1) n (λ k a b. h k (omega arith) (omega arith)))

-- of each place by itself
pub holds_at : (test : ℕ → Bool) (i n : ℕ) → T (every_from test i n) → (k : ℕ) → i ≤ k → k < i + n → T (test k)
unfolding every_from
holds_at test i zero h k a b = absurd (omega arith)
holds_at test i (suc n) h k a b =
    let (x, y) = both (test i) (every_from test (i + 1) n) h in
    by_leb (λ (s : Bool). T (test k)) (i + 1) k (λ c. holds_at test (i + 1) n y k c (omega arith)) (λ c. let e : i ≡ k = omega arith in subst (λ (j : ℕ). T (test j)) e x)

pub holds_all : (test : ℕ → Bool) (i n : ℕ) → ((k : ℕ) → i ≤ k → k < i + n → T (test k)) → T (every_from test i n)
unfolding every_from
holds_all test i zero h = tt
holds_all test i (suc n) h = and_intro (test i) (every_from test (i + 1) n) (h i (omega arith) (omega arith)) (holds_all test (i + 1) n (λ k a b. h k (omega arith) (omega arith)))

-- ---- two numbers to a place

-- the numbers of the k-th node in book order
abbrev width_at : List ℕ → ℕ → Bool
width_at l k = width_right (get_or l (width_bytes * k) 0) (get_or l (width_bytes * k + 1) 0)

abbrev zero_at : List ℕ → ℕ → Bool
zero_at l k = eqb (get_or l (width_bytes * k) 0) 0 && eqb (get_or l (width_bytes * k + 1) 0) 0

-- the k-th node's numbers are right for L levels
abbrev pub pair_right : ℕ → ℕ → ℕ → ℕ → Bool
pair_right L k IB f = elim (leb (k / nodes_per_level + 1) L) [ true ↦ width_right IB f | false ↦ eqb IB 0 && eqb f 0 ]

abbrev pub place_right : ℕ → List ℕ → ℕ → Bool
place_right L l k = pair_right L k (get_or l (width_bytes * k) 0) (get_or l (width_bytes * k + 1) 0)

widths_hold : (l : List ℕ) (i n : ℕ) → width_bytes * (i + n) ≤ length l → widths_right (take (width_bytes * n) (drop (width_bytes * i) l)) ≡ every_from (width_at l) i n
unfolding widths_right every_from
widths_hold l i zero h = refl
widths_hold l i (suc n) h =
    let e : width_bytes * suc n ≡ suc (suc (width_bytes * n)) = omega arith in
    let s : width_bytes * i + width_bytes ≡ width_bytes * (i + 1) = omega arith in
    ap₂ (λ (m : ℕ) (r : List ℕ). widths_right (take m r)) e (next_two l 0 (width_bytes * i) (omega arith))
    ∙ ap (λ (m : ℕ). width_at l i && widths_right (take (width_bytes * n) (drop m l))) s
    ∙ ap (λ (x : Bool). width_at l i && x) (widths_hold l (i + 1) n (omega arith))

eqb_zero : (a : ℕ) → eqb 0 a ≡ eqb a 0
eqb_zero zero = refl
eqb_zero (suc a) = eqb-zero-suc a ∙ sym (eqb-suc-zero a)

zeros_hold : (l : List ℕ) (i n : ℕ) → width_bytes * (i + n) ≡ length l → every (eqb 0) (drop (width_bytes * i) l) ≡ every_from (zero_at l) i n
unfolding every every_from
zeros_hold l i zero h = ap (every (eqb 0)) (drop_of_length-le l {i = width_bytes * i} (omega arith))
zeros_hold l i (suc n) h =
    let s : width_bytes * i + width_bytes ≡ width_bytes * (i + 1) = omega arith in
    ap (every (eqb 0)) (next_two l 0 (width_bytes * i) (omega arith))
    ∙ ap₂ (λ (x y : Bool). x && (y && every (eqb 0) (drop (width_bytes * i + width_bytes) l))) (eqb_zero (get_or l (width_bytes * i) 0)) (eqb_zero (get_or l (width_bytes * i + 1) 0))
    ∙ sym (and_assoc (eqb (get_or l (width_bytes * i) 0) 0) (eqb (get_or l (width_bytes * i + 1) 0) 0) _)
    ∙ ap (λ (m : ℕ). zero_at l i && every (eqb 0) (drop m l)) s
    ∙ ap (λ (x : Bool). zero_at l i && x) (zeros_hold l (i + 1) n (omega arith))

-- ---- one number to a place

-- the k-th product's number is right for L levels, with tag 5 or without it
abbrev pub number_right : Bool → ℕ → ℕ → ℕ → Bool
number_right has_products L k fp = elim (has_products && leb (k / products_per_level + 1) L) [ true ↦ product_right fp | false ↦ eqb fp 0 ]

abbrev pub number_at : Bool → ℕ → List ℕ → ℕ → Bool
number_at has_products L l k = number_right has_products L k (get_or l k 0)

each_holds : (test : ℕ → Bool) (l : List ℕ) (i n : ℕ) → i + n ≤ length l → every test (take n (drop i l)) ≡ every_from (λ k. test (get_or l k 0)) i n
unfolding every every_from
each_holds test l i zero h = refl
each_holds test l i (suc n) h =
    ap (λ (r : List ℕ). every test (take (suc n) r)) (next_one l 0 i (omega arith))
    ∙ ap (λ (x : Bool). test (get_or l i 0) && x) (each_holds test l (i + 1) n (omega arith))

rest_holds : (test : ℕ → Bool) (l : List ℕ) (i : ℕ) → i ≤ length l → every test (drop i l) ≡ every_from (λ k. test (get_or l k 0)) i (length l - i)
rest_holds test l i h = ap (every test) (sym (rest_whole i l)) ∙ each_holds test l i (length l - i) (omega arith)

-- ---- the two forms

-- the nodes of a table of most levels, and their products
abbrev pub all_nodes : ℕ
all_nodes = nodes_per_level * max_levels

abbrev pub all_products : ℕ
all_products = products_per_level * max_levels

-- book order is the order of places
pub book_places : (t : WidthTable) → every (node_right t) (table_order max_levels) ≡ every_from (place_right t.levels t.nodes) 0 all_nodes
unfolding every every_from
book_places t = refl

pub product_places : (t : WidthTable) → every (product_held t) (product_order max_levels) ≡ every_from (number_at t.has_products t.levels t.products) 0 all_products
unfolding every every_from
product_places t = refl

module _ (L : ℕ) (l : List ℕ) (few : L ≤ max_levels) (long : length l ≡ node_bytes max_levels) where
  nodes_lists : every_from (place_right L l) 0 all_nodes ≡ widths_right (take (node_bytes L) l) && every (eqb 0) (drop (node_bytes L) l)
  nodes_lists =
      let all : all_nodes ≡ nodes_per_level * L + (all_nodes - nodes_per_level * L) = omega arith in
      let e : width_bytes * (nodes_per_level * L) ≡ node_bytes L = omega arith in
      let z : 0 + nodes_per_level * L ≡ nodes_per_level * L = omega arith in
      ap (every_from (place_right L l) 0) all
      ∙ holds_add (place_right L l) 0 (nodes_per_level * L) (all_nodes - nodes_per_level * L)
      ∙ ap (λ (n : ℕ). every_from (place_right L l) 0 (nodes_per_level * L) && every_from (place_right L l) n (all_nodes - nodes_per_level * L)) z
      ∙ ap₂ ◌&&◌ (holds_same (place_right L l) (width_at l) 0 (nodes_per_level * L) used) (holds_same (place_right L l) (zero_at l) (nodes_per_level * L) (all_nodes - nodes_per_level * L) unused)
      ∙ sym (ap₂ ◌&&◌ (widths_hold l 0 (nodes_per_level * L) (omega arith)) (zeros_hold l (nodes_per_level * L) (all_nodes - nodes_per_level * L) (omega arith)))
      ∙ ap (λ (n : ℕ). widths_right (take n l) && every (eqb 0) (drop n l)) e
    where
      used : (k : ℕ) → 0 ≤ k → k < 0 + nodes_per_level * L → place_right L l k ≡ width_at l k
      used k a b = ap (λ (x : Bool). elim x [ true ↦ width_at l k | false ↦ zero_at l k ]) (le-leb (k / nodes_per_level + 1) L (omega arith))

      unused : (k : ℕ) → nodes_per_level * L ≤ k → k < nodes_per_level * L + (all_nodes - nodes_per_level * L) → place_right L l k ≡ zero_at l k
      unused k a b = ap (λ (x : Bool). elim x [ true ↦ width_at l k | false ↦ zero_at l k ]) (lt-leb (k / nodes_per_level + 1) L (omega arith))

-- the first n products are used, and no other
module _ (has_products : Bool) (L : ℕ) (l : List ℕ) (long : length l ≡ product_bytes max_levels) (n : ℕ) (few : n ≤ all_products) where
  abbrev is_used : ℕ → Bool
  is_used k = has_products && leb (k / products_per_level + 1) L

  products_split : ((k : ℕ) → k < n → is_used k ≡ true) → ((k : ℕ) → n ≤ k → is_used k ≡ false) → every_from (number_at has_products L l) 0 all_products ≡ every product_right (take n l) && every (eqb 0) (drop n l)
  products_split used unused =
      let all : all_products ≡ n + (all_products - n) = omega arith in
      let z : 0 + n ≡ n = omega arith in
      let m : all_products - n ≡ length l - n = omega arith in
      ap (every_from (number_at has_products L l) 0) all
      ∙ holds_add (number_at has_products L l) 0 n (all_products - n)
      ∙ ap₂ (λ (i k : ℕ). every_from (number_at has_products L l) 0 n && every_from (number_at has_products L l) i k) z m
      ∙ ap₂ ◌&&◌ (holds_same (number_at has_products L l) (λ k. product_right (get_or l k 0)) 0 n (λ k a b. ap (chosen k) (used k (omega arith)))) (holds_same (number_at has_products L l) (λ k. eqb 0 (get_or l k 0)) n (length l - n) (λ k a b. ap (chosen k) (unused k a) ∙ sym (eqb_zero (get_or l k 0))))
      ∙ sym (ap₂ ◌&&◌ (each_holds product_right l 0 n (omega arith)) (rest_holds (eqb 0) l n (omega arith)))
    where
      chosen : ℕ → Bool → Bool
      chosen k x = elim x [ true ↦ product_right (get_or l k 0) | false ↦ eqb (get_or l k 0) 0 ]

-- how many, with tag 5 and without it
abbrev used_in : Bool → ℕ → ℕ
used_in has_products L = elim has_products [ true ↦ product_bytes L | false ↦ 0 ]

products_lists : (has_products : Bool) (L : ℕ) (l : List ℕ) → L ≤ max_levels → length l ≡ product_bytes max_levels → every_from (number_at has_products L l) 0 all_products ≡ every product_right (take (used_in has_products L) l) && every (eqb 0) (drop (used_in has_products L) l)
products_lists true L l few long = products_split true L l long (product_bytes L) (omega arith) (λ k h. le-leb (k / products_per_level + 1) L (omega arith)) (λ k h. lt-leb (k / products_per_level + 1) L (omega arith))
products_lists false L l few long = products_split false L l long 0 (omega arith) (λ k h. absurd (omega arith)) (λ k h. refl)

pub constants_list : (c : List ℕ) → length c ≡ nodes_per_pass → every (λ n. constant_right (get_or c (node_number n - 1) 0)) every_node ≡ every constant_right c
unfolding every
constants_list [] h = absurd (omega arith)
constants_list (a ∷ []) h = absurd (omega arith)
constants_list (a ∷ b ∷ []) h = absurd (omega arith)
constants_list (a ∷ b ∷ c ∷ []) h = absurd (omega arith)
constants_list (a ∷ b ∷ c ∷ d ∷ []) h = absurd (omega arith)
constants_list (a ∷ b ∷ c ∷ d ∷ e ∷ []) h = absurd (omega arith)
constants_list (a ∷ b ∷ c ∷ d ∷ e ∷ f ∷ []) h = refl
constants_list (a ∷ b ∷ c ∷ d ∷ e ∷ f ∷ g ∷ l) h = absurd (omega arith)

pub form_lists_lem : (t : WidthTable) → FullLists t → form_right t ≡ form_lists t
unfolding form_right form_lists
form_lists_lem t s =
    join (depth_right t.depth) (levels_right t.levels) _ _ _ _ _ _ _ _ (constants_list t.constants s.constants)
    (λ b. book_places t ∙ nodes_lists t.levels t.nodes (between_≤ 1 max_levels t.levels b).1 s.nodes)
    (λ b. product_places t ∙ products_lists t.has_products t.levels t.products (between_≤ 1 max_levels t.levels b).1 s.products)
  where
    join : (a b c c' d x y e u v : Bool) → c ≡ c' → (T b → d ≡ x && y) → (T b → e ≡ u && v) → a && b && c && d && e ≡ a && b && c' && x && y && u && v
    join false b c c' d x y e u v p h k = refl
    join true false c c' d x y e u v p h k = refl
    join true true c c' d x y e u v p h k = ap₂ ◌&&◌ (ap₂ ◌&&◌ p (h tt) ∙ sym (and_assoc c' x y)) (k tt) ∙ sym (and_assoc (c' && x && y) u v)

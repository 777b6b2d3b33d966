-- The widths of a table by number: level, pass and node count from 1, and there is 0 elsewhere.
use Rattle.std.specs.Prelude.{ℕ, zero, suc, ◌+◌, ◌-◌, ◌≤◌, Bool, ◌&&◌, ◌≡◌, refl, get_or}
use Rattle.std.proofs.Math.Bool.{true, false}
use Rattle.std.proofs.Common.{sym, ◌∙◌, arith, le-leb}
use Rattle.std.proofs.Math.Path.{ap, ap₂}
use Rattle.numbers.specs.Tests.{between, is_between}
use Rattle.width_table.specs.declared.WidthTable.{WidthTable}
use Rattle.width_table.specs.Nodes.{nodes_per_pass, passes_per_level, products_per_pass, Node, P1, U1, P2, U2, G1, G2, Pass, Rows, LowColumns, HighColumns, column_pass, last_node, pass_number, node_number}
use Rattle.width_table.specs.Table.{max_levels, max_product_bits, node_place, product_place, constant_bits, integer_bits, fraction_bits, product_width, input_bits}
use Rattle.width_table.specs.Numbered.{pass_of, IsPass}
use Rattle.width_table.specs.Changes.{has_node, has_product}

-- a number where the test holds, else 0
abbrev pub or_zero : Bool → ℕ → ℕ
or_zero true n = n
or_zero false n = 0

-- F of a stage's constant
unfoldable pub constant_bits_at : WidthTable → ℕ → ℕ
constant_bits_at t node = or_zero (between 1 nodes_per_pass node) (get_or t.constants (node - 1) 0)

-- IB of a node
unfoldable pub integer_bits_at : WidthTable → ℕ → ℕ → ℕ → ℕ
integer_bits_at t level pass node = or_zero (has_node max_levels level pass node) (get_or t.nodes (node_place level pass node) 0)

-- f of a node
unfoldable pub fraction_bits_at : WidthTable → ℕ → ℕ → ℕ → ℕ
fraction_bits_at t level pass node = or_zero (has_node max_levels level pass node) (get_or t.nodes (node_place level pass node + 1) 0)

-- fp of a product
unfoldable pub product_width_at : WidthTable → ℕ → ℕ → ℕ → ℕ
product_width_at t level pass product = or_zero (has_product max_levels level pass product) (get_or t.products (product_place level pass product) 0)

-- the bits that a product is cut to: without tag 5 the limit, which no product of a right table is above
unfoldable pub cut_at : WidthTable → ℕ → ℕ → ℕ → ℕ
cut_at t level pass product = elim t.has_products [ true ↦ product_width_at t level pass product | false ↦ max_product_bits ]

-- f of what enters a pass
unfoldable pub input_bits_at : WidthTable → ℕ → ℕ → ℕ
input_bits_at t level pass = or_zero (between 1 max_levels level && between 1 passes_per_level pass) (input_bits t level (pass_of pass))

-- ---- laws

pub constant_bits_lem : (t : WidthTable) (n : Node) → constant_bits_at t (node_number n) ≡ constant_bits t n
unfolding constant_bits_at
constant_bits_lem t P1 = refl
constant_bits_lem t U1 = refl
constant_bits_lem t P2 = refl
constant_bits_lem t U2 = refl
constant_bits_lem t G1 = refl
constant_bits_lem t G2 = refl

node_number_lem : (n : Node) → between 1 nodes_per_pass (node_number n) ≡ true
node_number_lem P1 = refl
node_number_lem U1 = refl
node_number_lem P2 = refl
node_number_lem U2 = refl
node_number_lem G1 = refl
node_number_lem G2 = refl

pass_number_lem : (p : Pass) → between 1 passes_per_level (pass_number p) ≡ true
pass_number_lem Rows = refl
pass_number_lem LowColumns = refl
pass_number_lem HighColumns = refl

-- a table of L levels has every pass and node of levels 1 to L
has_every : (L l : ℕ) (p : Pass) (n : Node) → 1 ≤ l → l ≤ L → has_node L l (pass_number p) (node_number n) ≡ true
has_every L l p n a b = simp (le-leb 1 l a, le-leb l L b, pass_number_lem p, node_number_lem n)

pub integer_bits_lem : (t : WidthTable) (l : ℕ) (p : Pass) (n : Node) → 1 ≤ l → l ≤ max_levels → integer_bits_at t l (pass_number p) (node_number n) ≡ integer_bits t l p n
unfolding integer_bits_at
integer_bits_lem t l p n a b = ap (λ (x : Bool). or_zero x (integer_bits t l p n)) (has_every max_levels l p n a b)

pub fraction_bits_lem : (t : WidthTable) (l : ℕ) (p : Pass) (n : Node) → 1 ≤ l → l ≤ max_levels → fraction_bits_at t l (pass_number p) (node_number n) ≡ fraction_bits t l p n
unfolding fraction_bits_at
fraction_bits_lem t l p n a b = ap (λ (x : Bool). or_zero x (fraction_bits t l p n)) (has_every max_levels l p n a b)

-- the nodes that have a product
product_number : (n : Node) → node_number n ≤ products_per_pass → between 1 products_per_pass (node_number n) ≡ true
product_number P1 h = refl
product_number U1 h = refl
product_number P2 h = refl
product_number U2 h = refl
product_number G1 h = absurd (omega arith)
product_number G2 h = absurd (omega arith)

has_product_lem : (L l : ℕ) (p : Pass) (n : Node) → 1 ≤ l → l ≤ L → node_number n ≤ products_per_pass → has_product L l (pass_number p) (node_number n) ≡ true
has_product_lem L l p n a b h = simp (le-leb 1 l a, le-leb l L b, pass_number_lem p, product_number n h)

pub product_width_lem : (t : WidthTable) (l : ℕ) (p : Pass) (n : Node) → 1 ≤ l → l ≤ max_levels → node_number n ≤ products_per_pass → product_width_at t l (pass_number p) (node_number n) ≡ product_width t l p n
unfolding product_width_at
product_width_lem t l p n a b h = ap (λ (x : Bool). or_zero x (product_width t l p n)) (has_product_lem max_levels l p n a b h)

-- what a product is cut to, with tag 5 and without it
module _ (t : WidthTable) (l p k : ℕ) where
  pub cut_none : t.has_products ≡ false → cut_at t l p k ≡ max_product_bits
  unfolding cut_at
  cut_none e = ap (λ (x : Bool). elim x [ true ↦ product_width_at t l p k | false ↦ max_product_bits ]) e

-- columns are fed by the rows of their level
columns_fed : (t : WidthTable) (l : ℕ) (low : Bool) → input_bits t l (column_pass low) ≡ fraction_bits t l Rows (last_node low)
columns_fed t zero true = refl
columns_fed t zero false = refl
columns_fed t (suc zero) true = refl
columns_fed t (suc zero) false = refl
columns_fed t (suc (suc l)) true = refl
columns_fed t (suc (suc l)) false = refl

-- what enters a pass: by its number, and as the fractional bits of the node that feeds it
module _ (t : WidthTable) (l p : ℕ) where
  pub input_none : between 1 max_levels l && between 1 passes_per_level p ≡ false → input_bits_at t l p ≡ 0
  unfolding input_bits_at
  input_none e = ap (λ (x : Bool). or_zero x (input_bits t l (pass_of p))) e

  module _ (least : 1 ≤ l) (most : l ≤ max_levels) where
    pub input_bits_lem : IsPass p → input_bits_at t l p ≡ input_bits t l (pass_of p)
    unfolding input_bits_at
    input_bits_lem h = ap₂ (λ (x y : Bool). or_zero (x && y) (input_bits t l (pass_of p))) (is_between 1 max_levels l least most) (is_between 1 passes_per_level p h.0 h.1)

    pub input_low : p ≡ pass_number LowColumns → input_bits_at t l p ≡ fraction_bits_at t l (pass_number Rows) (node_number G1)
    input_low e = input_bits_lem (omega arith, omega arith) ∙ ap (λ (q : ℕ). input_bits t l (pass_of q)) e ∙ columns_fed t l true ∙ sym (fraction_bits_lem t l Rows G1 least most)

    pub input_high : p ≡ pass_number HighColumns → input_bits_at t l p ≡ fraction_bits_at t l (pass_number Rows) (node_number G2)
    input_high e = input_bits_lem (omega arith, omega arith) ∙ ap (λ (q : ℕ). input_bits t l (pass_of q)) e ∙ columns_fed t l false ∙ sym (fraction_bits_lem t l Rows G2 least most)

    pub input_first : p ≡ pass_number Rows → l ≡ 1 → input_bits_at t l p ≡ t.depth
    input_first e d = input_bits_lem (omega arith, omega arith) ∙ (λ u. input_bits t (d u) (pass_of (e u)))

    pub input_later : p ≡ pass_number Rows → (l ≡ 1 → ⊥) → input_bits_at t l p ≡ fraction_bits_at t (l - 1) (pass_number LowColumns) (node_number G1)
    input_later e d =
        input_bits_lem (omega arith, omega arith) ∙ ap (λ (q : ℕ). input_bits t l (pass_of q)) e ∙ later l least d ∙ sym (fraction_bits_lem t (l - 1) LowColumns G1 (omega arith) (omega arith))
      where
        before : (k : ℕ) → suc k ≡ suc (suc k) - 1
        before k = omega arith

        later : (l : ℕ) → 1 ≤ l → (l ≡ 1 → ⊥) → input_bits t l Rows ≡ fraction_bits t (l - 1) LowColumns G1
        later zero h d = absurd (omega arith)
        later (suc zero) h d = absurd (d refl)
        later (suc (suc k)) h d = ap (λ (m : ℕ). fraction_bits t m LowColumns G1) (before k)

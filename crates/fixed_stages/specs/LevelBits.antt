-- What is read of a level of an accepted table, by number, is what the definitions have, and within its limits; and its stages by the bits that
-- their products are cut to (document 02, job 7).
use Rattle.std.specs.Prelude.{ℕ, ◌+◌, ◌≤◌, Bool, true, false, ◌≡◌, refl, get_or}
use Rattle.std.proofs.Common.{sym, ◌∙◌, ap, subst, arith}
use Rattle.exact.specs.Fractions.{Frac}
use Rattle.stages.specs.Stages.{Product, cut_to}
use Rattle.stages.specs.Fixed.{nearest}
use Rattle.width_table.specs.declared.WidthTable.{WidthTable}
use Rattle.width_table.specs.Nodes.{products_per_pass, Node, P1, U1, P2, U2, G1, G2, Pass, node_number}
use Rattle.width_table.specs.Table.{max_constant_bits, max_fraction_bits, max_product_bits, node_place, product_place, constant_bits, fraction_bits, product_width, input_bits}
use Rattle.width_table.specs.Readers.{fraction_bits_at, input_bits_at}
use Rattle.width_table.specs.Numbered.{node_of, pass_of, IsNode, IsPass, pass_number_lem}
use Rattle.width_table.specs.Limits.{form_constants, form_widths, fraction_read, input_read}
use Rattle.table_meaning.specs.Products.{width_of, product_of}
use Rattle.precision.specs.Verdict.{Accepted, IsLevel}
use Rattle.precision.specs.Promise.{promise}
use Rattle.fixed_stages.specs.StepLaws.{step_of_wide}
use Rattle.fixed_stages.specs.Steps.{stage_of, cut_bits}
use Rattle.fixed_stages.specs.Constants.{ConstantBits}

-- no product has more bits than the limit, so that a stage by it is one whose product has no width
cut_stage : (has_products : Bool) (fp : ℕ) (c : Frac) (F fm fo f : ℕ) → F ≤ max_constant_bits → fm ≤ max_fraction_bits → stage_of (cut_to (cut_bits has_products fp)) c F fm fo f ≡ stage_of (width_of has_products fp) c F fm fo f
cut_stage true fp c F fm fo f a b = refl
cut_stage false fp c F fm fo f a b = step_of_wide max_product_bits (nearest c F) F fm fo f (omega arith)

-- the product of a stage that lifts
product_is : (t : WidthTable) (l : ℕ) (p : Pass) (n : Node) → node_number n ≤ products_per_pass → product_of t l p n ≡ width_of t.has_products (product_width t l p n)
unfolding product_of
product_is t l p P1 i = refl
product_is t l p U1 i = refl
product_is t l p P2 i = refl
product_is t l p U2 i = refl
product_is t l p G1 i = absurd (omega arith)
product_is t l p G2 i = absurd (omega arith)

-- what is read of it is what the definitions have, and within its limits
module _ (t : WidthTable) where
  -- F of a stage's constant
  pub constant_limits : Accepted t → (n : Node) → ConstantBits (constant_bits t n)
  constant_limits ok n = form_constants t (promise t ok).form n

  module _ (l : ℕ) (ok : IsLevel t l) (p : ℕ) (h : IsPass p) where
    -- f of a node
    pub fraction_is : (n : ℕ) → IsNode n → {x : ℕ} → x ≡ fraction_bits_at t l p n → (x ≡ fraction_bits t l (pass_of p) (node_of n)) × (x ≤ max_fraction_bits)
    fraction_is n k e =
        let (same, most) = fraction_read t (promise t ok.accepted).form l ok.least ok.most p n h k in
        (e ∙ same, subst (λ (x : ℕ). x ≤ max_fraction_bits) (sym e) most)

    -- f of a node, where it lies among the nodes' numbers
    pub fraction_at : (n : Node) (m : ℕ) → m ≡ node_place l p (node_number n) + 1 → (get_or t.nodes m 0 ≡ fraction_bits t l (pass_of p) n) × (get_or t.nodes m 0 ≤ max_fraction_bits)
    fraction_at n m e =
        let same = ap (λ (m : ℕ). get_or t.nodes m 0) (e ∙ ap (λ (q : ℕ). node_place l q (node_number n) + 1) (sym (pass_number_lem p h))) in
        (same, subst (λ (x : ℕ). x ≤ max_fraction_bits) (sym same) (form_widths t (promise t ok.accepted).form l ok.least ok.most (pass_of p) n).2)

    -- a stage by the bits that its product is cut to, whose width lies among the products' numbers
    pub stage_at : (n : Node) → node_number n ≤ products_per_pass → (m : ℕ) → m ≡ product_place l p (node_number n) → {w : ℕ} → w ≡ cut_bits t.has_products (get_or t.products m 0)
        → (c : Frac) (F fm fo f : ℕ) → F ≤ max_constant_bits → fm ≤ max_fraction_bits → stage_of (cut_to w) c F fm fo f ≡ stage_of (product_of t l (pass_of p) n) c F fm fo f
    stage_at n lifts m e is c F fm fo f a b =
        let same = ap (λ (m : ℕ). get_or t.products m 0) (e ∙ ap (λ (q : ℕ). product_place l q (node_number n)) (sym (pass_number_lem p h))) in
        ap (λ (w : ℕ). stage_of (cut_to w) c F fm fo f) (is ∙ ap (cut_bits t.has_products) same)
        ∙ cut_stage t.has_products (product_width t l (pass_of p) n) c F fm fo f a b
        ∙ ap (λ (q : Product). stage_of q c F fm fo f) (sym (product_is t l (pass_of p) n lifts))

    -- f of what enters a pass
    pub input_is : {x : ℕ} → x ≡ input_bits_at t l p → (x ≡ input_bits t l (pass_of p)) × (x ≤ max_fraction_bits)
    input_is e =
        let (same, most) = input_read t (promise t ok.accepted).form l ok.least ok.most p h in
        (e ∙ same, subst (λ (x : ℕ). x ≤ max_fraction_bits) (sym e) most)

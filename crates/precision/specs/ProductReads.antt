-- For the program: the width of a product as a number (`cut_at`), the limit of 44 bits where the table has no tag 5. A product has at most
-- 24 + 20 bits, so 44 cut nothing: own errors and steps by that number are those of the table (document 02, job 7).
use Rattle.std.specs.Prelude.{ℕ, zero, suc, ◌≤◌, Bool, true, false, ◌≡◌, get_or}
use Rattle.std.proofs.Math.Path.{refl}
use Rattle.std.proofs.Common.{sym, ◌∙◌, ap, arith}
use Rattle.stages.specs.Stages.{Product, uncut, cut_to}
use Rattle.stages.specs.Rule.{own_lift}
use Rattle.stages.proofs.ProductLaws.{own_wide}
use Rattle.width_table.specs.declared.WidthTable.{WidthTable}
use Rattle.width_table.specs.Numbered.{node_of, pass_of, IsProduct, node_number_lem, pass_number_lem}
use Rattle.width_table.specs.Table.{max_constant_bits, max_fraction_bits, max_product_bits, product_place, product_width}
use Rattle.width_table.specs.Readers.{cut_at}
use Rattle.width_table.specs.Limits.{cut_read}
use Rattle.table_meaning.specs.Products.{width_of, product_of}
use Rattle.precision.specs.Places.{At}

-- the stages that lift, by number
pub by_product : (P : ℕ → Type 0) → P 1 → P 2 → P 3 → P 4 → (k : ℕ) → IsProduct k → P k
by_product P a b c d zero i = absurd (omega arith)
by_product P a b c d (suc zero) i = a
by_product P a b c d (suc (suc zero)) i = b
by_product P a b c d (suc (suc (suc zero))) i = c
by_product P a b c d (suc (suc (suc (suc zero)))) i = d
by_product P a b c d (suc (suc (suc (suc (suc k))))) i = absurd (omega arith)

module _ {t : WidthTable} {l p : ℕ} (h : At t l p) (k : ℕ) (i : IsProduct k) where
  -- the number by the table's own
  cut_is : cut_at t l p k ≡ elim t.has_products [ true ↦ product_width t l (pass_of p) (node_of k) | false ↦ max_product_bits ]
  cut_is = (cut_read t h.form l h.level_from h.level_to p k h.pass i).0

  -- what the program reads where the table has tag 5
  pub cut_held : t.has_products ≡ true → (m : ℕ) → m ≡ product_place l p k → get_or t.products m 0 ≡ cut_at t l p k
  cut_held e m is =
      ap (λ (m : ℕ). get_or t.products m 0) is
      ∙ sym (λ u. get_or t.products (product_place l (pass_number_lem p h.pass u) (node_number_lem k (omega arith, omega arith) u)) 0)
      ∙ sym (cut_is ∙ ap (λ (has_products : Bool). elim has_products [ true ↦ product_width t l (pass_of p) (node_of k) | false ↦ max_product_bits ]) e)

  product_is : product_of t l (pass_of p) (node_of k) ≡ width_of t.has_products (product_width t l (pass_of p) (node_of k))
  unfolding product_of
  product_is = by_product (λ k. product_of t l (pass_of p) (node_of k) ≡ width_of t.has_products (product_width t l (pass_of p) (node_of k))) refl refl refl refl k i

  -- whatever is the same for no width and for the limit
  pub as_number : {A : Type 0} (made : Product → A) → made (cut_to max_product_bits) ≡ made uncut → made (product_of t l (pass_of p) (node_of k)) ≡ made (cut_to (cut_at t l p k))
  as_number made e = ap made product_is ∙ go t.has_products ∙ ap (λ (n : ℕ). made (cut_to n)) (sym cut_is)
    where
      go : (has_products : Bool) → made (width_of has_products (product_width t l (pass_of p) (node_of k))) ≡ made (cut_to (elim has_products [ true ↦ product_width t l (pass_of p) (node_of k) | false ↦ max_product_bits ]))
      go true = refl
      go false = sym e

  pub own_number : (F fm fo f r : ℕ) → F ≤ max_constant_bits → fm ≤ max_fraction_bits → own_lift (product_of t l (pass_of p) (node_of k)) F fm fo f r ≡ own_lift (cut_to (cut_at t l p k)) F fm fo f r
  own_number F fm fo f r a b = as_number (λ q. own_lift q F fm fo f r) (own_wide max_product_bits F fm fo f r (omega arith))

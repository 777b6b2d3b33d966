use Prim.Native.Nat.{ℕ, ◌+◌, ◌-◌, ◌<◌}
use mathlib.Core.List.{List}
use lib.ListN.{get_or, take, drop}
use Rattle.std.proofs.lemmas.List.{get_or-take, get_or-drop}
use mathlib.Core.Path.{◌≡◌, sym, ◌∙◌, ap}
use native.Mathlib.Omega.{arith}
use Rattle.width_table.specs.Table.{max_product_bits}
use Rattle.width_table.specs.Readers.{cut_at, cut_none}
use Rattle.width_table.specs.Limits.{form_levels}
use Rattle.precision.specs.ProductReads.{by_product, cut_held}
use Rattle.precision.proofs.PassAt.products.Goals as goal

pub product_place-at-requires : goal.product_place-at-requires
product_place-at-requires c =
    let h = c.args.self.now.place in
    omega (arith, h.level_from, h.level_to, h.pass, form_levels c.args.self.now.table.now h.form)

-- what is copied
part : (at n : ℕ) (products new : List ℕ) → new ≡ take n (drop at products) → (i : ℕ) → i < n → get_or new i 0 ≡ get_or products (at + i) 0
part at n products new e i h = ap (λ (l : List ℕ). get_or l i 0) e ∙ get_or-take n (drop at products) i 0 h ∙ get_or-drop at products i 0

pub returns-then-self : goal.returns-then-self
returns-then-self c =
    let h = c.args.self.now.place in
    let at = c.product_place-at.result in
    let is = c.product_place-at.ensures.0 in
    λ k i. part at _ c.args.self.now.table.now.products _ c.copy_from_slice.ensures.after (k - 1) (omega arith) ∙ cut_held h k i c.if-self.true (at + (k - 1)) (omega (arith, is))

pub returns-else-self : goal.returns-else-self
returns-else-self c =
    let p = c.args.self.now in
    let none : (k : ℕ) → max_product_bits ≡ cut_at p.table.now p.level p.pass k = λ k. sym (cut_none p.table.now p.level p.pass k c.if-self.false) in
    by_product _ (none 1) (none 2) (none 3) (none 4)

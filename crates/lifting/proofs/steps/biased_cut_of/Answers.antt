-- `lifting::steps::biased_cut_of` meets its contract: the sum of the biased own value and the biased product, cut, is the step's sum, shifted and unbiased.
use mathlib.Core.Path.{◌≡◌, sym, ap, ◌∙◌}
use mathlib.Core.Bool.{Bool}
use Prim.Native.Nat.{ℕ, ◌+◌, ◌*◌, ◌/◌, ◌%◌, ◌^◌, ◌<◌, ◌≤◌}
use native.Mathlib.Omega.{arith}
use native.Mathlib.Nat.{div-le_self}
use lib.IntN.{ℤ, pos, ◌-ℤ◌}
use mir.Syntax.{w32, w64}
use mir.Val.{SFits}
use mir.Facts.{to_z-of_z}
use Rattle.lifting.specs.declared.CutForm.{CutForm}
use Rattle.lifting.specs.Forms.{cut_step}
use Rattle.lifting.specs.Steps.{Safe, applied, signed_sum}
use Rattle.slices.specs.Biased.{biased}
use Rattle.lifting.specs.BiasedCut.{biased_cut_is, whole_small, product_small, cut_base_small}
use Rattle.slices.specs.SignedRuns.{back, got, fits_at}
use Rattle.lifting.proofs.Signed.{power_factor}
use Rattle.lifting.proofs.steps.biased_cut_of.Goals as goal

-- of the biased product p, its part q and the biased own value b
module _ (down : Bool) (f : CutForm) {own x y : ℤ} {p : ℕ} (safe : Safe (cut_step down f) own x y) (fx : SFits w32 x) (fy : SFits w32 y)
    (product : p ≡ f.c * biased (signed_sum down (back w32 x) (back w32 y)) + f.offset) where
  whole : p ≡ f.c * biased (signed_sum down x y) + f.offset
  whole = product ∙ (λ u. f.c * biased (signed_sum down (to_z-of_z fx u) (to_z-of_z fy u)) + f.offset)

  small : {q b : ℕ} → q ≤ p → b < 4294967296 → (1 * 2 ^ f.k) % 2 ^ 32 * b + q < 9223372036854775808
  small {q} {b} part few =
      let k = power_factor f.k safe.few in
      whole_small _ b q p (omega (arith, k.0, k.1)) few part (omega (arith, whole, product_small safe))

  -- the number v that is shifted and unbiased is the step's
  value : {q b t : ℕ} {v : ℤ} → SFits w32 own → q ≡ p / 2 ^ f.first * 2 ^ f.up → b ≡ biased (back w32 own) → t ≡ (1 * 2 ^ f.k) % 2 ^ 32 * b + q
      → v ≡ pos (t / 2 ^ f.cut) -ℤ pos f.base → v ≡ applied (cut_step down f) own x y
  value {t} fo part bias sum e =
      let total : t ≡ 2 ^ f.k * biased own + (f.c * biased (signed_sum down x y) + f.offset) / 2 ^ f.first * 2 ^ f.up =
      sum ∙ (λ u. (power_factor f.k safe.few).0 u * (bias ∙ ap biased (to_z-of_z fo)) u + (part ∙ ap (λ (n : ℕ). n / 2 ^ f.first * 2 ^ f.up) whole) u) in
      e ∙ ap (λ (n : ℕ). pos (n / 2 ^ f.cut) -ℤ pos f.base) total
      ∙ sym (biased_cut_is down f.k f.c f.offset f.first f.up f.base f.cut safe.mid safe.tied safe.even own x y fo safe.signedly.sides)

pub fused-requires : goal.fused-requires
fused-requires c = omega (arith, small c.args.down c.args.form c.requires c.ranges.x c.ranges.y c.product.ensures.0 c.realigned-part.ensures.1 c.bias.type_inv)

pub shifted_unbiased-requires : goal.shifted_unbiased-requires
shifted_unbiased-requires c =
    let l = small c.args.down c.args.form c.requires c.ranges.x c.ranges.y c.product.ensures.0 c.realigned-part.ensures.1 c.bias.type_inv in
    (c.requires.signedly.short, omega (arith, div-le_self c.fused.result (2 ^ c.args.form.cut), c.fused.ensures, l), cut_base_small c.requires)

pub narrow-requires : goal.narrow-requires
narrow-requires c =
    let is = value c.args.down c.args.form c.requires c.ranges.x c.ranges.y c.product.ensures.0 c.ranges.own c.realigned-part.ensures.0 c.bias.ensures c.fused.ensures c.shifted_unbiased.ensures in
    fits_at (got w64 c.shifted_unbiased.type_inv is) c.requires.signedly.result

pub returns : goal.returns
returns c =
    let is = value c.args.down c.args.form c.requires c.ranges.x c.ranges.y c.product.ensures.0 c.ranges.own c.realigned-part.ensures.0 c.bias.ensures c.fused.ensures c.shifted_unbiased.ensures in
    got w32 c.narrow.type_inv (c.narrow.ensures ∙ got w64 c.shifted_unbiased.type_inv is)

-- `lifting::steps::combined_of` meets its contract: the sum of biased products, shifted and unbiased, is the shifted sum.
use mathlib.Core.Path.{◌≡◌, sym, ap, ◌∙◌}
use mathlib.Core.Bool.{Bool}
use Prim.Native.Nat.{ℕ, ◌+◌, ◌*◌, ◌/◌, ◌%◌, ◌^◌}
use native.Mathlib.Omega.{arith}
use lib.IntN.{ℤ, pos, ◌-ℤ◌}
use mir.Syntax.{w32, w64}
use mir.Val.{SFits}
use mir.Facts.{to_z-of_z}
use Rattle.lifting.specs.declared.BiasedForm.{BiasedForm}
use Rattle.lifting.specs.Forms.{combined_step}
use Rattle.lifting.specs.Steps.{Safe, applied, signed_sum}
use Rattle.slices.specs.Biased.{biased}
use Rattle.lifting.specs.Bias.{combined_is, fused_small, cut_small, base_small}
use Rattle.slices.specs.SignedRuns.{back, got, fits_at}
use Rattle.lifting.proofs.Signed.{power_factor}
use Rattle.lifting.proofs.steps.combined_of.Goals as goal

-- of the product p, the biased own value b and the sum t, the number v is the step's
value : (down : Bool) (f : BiasedForm) {own x y v : ℤ} {p b t : ℕ} → Safe (combined_step down f) own x y → SFits w32 own → SFits w32 x → SFits w32 y
    → p ≡ f.c * biased (signed_sum down (back w32 x) (back w32 y)) + f.offset → b ≡ biased (back w32 own) → t ≡ (1 * 2 ^ f.by) % 2 ^ 32 * b + p
    → v ≡ pos (t / 2 ^ f.cut) -ℤ pos f.base → v ≡ applied (combined_step down f) own x y
value down f {own} {x} {y} {t} safe fo fx fy product bias sum e =
    let part = product ∙ (λ u. f.c * biased (signed_sum down (to_z-of_z fx u) (to_z-of_z fy u)) + f.offset) in
    let total : t ≡ 2 ^ f.by * biased own + (f.c * biased (signed_sum down x y) + f.offset) =
    sum ∙ (λ u. (power_factor f.by safe.few).0 u * (bias ∙ ap biased (to_z-of_z fo)) u + part u) in
    e ∙ ap (λ (n : ℕ). pos (n / 2 ^ f.cut) -ℤ pos f.base) total ∙ sym (combined_is down f.by f.c f.offset f.base f.cut safe.tied own x y fo safe.sides)

pub fused-requires : goal.fused-requires
fused-requires c =
    let k = power_factor c.args.form.by c.requires.few in
    fused_small ((1 * 2 ^ c.args.form.by) % 2 ^ 32) c.bias.result c.product-part.result 13835058055282163712 c.bias.type_inv c.product-part.ensures.1 (omega (arith, k.0, k.1))

pub shifted_unbiased-requires : goal.shifted_unbiased-requires
shifted_unbiased-requires c =
    let p = c.requires in
    let f = c.args.form in (
      p.short,
      cut_small c.fused.result f.cut c.fused.type_inv p.some,
      base_small ((2 ^ f.by + f.c) * 2147483648 + f.offset) f.base f.cut (omega (arith, (power_factor f.by p.few).1, p.room, p.more)) p.some p.tied,
    )

pub narrow-requires : goal.narrow-requires
narrow-requires c =
    let is = value c.args.down c.args.form c.requires c.ranges.own c.ranges.x c.ranges.y c.product-part.ensures.0 c.bias.ensures c.fused.ensures c.shifted_unbiased.ensures in
    fits_at (got w64 c.shifted_unbiased.type_inv is) c.requires.result

pub returns : goal.returns
returns c =
    let is = value c.args.down c.args.form c.requires c.ranges.own c.ranges.x c.ranges.y c.product-part.ensures.0 c.bias.ensures c.fused.ensures c.shifted_unbiased.ensures in
    got w32 c.narrow.type_inv (c.narrow.ensures ∙ got w64 c.shifted_unbiased.type_inv is)

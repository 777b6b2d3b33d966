-- `lifting::steps::separate_of` meets its contract: the biased product, shifted and unbiased, is the shifted product.
use mathlib.Core.Path.{◌≡◌, sym, ap, ap₂, ◌∙◌}
use Prim.Native.Nat.{ℕ, ◌+◌, ◌*◌, ◌/◌, ◌^◌}
use native.Mathlib.Omega.{arith}
use lib.IntN.{ℤ, pos, ◌+ℤ◌, ◌-ℤ◌, ◌*ℤ◌}
use mir.Syntax.{w32, w64}
use mir.Facts.{to_z-of_z}
use Rattle.lifting.specs.Steps.{scaled, signed, signed_sum}
use Rattle.slices.specs.Biased.{biased}
use Rattle.lifting.specs.Bias.{separate_is, cut_small, base_small}
use Rattle.slices.specs.SignedRuns.{back, got, fits_at}
use Rattle.lifting.proofs.steps.separate_of.Goals as goal

pub shifted_unbiased-part-requires : goal.shifted_unbiased-part-requires
shifted_unbiased-part-requires c = (omega (arith, c.requires.short), cut_small c.product.result c.args.form.cut c.product.type_inv c.requires.some, base_small (c.args.form.c * 2147483648) c.args.form.base c.args.form.cut (omega (arith, c.requires.room)) c.requires.some c.requires.tied)

pub moved-requires : goal.moved-requires
moved-requires c =
    let value : let a = c.args in back w32 c.scaled_up.result +ℤ back w64 c.shifted_unbiased-part.result ≡ scaled (a.form.cut + a.form.by) (signed a.down a.form.c) a.form.cut a.own a.x a.y =
    let part : c.product.result ≡ c.args.form.c * biased (signed_sum c.args.down c.args.x c.args.y) + 0 =
    c.product.ensures.0 ∙ (λ u. c.args.form.c * biased (signed_sum c.args.down (to_z-of_z c.ranges.x u) (to_z-of_z c.ranges.y u)) + 0) in
    ap₂ ◌+ℤ◌ (got w32 c.scaled_up.type_inv (c.scaled_up.ensures ∙ ap (λ (z : ℤ). z *ℤ pos (2 ^ c.args.form.by)) (to_z-of_z c.ranges.own)))
    (got w64 c.shifted_unbiased-part.type_inv (c.shifted_unbiased-part.ensures ∙ ap (λ (n : ℕ). pos (n / 2 ^ c.args.form.cut) -ℤ pos c.args.form.base) part))
    ∙ sym (separate_is c.args.down c.args.form.by c.args.form.c c.args.form.base c.args.form.cut c.requires.tied c.args.own c.args.x c.args.y c.requires.sides) in
    fits_at value c.requires.result

pub returns : goal.returns
returns c =
    let value : let a = c.args in back w32 c.scaled_up.result +ℤ back w64 c.shifted_unbiased-part.result ≡ scaled (a.form.cut + a.form.by) (signed a.down a.form.c) a.form.cut a.own a.x a.y =
    let part : c.product.result ≡ c.args.form.c * biased (signed_sum c.args.down c.args.x c.args.y) + 0 =
    c.product.ensures.0 ∙ (λ u. c.args.form.c * biased (signed_sum c.args.down (to_z-of_z c.ranges.x u) (to_z-of_z c.ranges.y u)) + 0) in
    ap₂ ◌+ℤ◌ (got w32 c.scaled_up.type_inv (c.scaled_up.ensures ∙ ap (λ (z : ℤ). z *ℤ pos (2 ^ c.args.form.by)) (to_z-of_z c.ranges.own)))
    (got w64 c.shifted_unbiased-part.type_inv (c.shifted_unbiased-part.ensures ∙ ap (λ (n : ℕ). pos (n / 2 ^ c.args.form.cut) -ℤ pos c.args.form.base) part))
    ∙ sym (separate_is c.args.down c.args.form.by c.args.form.c c.args.form.base c.args.form.cut c.requires.tied c.args.own c.args.x c.args.y c.requires.sides) in
    got w32 c.moved.type_inv (c.moved.ensures ∙ value)

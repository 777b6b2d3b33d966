-- `lifting::steps::biased_by` meets its contract: the biased product, shifted and unbiased, is the shifted product.
use mathlib.Core.Path.{◌≡◌, sym, ap, ◌∙◌}
use Prim.Native.Nat.{ℕ, ◌+◌, ◌*◌, ◌/◌, ◌^◌}
use native.Mathlib.Omega.{arith}
use lib.IntN.{pos, ◌-ℤ◌, ◌*ℤ◌}
use lib.Signed.{shr_z}
use mir.Syntax.{w32, w64}
use mir.Facts.{to_z-of_z}
use Rattle.slices.specs.Biased.{biased}
use Rattle.lifting.specs.Bias.{padded_is, fused_small, cut_small, base_small}
use Rattle.slices.specs.SignedRuns.{got, fits_at}
use Rattle.lifting.proofs.steps.biased_by.Goals as goal

pub fused-requires : goal.fused-requires
fused-requires c = fused_small c.args.form.c c.bias.result c.args.form.offset 4611686018427387904 c.bias.type_inv c.requires.more (omega (arith, c.requires.room))

pub shifted_unbiased-requires : goal.shifted_unbiased-requires
shifted_unbiased-requires c = (c.requires.short, cut_small c.fused.result c.args.form.cut c.fused.type_inv c.requires.some, base_small (c.args.form.c * 2147483648 + c.args.form.offset) c.args.form.base c.args.form.cut (omega (arith, c.requires.room, c.requires.more)) c.requires.some c.requires.tied)

pub narrow-requires : goal.narrow-requires
narrow-requires c =
    let value : let a = c.args in c.shifted_unbiased.result ≡ shr_z (pos a.form.c *ℤ a.x) (2 ^ a.form.cut) =
    c.shifted_unbiased.ensures
    ∙ ap (λ (n : ℕ). pos (n / 2 ^ c.args.form.cut) -ℤ pos c.args.form.base) (c.fused.ensures ∙ ap (λ (n : ℕ). c.args.form.c * n + c.args.form.offset) (c.bias.ensures ∙ ap biased (to_z-of_z c.ranges.x)))
    ∙ sym (padded_is c.args.form.c c.args.form.offset c.args.form.base c.args.form.cut c.requires.tied c.args.x c.ranges.x) in
    fits_at (got w64 c.shifted_unbiased.type_inv value) c.requires.result

pub returns : goal.returns
returns c =
    let value : let a = c.args in c.shifted_unbiased.result ≡ shr_z (pos a.form.c *ℤ a.x) (2 ^ a.form.cut) =
    c.shifted_unbiased.ensures
    ∙ ap (λ (n : ℕ). pos (n / 2 ^ c.args.form.cut) -ℤ pos c.args.form.base) (c.fused.ensures ∙ ap (λ (n : ℕ). c.args.form.c * n + c.args.form.offset) (c.bias.ensures ∙ ap biased (to_z-of_z c.ranges.x)))
    ∙ sym (padded_is c.args.form.c c.args.form.offset c.args.form.base c.args.form.cut c.requires.tied c.args.x c.ranges.x) in
    got w32 c.narrow.type_inv (c.narrow.ensures ∙ got w64 c.shifted_unbiased.type_inv value)

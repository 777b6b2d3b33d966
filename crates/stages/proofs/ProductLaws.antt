-- Laws of product widths (document 02, job 7): without a width the own error is that of document 01; a width of F + fm bits or more cuts
-- nothing; the loss as a power of two, and one unit of 2^-32 for a width above 32.
use Rattle.std.specs.Prelude.{ℕ, zero, suc, ◌+◌, ◌*◌, ◌-◌, ◌^◌, ◌<◌, ◌≤◌, max, min, ◌≡◌, Bool, true, false, ℤ, pos, ◌+ℤ◌, ◌*ℤ◌}
use Rattle.std.proofs.Common.{◌∙◌, ap, arith, div-mul-le_self, lt_of_mul-lt-mul_right, le_antisymm, pow_pos, pow_mono}
use Rattle.numbers.specs.Laws.{*ℤ-one-r}
use Rattle.numbers.specs.Tests.{ltb-true, ltb-false}
use Rattle.exact.specs.Fractions.{Frac}
use Rattle.numbers.specs.Ceiling.{up_div, up_div_most, up_exact}
use Rattle.stages.specs.Stages.{uncut, cut_to}
use Rattle.stages.specs.Fixed.{nearest, cut, cut_product, step}
use Rattle.stages.specs.Rule.{loss, product_loss, own_lift}
use Rattle.stages.proofs.Own.{cut_whole, pow_split}

pub own_uncut : (F fm fo f r : ℕ) → own_lift uncut F fm fo f r ≡ up_div r (2 ^ F) + loss f (max fo (F + fm))
unfolding own_lift product_loss
own_uncut F fm fo f r = omega arith

-- ---- a width that cuts nothing

bits_wide : (fp full : ℕ) → full ≤ fp → min fp full ≡ full
bits_wide fp full h = omega arith

cut_same : (full : ℕ) (z : ℤ) → cut full full z ≡ z
cut_same full z =
    let o : full - full ≡ 0 = omega arith in
    cut_whole full full z (omega arith) ∙ ap (λ (k : ℕ). z *ℤ pos (2 ^ k)) o ∙ *ℤ-one-r z

product_wide : (fp full : ℕ) (z : ℤ) → full ≤ fp → cut_product (cut_to fp) full z ≡ z
unfolding cut_product
product_wide fp full z h = ap (λ (k : ℕ). cut full k z) (bits_wide fp full h) ∙ cut_same full z

pub step_wide : (fp : ℕ) (c : Frac) (F fm fo f : ℕ) (own x y : ℤ) → F + fm ≤ fp → step (cut_to fp) c F fm fo f own x y ≡ step uncut c F fm fo f own x y
unfolding step cut_product nearest
step_wide fp c F fm fo f own x y h =
    let sum : ℕ → ℤ → ℤ = λ product z. cut (max fo product) f (own *ℤ pos (2 ^ (max fo product - fo)) +ℤ z *ℤ pos (2 ^ (max fo product - product))) in
    ap (λ (k : ℕ). sum k (cut_product (cut_to fp) (F + fm) (nearest c F *ℤ (x +ℤ y)))) (bits_wide fp (F + fm) h)
    ∙ ap (sum (F + fm)) (product_wide fp (F + fm) (nearest c F *ℤ (x +ℤ y)) h)

pub loss_wide : (fp full : ℕ) → full ≤ fp → product_loss (cut_to fp) full ≡ 0
unfolding product_loss
loss_wide fp full h = ap (λ (t : Bool). elim t [ true ↦ up_div (2 ^ 32) (2 ^ fp) | false ↦ 0 ]) (ltb-false fp full h)

pub own_wide : (fp F fm fo f r : ℕ) → F + fm ≤ fp → own_lift (cut_to fp) F fm fo f r ≡ own_lift uncut F fm fo f r
unfolding own_lift product_loss
own_wide fp F fm fo f r h =
    ap (λ (k : ℕ). up_div r (2 ^ F) + k + loss f (max fo (min fp (F + fm)))) (loss_wide fp (F + fm) h)
    ∙ ap (λ (k : ℕ). up_div r (2 ^ F) + 0 + loss f (max fo k)) (bits_wide fp (F + fm) h)

-- ---- the loss as a number

pub loss_narrow : (fp full : ℕ) → fp < full → product_loss (cut_to fp) full ≡ up_div (2 ^ 32) (2 ^ fp)
unfolding product_loss
loss_narrow fp full h = ap (λ (t : Bool). elim t [ true ↦ up_div (2 ^ 32) (2 ^ fp) | false ↦ 0 ]) (ltb-true fp full h)

pub loss_power : (fp full : ℕ) → fp < full → fp ≤ 32 → product_loss (cut_to fp) full ≡ 2 ^ (32 - fp)
loss_power fp full h small =
    loss_narrow fp full h
    ∙ ap (λ (k : ℕ). up_div k (2 ^ fp)) (pow_split fp 32 small)
    ∙ up_exact (2 ^ (32 - fp)) (2 ^ fp) (pow_pos fp)

up_unit : (a d : ℕ) → 0 < a → a ≤ d → up_div a d ≡ 1
unfolding up_div
up_unit a d z k = le_antisymm (last (lt_of_mul-lt-mul_right d (omega (arith, div-mul-le_self (a + (d - 1)) d)))) (some _ (up_div_most a d (omega arith)))
  where
    last : {u : ℕ} → u < 2 → u ≤ 1
    last i = omega arith

    some : (u : ℕ) → a ≤ u * d → 1 ≤ u
    some zero i = absurd (omega arith)
    some (suc u) i = omega arith

pub loss_unit : (fp full : ℕ) → fp < full → 32 ≤ fp → product_loss (cut_to fp) full ≡ 1
loss_unit fp full h big = loss_narrow fp full h ∙ up_unit (2 ^ 32) (2 ^ fp) (pow_pos 32) (pow_mono big)

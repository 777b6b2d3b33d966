-- A fixed-point stage at an end of a line is the stage of the one neighbour twice.
use Rattle.std.specs.Prelude.{ℕ, ◌+◌, ◌-◌, ◌^◌, max, ◌≡◌, refl, ℤ, pos, neg_ℤ, ◌+ℤ◌, ◌*ℤ◌}
use Rattle.std.proofs.Common.{ap}
use Rattle.numbers.specs.Laws.{twice_times}
use Rattle.lines.specs.Cases.{Reduced}
use Rattle.exact.specs.Fractions.{Frac, whole, ◌⊗◌}
use Rattle.exact.specs.Exact.{alpha}
use Rattle.stages.specs.Stages.{Product, product_bits}
use Rattle.stages.specs.Fixed.{nearest, cut, cut_product, step, step_end}

pub step_end_lem : (p : Product) (c : Frac) (F fm fo f : ℕ) → Reduced ◌≡◌ (step p c F fm fo f) (step_end p c F fm fo f)
unfolding step step_end
step_end_lem p c F fm fo f own x =
    let product : ℕ = product_bits p (F + fm) in
    let full : ℕ = max fo product in
    ap (λ (z : ℤ). cut full f (own *ℤ pos (2 ^ (full - fo)) +ℤ cut_product p (F + fm) z *ℤ pos (2 ^ (full - product)))) (twice_times (nearest c F) x)

-- The order matters: alpha at 24 bits, doubled after it was rounded and before.
pub rounded_doubled : (pos 2 *ℤ nearest alpha 24 ≡ neg_ℤ (pos 53221836)) × (nearest (whole (pos 2) ⊗ alpha) 24 ≡ neg_ℤ (pos 53221837))
unfolding nearest whole ◌⊗◌
rounded_doubled = (refl, refl)

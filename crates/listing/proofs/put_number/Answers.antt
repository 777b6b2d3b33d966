-- A size below 2^31 + 1 has at most ten digits.
use mathlib.Core.Path.{◌≡◌, sym, ◌∙◌, ap}
use mathlib.Core.List.{◌∷◌}
use Prim.Native.Nat.{ℕ, ◌≤◌}
use native.Mathlib.Omega.{arith}
use lib.IntN.{ℤ, pos, nat_abs}
use lib.ListN.{length}
use lib.Signed.{lt_z}
use mir.Syntax.{w32}
use mir.Val.{SFits}
use mir.Facts.{to_z-of_z}
use Rattle.numbers.specs.Auto.{rd}
use Rattle.listing.specs.Listing.{natural, minus}
use Rattle.listing.specs.Writing.{put_length, put_same, put_then}
use Rattle.listing.specs.TextLaws.{natural_short, decimal_below, decimal_above, size_of_mag}
use Rattle.listing.proofs.put_number.Goals as goal

-- the size of z as it is read, and its digits
size : (z : ℤ) → SFits w32 z → (n : ℕ) → n ≡ nat_abs (rd w32 z) → (n ≡ nat_abs z) × (length (natural n) ≤ 10)
size z fits n read =
    let e : n ≡ nat_abs z = read ∙ ap nat_abs (to_z-of_z fits) in
    (e, natural_short 9 _ (omega (arith, e, size_of_mag z fits.sfits)))

pub put_natural-requires : goal.put_natural-requires
put_natural-requires c = omega (arith, (size c.args.z c.ranges.z _ c.unsigned_abs-n.ensures.value).1, c.put-next.ensures.end, put_length c.put-next.ensures)

pub put_natural-requires-2 : goal.put_natural-requires-2
put_natural-requires-2 c = omega (arith, (size c.args.z c.ranges.z _ c.unsigned_abs-n.ensures.value).1)

pub returns-then-z-lt0 : goal.returns-then-z-lt0
returns-then-z-lt0 c =
    let e = size c.args.z c.ranges.z _ c.unsigned_abs-n.ensures.value in (
      put_same _ _ (put_then c.put-next.ensures c.put_natural.ensures)
          (ap (λ (k : ℕ). minus ∷ natural k) e.0 ∙ sym (decimal_below _ (ap (λ (z : ℤ). lt_z z (pos 0)) (sym (to_z-of_z c.ranges.z)) ∙ c.if-z-lt0.true))),
      omega (arith, e.1, c.put-next.ensures.end, c.put_natural.ensures.end),
    )

pub returns : goal.returns
returns c =
    let e = size c.args.z c.ranges.z _ c.unsigned_abs-n.ensures.value in (
      put_same _ _ c.put_natural-2.ensures (ap natural e.0 ∙ sym (decimal_above _ (ap (λ (z : ℤ). lt_z z (pos 0)) (sym (to_z-of_z c.ranges.z)) ∙ c.if-z-lt0.false))),
      omega (arith, e.1, c.put_natural-2.ensures.end),
    )

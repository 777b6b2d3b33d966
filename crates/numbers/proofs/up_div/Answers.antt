-- `numbers::up_div` meets its contract.
use Rattle.std.specs.Prelude.{◌≡◌, ℕ, ◌+◌, ◌*◌, ◌-◌, ◌/◌, ◌%◌, ◌<◌, ◌≤◌, min}
use Rattle.std.proofs.Common.{◌∙◌, arith, ap, sym, pow_pos, mul-le-mul_left}
use Rattle.std.proofs.Math.Decide.{ℕ_discrete}
use Rattle.std.proofs.lemmas.Nat.{div-mul-add, div-add-mod'}
use Rattle.std.proofs.Math.Nat.{mod-lt}
use Rattle.numbers.specs.Ceiling.{up_div}
use Rattle.numbers.proofs.up_div.Goals as goal

-- rounded up by the remainder, or by what is added before the division
module _ (x d : ℕ) (z : 0 < d) where
  whole : (q r : ℕ) → q * d + r ≡ x → 1 ≤ r → r < d → (x + (d - 1)) / d ≡ q + 1
  whole q r e some h = ap (λ (n : ℕ). n / d) (omega (arith, e)) ∙ div-mul-add (q + 1) d (r - 1) (omega arith)

  exact : (q r : ℕ) → q * d + r ≡ x → r ≡ 0 → (x + (d - 1)) / d ≡ q
  exact q r e none = ap (λ (n : ℕ). n / d) (omega (arith, e)) ∙ div-mul-add q d (d - 1) (omega arith)

  ceiling : (x + (d - 1)) / d ≡ x / d + min 1 (x % d)
  ceiling = go (ℕ_discrete (x % d) 0)
    where
      go : Dec (x % d ≡ 0) → (x + (d - 1)) / d ≡ x / d + min 1 (x % d)
      go (yes e) = exact (x / d) (x % d) (div-add-mod' x d) e ∙ omega (arith, e)
      go (no f) = let some : 1 ≤ x % d = omega (arith, f) in whole (x / d) (x % d) (div-add-mod' x d) some (mod-lt x z) ∙ omega (arith, some)

-- rounded up too, a quotient is no larger than what is divided
no_larger : (x d q r : ℕ) → 0 < d → q * d + r ≡ x → q + min 1 r ≤ x
no_larger x d q r z e = omega (arith, mul-le-mul_left q z)

pub returns : goal.returns
unfolding up_div
returns c =
    let x = c.args.x in
    let d = c.power.result in
    let z : 0 < d = omega (arith, c.power.ensures, pow_pos c.args.bits) in (
      c.div_ceil.ensures ∙ sym (ceiling x d z) ∙ ap (λ (d : ℕ). (x + (d - 1)) / d) c.power.ensures,
      omega (arith, c.div_ceil.ensures, no_larger x d (x / d) (x % d) z (div-add-mod' x d)),
    )

pub div_ceil-requires : goal.div_ceil-requires
div_ceil-requires c = omega (arith, c.power.ensures, pow_pos c.args.bits)

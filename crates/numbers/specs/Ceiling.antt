-- Division by a positive whole number, rounded up.
use Rattle.std.specs.Prelude.{◌≡◌, Bool, ℕ, zero, suc, ◌+◌, ◌*◌, ◌-◌, ◌/◌, ◌^◌, ◌<◌, ◌≤◌}
use Rattle.std.proofs.Common.{arith, div-mul-le_self, lt_of_mul-lt-mul_right, le_of_mul-le-mul_right, le_antisymm, mul-le-mul_left, mul-le-mul_right, pow_pos, pow_mono}
use Rattle.std.proofs.Math.Nat.{lt-div-mul-add}
use Rattle.numbers.specs.Tests.{by_leb}

-- a / m rounded up
unfoldable pub up_div : ℕ → ℕ → ℕ
up_div a m = (a + (m - 1)) / m

-- a division rounded up loses nothing
pub up_div_most : (a m : ℕ) → 0 < m → a ≤ up_div a m * m
unfolding up_div
up_div_most a m z = omega (arith, lt-div-mul-add {a = a + (m - 1)} z)

-- it is the least that does so
pub up_least : (a d v : ℕ) → 0 < d → a ≤ v * d → up_div a d ≤ v
unfolding up_div
up_least a d v z h = last (lt_of_mul-lt-mul_right d (omega (arith, div-mul-le_self (a + (d - 1)) d)))
  where
    last : {u : ℕ} → u < suc v → u ≤ v
    last i = omega arith

-- of two equal fractions, rounded up, neither is the larger
pub up_same : (a d b e : ℕ) → 0 < d → 0 < e → a * e ≡ b * d → up_div a d ≤ up_div b e
up_same a d b e zd ze h = up_least a d (up_div b e) zd (le_of_mul-le-mul_right {m = a} {n = up_div b e * d} {k = e} (omega (arith, h, mul-le-mul_right d (up_div_most b e ze))) ze)

-- nothing is added to a whole quotient
pub up_exact : (q d : ℕ) → 0 < d → up_div (q * d) d ≡ q
unfolding up_div
up_exact q d z = le_antisymm (last (lt_of_mul-lt-mul_right d (omega (arith, div-mul-le_self (q * d + (d - 1)) d)))) (least (up_div_most (q * d) d z))
  where
    last : {u : ℕ} → u < suc q → u ≤ q
    last i = omega arith

    least : {u : ℕ} → q * d ≤ u * d → q ≤ u
    least {u} h = last' (lt_of_mul-lt-mul_right d (omega arith))
      where
        last' : q < suc u → q ≤ u
        last' i = omega arith

-- a division by a power of two above 1 at least halves
pub up_half : (a k : ℕ) → 1 ≤ k → 2 * up_div a (2 ^ k) ≤ a + 1
unfolding up_div
up_half a k h = law (2 ^ k) ((a + (2 ^ k - 1)) / 2 ^ k) (pow_mono h) (div-mul-le_self (a + (2 ^ k - 1)) (2 ^ k))
  where
    law : (m q : ℕ) → 2 ^ 1 ≤ m → q * m ≤ a + (m - 1) → 2 * q ≤ a + 1
    law m zero i j = omega arith
    law m (suc q) i j = omega (arith, mul-le-mul_left q i)

-- a division rounded up gives no more than what is divided
pub up_most : (a k : ℕ) → up_div a (2 ^ k) ≤ a
unfolding up_div
up_most a k = law (2 ^ k) ((a + (2 ^ k - 1)) / 2 ^ k) (pow_pos k) (div-mul-le_self (a + (2 ^ k - 1)) (2 ^ k))
  where
    law : (m q : ℕ) → 0 < m → q * m ≤ a + (m - 1) → q ≤ a
    law m zero i j = omega arith
    law zero (suc q) i j = elim i [ ]
    law (suc m) (suc q) i j = by_leb (λ (x : Bool). suc q ≤ a) (suc q) a (λ h. h) (λ h. absurd (omega (arith, mul-le-mul_right m h)))

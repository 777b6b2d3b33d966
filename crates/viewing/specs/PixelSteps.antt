-- A pixel as the code finds it: the part below a grey is cut off first, then the grey is limited to the depth.
use Rattle.std.specs.Int.{int_max, int_min}
use Rattle.std.proofs.lemmas.Int.{ints, clamps}
use Rattle.std.specs.Prelude.{ℕ, ◌+◌, ◌*◌, ◌-◌, ◌^◌, ◌<◌, ◌≤◌, min, ◌≡◌, ℤ, pos, negsuc, ◌+ℤ◌, ◌-ℤ◌, ◌*ℤ◌, ◌≤ℤ◌, ◌<ℤ◌, nat_abs}
use Rattle.std.proofs.Common.{sym, ◌∙◌, ap, subst₂, pow_pos, pow_mono, pow-add, mul-pos, mul-le-mul_left, leb→le, ltb→lt}
use native.Mathlib.Omega.{arith}
use Rattle.numbers.specs.Floor.{floor_div, floor_≤, floor_<, floor_unique}
use Rattle.inverse_lifting.specs.Fixed.{node_bits}
use Rattle.numbers.specs.Parts.{positive_part}
use Rattle.numbers.specs.Dif.{by_dif, difs}
use Rattle.width_table.specs.Table.{max_depth}
use Rattle.viewing.specs.View.{grey, pixel}
use Rattle.numbers.specs.Laws.{≤ℤ-not-<ℤ}

-- the limits of a depth
pub largest_some : (B : ℕ) → 1 ≤ 2 ^ B
largest_some B = pow_pos B

pub power_small : (B : ℕ) → B ≤ max_depth → 2 ^ B ≤ 2 ^ 12
power_small B h = pow_mono {i = B} {j = 12} h

-- ---- z limited to 0 .. n - 1

from_less : (x y : ℤ) → (x -ℤ pos 1) <ℤ y → x ≤ℤ y
from_less = by_dif _ λ a b. by_dif _ λ c d. simp difs (omega arith)

to_less : (x y : ℤ) → y ≤ℤ (x -ℤ pos 1) → y <ℤ x
to_less = by_dif _ λ a b. by_dif _ λ c d. simp difs (omega arith)

limit_below : (z : ℤ) (m : ℕ) → z <ℤ pos 0 → 0 ≡ min (positive_part z) m
limit_below (pos k) m h = absurd (≤ℤ-not-<ℤ (pos 0) (pos k) (simp difs (omega arith)) h)
limit_below (negsuc k) m h = omega arith

limit_above : (z : ℤ) (n : ℕ) → 1 ≤ n → (pos n -ℤ pos 1) <ℤ z → n - 1 ≡ min (positive_part z) (n - 1)
limit_above (pos k) n one h = let l = leb→le n k (from_less (pos n) (pos k) h).le in omega arith
limit_above (negsuc k) n one h = absurd (from_less (pos n) (negsuc k) h).le

limit_inside : (z : ℤ) (n : ℕ) → pos 0 ≤ℤ z → z ≤ℤ (pos n -ℤ pos 1) → nat_abs z ≡ min (positive_part z) (n - 1)
limit_inside (pos k) n low h = let l = ltb→lt k n (to_less (pos n) (pos k) h).lt in omega arith
limit_inside (negsuc k) n low h = absurd low.le

module _ (B : ℕ) (v : ℤ) where
  pub pixel_below : grey B v <ℤ pos 0 → 0 ≡ pixel B v
  unfolding pixel
  pixel_below h = limit_below (grey B v) (2 ^ B - 1) h

  pub pixel_above : (pos (2 ^ B) -ℤ pos 1) <ℤ grey B v → 2 ^ B - 1 ≡ pixel B v
  unfolding pixel
  pixel_above h = limit_above (grey B v) (2 ^ B) (pow_pos B) h

  pub pixel_inside : pos 0 ≤ℤ grey B v → grey B v ≤ℤ (pos (2 ^ B) -ℤ pos 1) → nat_abs (grey B v) ≡ pixel B v
  unfolding pixel
  pixel_inside a b = limit_inside (grey B v) (2 ^ B) a b

  pub pixel_small : pixel B v ≤ 2 ^ B - 1
  unfolding pixel
  pixel_small = omega arith

-- z limited to 0 .. m
limited : (z : ℤ) (m : ℕ) → int_max (pos 0) (int_min z (pos m)) ≡ pos (min (positive_part z) m)
limited (pos k) m = omega (arith, ints, clamps)
limited (negsuc k) m = omega (arith, ints, clamps)

-- a pixel is its grey, limited
pub pixel_limited : (B : ℕ) (v : ℤ) → int_max (pos 0) (int_min (grey B v) (pos (2 ^ B - 1))) ≡ pos (pixel B v)
unfolding pixel
pixel_limited B v = limited (grey B v) (2 ^ B - 1)

-- the greatest pixel
pub less_one : (n : ℕ) → 1 ≤ n → pos n -ℤ pos 1 ≡ pos (n - 1)
less_one n h =
    let e : n ≡ n - 1 + 1 = omega arith in
    ap (λ (m : ℕ). pos m -ℤ pos 1) e ∙ law (pos (n - 1))
  where
    law : (z : ℤ) → z +ℤ pos 1 -ℤ pos 1 ≡ z
    law = by_dif _ λ a b. simp difs (omega arith)

-- ---- a value in greys, where the part below a grey is cut off before the middle is added

low_law : (P Q H h : ℕ) (v q : ℤ) → (pos P *ℤ (pos Q *ℤ q)) ≤ℤ (pos P *ℤ (v +ℤ pos h)) → (pos (P * Q) *ℤ (q +ℤ pos H)) ≤ℤ (v *ℤ pos P +ℤ pos (H * (P * Q)) +ℤ pos (P * h))
low_law P Q H h = by_dif _ λ a b. by_dif _ λ c d. simp difs (omega arith)

high_law : (P Q H h : ℕ) → 0 < P → (v q : ℤ) → (pos P *ℤ (v +ℤ pos h +ℤ pos 1)) ≤ℤ (pos P *ℤ (pos Q *ℤ q +ℤ pos Q)) → (v *ℤ pos P +ℤ pos (H * (P * Q)) +ℤ pos (P * h)) <ℤ (pos (P * Q) *ℤ (q +ℤ pos H) +ℤ pos (P * Q))
high_law P Q H h some = by_dif _ λ a b. by_dif _ λ c d. simp difs (omega arith)

times : (D : ℕ) (x y : ℤ) → x ≤ℤ y → (pos D *ℤ x) ≤ℤ (pos D *ℤ y)
times D = by_dif _ λ a b. by_dif _ λ c d. simp difs (λ h. omega (arith, mul-le-mul_left D h))

next : (x y : ℤ) → x <ℤ y → (x +ℤ pos 1) ≤ℤ y
next = by_dif _ λ a b. by_dif _ λ c d. simp difs (omega arith)

pub grey_cut : (B : ℕ) (v : ℤ) → 1 ≤ B → B ≤ max_depth → floor_div (v +ℤ pos (2 ^ (node_bits - B - 1))) (2 ^ (node_bits - B)) +ℤ pos (2 ^ (B - 1)) ≡ grey B v
unfolding grey
grey_cut B v some deep =
    let P = 2 ^ B in
    let Q = 2 ^ (node_bits - B) in
    let h = 2 ^ (node_bits - B - 1) in
    let H = 2 ^ (B - 1) in
    let q = floor_div (v +ℤ pos h) Q in
    let e : node_bits ≡ B + (node_bits - B) = omega arith in
    let f : node_bits - 1 ≡ B + (node_bits - B - 1) = omega arith in
    let at : floor_div (v *ℤ pos P +ℤ pos (H * (P * Q)) +ℤ pos (P * h)) (P * Q) ≡ q +ℤ pos H =
    floor_unique _ _ (P * Q) (mul-pos (pow_pos B) (pow_pos (node_bits - B)))
    (low_law P Q H h v q (times P _ _ (floor_≤ (v +ℤ pos h) Q (pow_pos (node_bits - B)))))
    (high_law P Q H h (pow_pos B) v q (times P _ _ (next _ _ (floor_< (v +ℤ pos h) Q (pow_pos (node_bits - B)))))) in
    sym (subst₂ (λ (N M : ℕ). floor_div (v *ℤ pos P +ℤ pos (H * N) +ℤ pos M) N ≡ q +ℤ pos H) (sym (ap (λ (k : ℕ). 2 ^ k) e ∙ pow-add 2 B (node_bits - B))) (sym (ap (λ (k : ℕ). 2 ^ k) f ∙ pow-add 2 B (node_bits - B - 1))) at)

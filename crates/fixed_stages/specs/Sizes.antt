-- For the code: the sum that a stage forms before its cut is at most 2^58 in magnitude where its operands are in their widths (at most
-- 12 integer bits), whatever the width of its product, so that 64 bits hold it (`sum_size`); so is the product before its cut (`product_size`)
-- and after it (`cut_size`).
use Rattle.std.specs.Prelude.{ℕ, zero, suc, ◌+◌, ◌*◌, ◌-◌, ◌/◌, ◌^◌, ◌<◌, ◌≤◌, max, min, ◌≡◌, Bool, true, ◌&&◌, T, leb, ℤ, pos, negsuc, nat_abs, ◌+ℤ◌, ◌*ℤ◌}
use Rattle.std.proofs.Common.{sym, ◌∙◌, ap, subst, arith, mul-le-mul, mul-le-mul_right, le_trans, div-lt_iff_lt-mul, leb→le, pow-add, pow_pos}
use Rattle.std.proofs.Math.Decide.{dec_lt}
use Rattle.std.proofs.Math.Nat.{pow-le-pow_right}
use Rattle.numbers.specs.Laws.{*ℤ-one-r}
use Rattle.numbers.specs.Floor.{floor_div}
use Rattle.numbers.specs.Abs.{abs_add, abs_mul}
use Rattle.exact.specs.Fractions.{Frac}
use Rattle.width_table.specs.Nodes.{Node, P1, U1, P2, U2, G1, G2}
use Rattle.stages.specs.Stages.{Product, uncut, cut_to, product_bits}
use Rattle.stages.specs.Fixed.{nearest, cut, cut_product}
use Rattle.stages.proofs.Own.{cut_lossy, cut_whole}
use Rattle.fixed_stages.specs.Constants.{constant_of}
use Rattle.numbers.specs.Tests.{both}
use Rattle.width_table.specs.Table.{max_constant_bits, max_fraction_bits}

-- ---- a constant at F bits is at most 2 in magnitude

at_most_two : Frac → ℕ → Bool
at_most_two c zero = true
at_most_two c (suc k) = leb (nat_abs (nearest c (suc k))) (2 ^ (suc k + 1)) && at_most_two c k

tested : (n : Node) → T (at_most_two (constant_of n) max_constant_bits)
unfolding at_most_two nearest
tested P1 = tt
tested U1 = tt
tested P2 = tt
tested U2 = tt
tested G1 = tt
tested G2 = tt

two_at_lem : (c : Frac) (m F : ℕ) → 1 ≤ F → F ≤ m → T (at_most_two c m) → nat_abs (nearest c F) ≤ 2 ^ (F + 1)
unfolding at_most_two
two_at_lem c zero F a b h = absurd (omega arith)
two_at_lem c (suc k) F a b h = go (dec_lt F (suc k)) (λ i. two_at_lem c k F a i parts.1)
  where
    parts : T (leb (nat_abs (nearest c (suc k))) (2 ^ (suc k + 1))) × T (at_most_two c k)
    parts = both (leb (nat_abs (nearest c (suc k))) (2 ^ (suc k + 1))) (at_most_two c k) h

    go : Dec (F < suc k) → (F ≤ k → nat_abs (nearest c F) ≤ 2 ^ (F + 1)) → nat_abs (nearest c F) ≤ 2 ^ (F + 1)
    go (yes i) before = before (omega arith)
    go (no i) before = subst (λ (j : ℕ). nat_abs (nearest c j) ≤ 2 ^ (j + 1)) (omega arith) (leb→le _ _ parts.0)

-- ---- powers of two

times_power : (a i j s : ℕ) → a ≤ 2 ^ i → i + j ≤ s → a * 2 ^ j ≤ 2 ^ s
times_power a i j s h k = le_trans (mul-le-mul_right (2 ^ j) h) (subst (λ (t : ℕ). t ≤ 2 ^ s) (pow-add 2 i j) (pow-le-pow_right (omega arith) k))

product : (a b i j s : ℕ) → a ≤ 2 ^ i → b ≤ 2 ^ j → i + j ≤ s → a * b ≤ 2 ^ s
product a b i j s h k l = le_trans (mul-le-mul h k) (subst (λ (t : ℕ). t ≤ 2 ^ s) (pow-add 2 i j) (pow-le-pow_right (omega arith) l))

twice : (a b i : ℕ) → a ≤ 2 ^ i → b ≤ 2 ^ i → a + b ≤ 2 ^ (i + 1)
twice a b i h k = omega (arith, pow-add 2 i 1)

-- ---- a product's cut

bits_most : (p : Product) (full : ℕ) → product_bits p full ≤ full
bits_most uncut full = omega arith
bits_most (cut_to fp) full = omega arith

pub floor_size : (z : ℤ) (a m : ℕ) → 0 < m → nat_abs z ≤ a * m → nat_abs (floor_div z m) ≤ a
floor_size (pos n) a m h k = last ((div-lt_iff_lt-mul {x = n} {y = suc a} h).1 (omega arith))
  where
    last : n / m < suc a → n / m ≤ a
    last i = omega arith
floor_size (negsuc n) a m h k = (div-lt_iff_lt-mul {x = n} {y = a} h).1 (omega arith)

-- a product of at most the whole number a is cut to no more
pub product_cut : (p : Product) (full a : ℕ) (z : ℤ) → nat_abs z ≤ a * 2 ^ full → nat_abs (cut_product p full z) ≤ a * 2 ^ product_bits p full
unfolding cut_product
product_cut uncut full a z h = h
product_cut (cut_to fp) full a z h = go (dec_lt fp full)
  where
    split : fp < full → 2 ^ full ≡ 2 ^ fp * 2 ^ (full - fp)
    split i = ap (λ (k : ℕ). 2 ^ k) (omega arith) ∙ pow-add 2 fp (full - fp)

    law : (a P Q S : ℕ) → S ≡ P * Q → a * S ≡ a * P * Q
    law a P Q S e = ap (λ (t : ℕ). a * t) e ∙ omega arith

    go : Dec (fp < full) → nat_abs (cut full (min fp full) z) ≤ a * 2 ^ min fp full
    go (yes i) =
        let e : min fp full ≡ fp = omega arith in
        rw e (rw (cut_lossy full fp z i) (floor_size z (a * 2 ^ fp) (2 ^ (full - fp)) (pow_pos (full - fp)) (subst (λ (k : ℕ). nat_abs z ≤ k) (law a (2 ^ fp) (2 ^ (full - fp)) (2 ^ full) (split i)) h)))
    go (no i) =
        let e : min fp full ≡ full = omega arith in
        let o : full - full ≡ 0 = omega arith in
        rw e (subst (λ (y : ℤ). nat_abs y ≤ a * 2 ^ full) (sym (cut_whole full full z (omega arith) ∙ ap (λ (k : ℕ). z *ℤ pos (2 ^ k)) o ∙ *ℤ-one-r z)) h)

module _ (n : Node) (F fm : ℕ) (some : 1 ≤ F) (most : F ≤ max_constant_bits) (small : fm ≤ max_fraction_bits) where
  -- the product of a constant and a sum of two neighbours
  pub product_size : (x y : ℤ) → nat_abs x ≤ 2 ^ (11 + fm) → nat_abs y ≤ 2 ^ (11 + fm) → nat_abs (nearest (constant_of n) F *ℤ (x +ℤ y)) ≤ 2 ^ (13 + F + fm)
  product_size x y hx hy =
      subst (λ (t : ℕ). t ≤ 2 ^ (13 + F + fm)) (sym (abs_mul (nearest (constant_of n) F) (x +ℤ y)))
      (product _ _ (F + 1) (11 + fm + 1) _ (two_at_lem (constant_of n) max_constant_bits F some most (tested n)) (le_trans (abs_add x y) (twice _ _ (11 + fm) hx hy)) (omega arith))

  -- the product after its cut, which may be to any width
  pub cut_size : (p : Product) (x y : ℤ) → nat_abs x ≤ 2 ^ (11 + fm) → nat_abs y ≤ 2 ^ (11 + fm) → nat_abs (cut_product p (F + fm) (nearest (constant_of n) F *ℤ (x +ℤ y))) ≤ 2 ^ (13 + product_bits p (F + fm))
  cut_size p x y hx hy =
      let e : 2 ^ (13 + F + fm) ≡ 2 ^ 13 * 2 ^ (F + fm) = ap (λ (k : ℕ). 2 ^ k) (omega arith) ∙ pow-add 2 13 (F + fm) in
      rw (pow-add 2 13 (product_bits p (F + fm))) (product_cut p (F + fm) (2 ^ 13) _ (subst (λ (k : ℕ). nat_abs (nearest (constant_of n) F *ℤ (x +ℤ y)) ≤ k) e (product_size x y hx hy)))

  -- the whole sum, at the larger of fo and the product's bits, which are at most 44
  pub sum_size : (p : Product) (fo : ℕ) → fo ≤ max_fraction_bits → (own x y : ℤ) → nat_abs own ≤ 2 ^ (11 + fo) → nat_abs x ≤ 2 ^ (11 + fm) → nat_abs y ≤ 2 ^ (11 + fm)
      → nat_abs (own *ℤ pos (2 ^ (max fo (product_bits p (F + fm)) - fo)) +ℤ cut_product p (F + fm) (nearest (constant_of n) F *ℤ (x +ℤ y)) *ℤ pos (2 ^ (max fo (product_bits p (F + fm)) - product_bits p (F + fm)))) ≤ 2 ^ 58
  sum_size p fo small' own x y ho hx hy =
      le_trans (abs_add A B)
      (twice (nat_abs A) (nat_abs B) 57
      (subst (λ (t : ℕ). t ≤ 2 ^ 57) (sym (abs_mul own (pos (2 ^ (full - fo))))) (times_power (nat_abs own) (11 + fo) (full - fo) 57 ho (omega (arith, bits_most p (F + fm)))))
      (subst (λ (t : ℕ). t ≤ 2 ^ 57) (sym (abs_mul K (pos (2 ^ (full - bits))))) (times_power (nat_abs K) (13 + bits) (full - bits) 57 (cut_size p x y hx hy) (omega (arith, bits_most p (F + fm))))))
    where
      bits : ℕ
      bits = product_bits p (F + fm)

      full : ℕ
      full = max fo bits

      K : ℤ
      K = cut_product p (F + fm) (nearest (constant_of n) F *ℤ (x +ℤ y))

      A : ℤ
      A = own *ℤ pos (2 ^ (full - fo))

      B : ℤ
      B = K *ℤ pos (2 ^ (full - bits))

-- Steps by unsigned numbers: a value is biased by 2 ^ 31, and a sum of biased values is shifted and unbiased again.
use Rattle.std.specs.Prelude.{◌≡◌, refl, Bool, true, false, List, [], ◌∷◌, ℕ, zero, suc, ◌+◌, ◌-◌, ◌*◌, ◌/◌, ◌%◌, ◌^◌, ◌<◌, ◌≤◌, ℤ, pos, negsuc, neg_ℤ, nat_abs, ◌+ℤ◌, ◌-ℤ◌, ◌*ℤ◌, T}
use Rattle.std.proofs.Common.{sym, ap, ◌∙◌, subst, arith, add-mul, mod-lt, div-add-mod', mul-div_cancel, mul_comm, mul-le-mul_left, div-lt_iff_lt-mul, lt_of_lt_of_le, pow_mono, pow_pos, pow-add, SFits, ltb-true, ltb-false}
use Rattle.std.proofs.Math.Decide.{dec_lt}
use Rattle.std.proofs.Math.IntN.{sub_ℕ, +ℤ-neg_ℤ_cancel, +ℤ_comm}
use Rattle.std.specs.Int.Signed.{shr_z, lt_z}
use Rattle.std.specs.Int.{w32, w64}
use Rattle.numbers.specs.Floor.{floor_add_mul}
use Rattle.numbers.specs.Quote.{terms, vars, ring}
use Rattle.slices.specs.Biased.{biased, biased_is, sub_le, sub_lt}
use Rattle.lifting.specs.declared.Step.TheVariants.{Scaled, Separate, Combined}
use Rattle.lifting.specs.declared.Factor.TheVariants.{Plain, Biased}
use Rattle.lifting.specs.Steps.{signed, signed_sum, scaled, SumSafe, SameStep, SameFactor}

-- ---- a sum of biased values, shifted and unbiased

pub unbiased : (z : ℤ) (u base m : ℕ) → 0 < m → z +ℤ pos m *ℤ pos base ≡ pos u → shr_z z m ≡ pos (u / m) -ℤ pos base
unbiased z u base m h e =
    sym (ap (λ (w : ℤ). w -ℤ pos base) (ap (λ (w : ℤ). shr_z w m) (sym e) ∙ floor_add_mul z (pos base) m h) ∙ +ℤ-neg_ℤ_cancel (shr_z z m) (pos base))

own_out : (own z : ℤ) (m : ℕ) → 0 < m → shr_z (pos m *ℤ own +ℤ z) m ≡ own +ℤ shr_z z m
own_out own z m h = ap (λ (w : ℤ). shr_z w m) (+ℤ_comm (pos m *ℤ own) z) ∙ floor_add_mul z own m h ∙ +ℤ_comm (shr_z z m) own

-- a biased product and offset more
padded_sum : (c s h p : ℤ) → c *ℤ s +ℤ (c *ℤ h +ℤ p) ≡ c *ℤ (s +ℤ h) +ℤ p
padded_sum c s h p = let ρ : List ℤ = c ∷ s ∷ h ∷ p ∷ [] in ring ρ (search (terms, vars ρ) depth 30) (search (terms, vars ρ) depth 30) tt

pub padded_is : (c offset base cut : ℕ) → c * 2147483648 + offset ≡ base * 2 ^ cut → (s : ℤ) → SFits w32 s → shr_z (pos c *ℤ s) (2 ^ cut) ≡ pos ((c * biased s + offset) / 2 ^ cut) -ℤ pos base
padded_is c offset base cut tied s fs = unbiased (pos c *ℤ s) _ base (2 ^ cut) (pow_pos cut)
    (ap (λ (n : ℕ). pos c *ℤ s +ℤ pos n) (mul_comm (2 ^ cut) base ∙ sym tied) ∙ padded_sum (pos c) s (pos 2147483648) (pos offset) ∙ (λ k. pos c *ℤ biased_is s fs k +ℤ pos offset))

-- two of them
combined_sum : (m o c s h p : ℤ) → m *ℤ o +ℤ c *ℤ s +ℤ ((m +ℤ c) *ℤ h +ℤ p) ≡ m *ℤ (o +ℤ h) +ℤ (c *ℤ (s +ℤ h) +ℤ p)
combined_sum m o c s h p = let ρ : List ℤ = m ∷ o ∷ c ∷ s ∷ h ∷ p ∷ [] in ring ρ (search (terms, vars ρ) depth 30) (search (terms, vars ρ) depth 30) tt

both_padded : (m c offset base cut : ℕ) → (m + c) * 2147483648 + offset ≡ base * 2 ^ cut → (own s : ℤ) → SFits w32 own → SFits w32 s
    → shr_z (pos m *ℤ own +ℤ pos c *ℤ s) (2 ^ cut) ≡ pos ((m * biased own + (c * biased s + offset)) / 2 ^ cut) -ℤ pos base
both_padded m c offset base cut tied own s fo fs = unbiased (pos m *ℤ own +ℤ pos c *ℤ s) _ base (2 ^ cut) (pow_pos cut)
    (ap (λ (n : ℕ). pos m *ℤ own +ℤ pos c *ℤ s +ℤ pos n) (mul_comm (2 ^ cut) base ∙ sym tied) ∙ combined_sum (pos m) own (pos c) s (pos 2147483648) (pos offset)
    ∙ (λ k. pos m *ℤ biased_is own fo k +ℤ (pos c *ℤ biased_is s fs k +ℤ pos offset)))

-- ---- the forms of a scaled step

negated_product : (c s : ℤ) → neg_ℤ c *ℤ s ≡ c *ℤ (pos 0 -ℤ s)
negated_product c s = let ρ : List ℤ = c ∷ s ∷ [] in ring ρ (search (terms, vars ρ) depth 30) (search (terms, vars ρ) depth 30) tt

-- a constant of either sign times a sum
pub signed_product : (down : Bool) (c : ℕ) (x y : ℤ) → signed down c *ℤ (x +ℤ y) ≡ pos c *ℤ signed_sum down x y
signed_product true c x y = negated_product (pos c) (x +ℤ y)
signed_product false c x y = refl

pub signed_sum_fits : (down : Bool) (x y : ℤ) → SumSafe x y → SFits w32 (signed_sum down x y)
signed_sum_fits true x y h = h.negated
signed_sum_fits false x y h = h.sum

pub power_out : (P R own : ℤ) → P *ℤ R *ℤ own ≡ P *ℤ (own *ℤ R)
power_out P R own = let ρ : List ℤ = P ∷ R ∷ own ∷ [] in ring ρ (search (terms, vars ρ) depth 30) (search (terms, vars ρ) depth 30) tt

pub separate_is : (down : Bool) (rise c base cut : ℕ) → c * 2147483648 ≡ base * 2 ^ cut → (own x y : ℤ) → SumSafe x y
    → scaled (cut + rise) (signed down c) cut own x y ≡ own *ℤ pos (2 ^ rise) +ℤ (pos ((c * biased (signed_sum down x y) + 0) / 2 ^ cut) -ℤ pos base)
separate_is down rise c base cut tied own x y safe =
    let s : ℤ = signed_sum down x y in
    (λ k. shr_z (pos (pow-add 2 cut rise k) *ℤ own +ℤ signed_product down c x y k) (2 ^ cut))
    ∙ ap (λ (z : ℤ). shr_z (z +ℤ pos c *ℤ s) (2 ^ cut)) (power_out (pos (2 ^ cut)) (pos (2 ^ rise)) own)
    ∙ own_out (own *ℤ pos (2 ^ rise)) (pos c *ℤ s) (2 ^ cut) (pow_pos cut)
    ∙ ap (λ (z : ℤ). own *ℤ pos (2 ^ rise) +ℤ z) (padded_is c 0 base cut (let e : c * 2147483648 + 0 ≡ c * 2147483648 = omega arith in e ∙ tied) s (signed_sum_fits down x y safe))

pub combined_is : (down : Bool) (k c offset base cut : ℕ) → (2 ^ k + c) * 2147483648 + offset ≡ base * 2 ^ cut → (own x y : ℤ) → SFits w32 own → SumSafe x y
    → scaled k (signed down c) cut own x y ≡ pos ((2 ^ k * biased own + (c * biased (signed_sum down x y) + offset)) / 2 ^ cut) -ℤ pos base
combined_is down k c offset base cut tied own x y fo safe =
    ap (λ (z : ℤ). shr_z (pos (2 ^ k) *ℤ own +ℤ z) (2 ^ cut)) (signed_product down c x y)
    ∙ both_padded (2 ^ k) c offset base cut tied own (signed_sum down x y) fo (signed_sum_fits down x y safe)

-- one more of them than go into it
pub multiple_above : (total cut : ℕ) → (total ≤ (total / 2 ^ cut + 1) * 2 ^ cut) × ((total / 2 ^ cut + 1) * 2 ^ cut ≤ total + 2 ^ cut)
multiple_above total cut =
    let e : total / 2 ^ cut * 2 ^ cut + total % 2 ^ cut ≡ total = div-add-mod' total (2 ^ cut) in
    let l : total % 2 ^ cut < 2 ^ cut = mod-lt total (pow_pos cut) in
    let a : (total / 2 ^ cut + 1) * 2 ^ cut ≡ total / 2 ^ cut * 2 ^ cut + 1 * 2 ^ cut = add-mul (total / 2 ^ cut) 1 (2 ^ cut) in
    omega arith

-- such a multiple, base times m, and what it is more than the total by
pub record Padded (total base m cut : ℕ) : Type 0 where
  pub enough : total ≤ base * m
  pub little : base * m - total ≤ 2305843009213693952
  pub tied : total + (base * m - total) ≡ base * 2 ^ cut

pub padded : (total base m cut : ℕ) → cut ≤ 61 → m ≡ 2 ^ cut → (total ≤ base * 2 ^ cut) × (base * 2 ^ cut ≤ total + 2 ^ cut) → Padded total base m cut
padded total base m cut few e h =
    let l : 2 ^ cut ≤ 2305843009213693952 = pow_mono {i = cut} {j = 61} few in
    let f : base * m ≡ base * 2 ^ cut = ap (λ (n : ℕ). base * n) e in
    let a = h.0 in
    let b = h.1 in
    record { enough = omega arith; little = omega arith; tied = omega arith }

-- ---- sizes

-- c of biased values and offset more
pub fused_small : (c s offset p : ℕ) → s < 4294967296 → offset ≤ p → c * 4294967295 + p < 18446744073709551616 → c * s + offset < 18446744073709551616
fused_small c s offset p h l r = omega (arith, mul-le-mul_left {m = s} {n = 4294967295} c (omega arith))

pub fused_most : (c s offset : ℕ) → s < 4294967296 → c * s + offset ≤ c * 4294967295 + offset
fused_most c s offset h = omega (arith, mul-le-mul_left {m = s} {n = 4294967295} c (omega arith))

-- a difference of numbers below 2 ^ 63
pub difference_fits : (a b : ℕ) → a < 9223372036854775808 → b < 9223372036854775808 → SFits w64 (pos a -ℤ pos b)
difference_fits a zero h k = record { sfits = omega arith }
difference_fits a (suc b) h k = go (dec_lt a (suc b))
  where
    go : Dec (a < suc b) → SFits w64 (sub_ℕ a (suc b))
    go (yes l) = subst (SFits w64) (sym (sub_lt a (suc b) l)) (record { sfits = omega arith })
    go (no l) = subst (SFits w64) (sym (sub_le a (suc b) (omega arith))) (record { sfits = omega arith })

-- a number of 64 bits, shifted by 1 or more, is below 2 ^ 63
pub cut_small : (x cut : ℕ) → x < 18446744073709551616 → 1 ≤ cut → x / 2 ^ cut < 9223372036854775808
cut_small x cut h l = (div-lt_iff_lt-mul {k = 2 ^ cut} {x = x} {y = 9223372036854775808} (pow_pos cut)).1 (lt_of_lt_of_le h (mul-le-mul_left 9223372036854775808 (pow_mono l)))

-- what is too large by a multiple of 2 ^ cut
pub base_small : (total base cut : ℕ) → total < 18446744073709551616 → 1 ≤ cut → total ≡ base * 2 ^ cut → base < 9223372036854775808
base_small total base cut h some e =
    let two : base * 2 ≤ base * 2 ^ cut = mul-le-mul_left {m = 2} {n = 2 ^ cut} base (pow_mono some) in
    omega arith

-- 2 ^ 31 is a multiple of 2 ^ cut
pub halved : (cut : ℕ) → cut ≤ 31 → 2147483648 / 2 ^ cut * 2 ^ cut ≡ 2147483648
halved cut h =
    let e : 2 ^ (31 - cut) * 2 ^ cut ≡ 2147483648 = sym (pow-add 2 (31 - cut) cut) ∙ ap (λ (k : ℕ). 2 ^ k) (let e : (31 - cut) + cut ≡ 31 = omega arith in e) in
    ap (λ (n : ℕ). n / 2 ^ cut * 2 ^ cut) (sym e) ∙ ap (λ (n : ℕ). n * 2 ^ cut) (mul-div_cancel (2 ^ (31 - cut)) (pow_pos cut)) ∙ e

-- numbers of 31 bits and a sign
pub below_zero : (z : ℤ) → lt_z z (pos 0) ≡ true → lt_z z (negsuc 2147483646) ≡ false → (pos 0 -ℤ z ≡ pos (nat_abs z)) × (nat_abs z < 2147483648)
below_zero (pos n) e f = absurd (omega (arith, ltb-true n 0 e))
below_zero (negsuc n) e f = (ap pos (omega arith), omega (arith, ltb-false 2147483646 n f))

pub above_zero : (z : ℤ) → lt_z z (pos 0) ≡ false → lt_z (pos 2147483647) z ≡ false → (z ≡ pos (nat_abs z)) × (nat_abs z < 2147483648)
above_zero (pos n) e f = (refl, omega (arith, ltb-false 2147483647 n f))
above_zero (negsuc n) e f = absurd (subst T e tt)

pub positive : (z : ℤ) → lt_z z (pos 0) ≡ false → z ≡ pos (nat_abs z)
positive (pos n) e = refl
positive (negsuc n) e = absurd (subst T e tt)

negative : (z : ℤ) → lt_z z (pos 0) ≡ true → z ≡ neg_ℤ (pos (nat_abs z))
negative (pos n) e = absurd (omega (arith, ltb-true n 0 e))
negative (negsuc n) e = refl

-- a number by its sign and its size
pub signed_is : (z : ℤ) (n : ℕ) → n ≡ nat_abs z → signed (lt_z z (pos 0)) n ≡ z
signed_is z n e = go (lt_z z (pos 0)) refl
  where
    go : (down : Bool) → lt_z z (pos 0) ≡ down → signed down n ≡ z
    go true h = ap (λ (k : ℕ). neg_ℤ (pos k)) e ∙ sym (negative z h)
    go false h = ap pos e ∙ sym (positive z h)

-- ---- the same steps and scalings

pub separate_same : (down : Bool) (rise c base cut : ℕ) → 1 ≤ cut → cut ≤ 31 → rise < 32 → c < 2147483648 → c * 2147483648 ≡ base * 2 ^ cut → SameStep (Scaled (cut + rise) (signed down c) cut) (Separate down rise c base cut)
separate_same down rise c base cut some short steep room tied = record {
  same = λ own x y. refl;
  safe = λ own x y s. record { some = some; short = short; steep = steep; room = room; tied = tied; sides = s.sides; scaled_up = s.scaled_up rise refl; result = s.result };
}

pub combined_same : (down : Bool) (k c offset base cut : ℕ) → 1 ≤ cut → cut < 64 → k ≤ 30 → c < 2147483648 → offset ≤ 4611686018427387904 → (2 ^ k + c) * 2147483648 + offset ≡ base * 2 ^ cut → SameStep (Scaled k (signed down c) cut) (Combined down k c offset base cut)
combined_same down k c offset base cut some short few room more tied = record {
  same = λ own x y. refl;
  safe = λ own x y s. record { some = some; short = short; few = few; room = room; more = more; tied = tied; sides = s.sides; scaled_up = s.scaled_up; result = s.result };
}

pub biased_same : (c offset base cut : ℕ) → 1 ≤ cut → cut < 64 → c < 2147483648 → offset ≤ 4611686018427387904 → c * 2147483648 + offset ≡ base * 2 ^ cut → SameFactor (Plain (pos c) cut) (Biased c offset base cut)
biased_same c offset base cut some short room more tied = record {
  same = λ x. refl;
  safe = λ x s. record { some = some; short = short; room = room; more = more; tied = tied; result = s.result };
}

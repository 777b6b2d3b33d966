-- The own error of a step: what the nearest constant, the product's cut and the cut add to the exact lifting of the same operands.
use Rattle.std.specs.Prelude.{ℕ, ◌+◌, ◌*◌, ◌-◌, ◌^◌, ◌<◌, ◌≤◌, max, min, ◌≡◌, Bool, true, false, not, T, ltb, ℤ, pos, neg_ℤ, nat_abs, ◌+ℤ◌, ◌-ℤ◌, ◌*ℤ◌, ◌≤ℤ◌, ◌<ℤ◌}
use Rattle.std.proofs.Common.{sym, ◌∙◌, ap, subst, subst₂, arith, mul-le-mul_right, mul-pos, two-mul, ltb→lt, nltb→le, pow_pos, pow-add}
use Rattle.std.specs.Int.Signed.{shr_z}
use Rattle.numbers.specs.Dif.{by_dif, difs}
use Rattle.numbers.specs.Laws.{*ℤ-assoc, *ℤ-one-r}
use Rattle.numbers.specs.Abs.{abs_mul}
use Rattle.numbers.specs.Floor.{floor_≤, floor_<, floor_mul_r, round_near}
use Rattle.exact.specs.Fractions.{Frac, ◌≈◌, ◌⊕◌, ◌⊗◌, neg, Within}
use Rattle.numbers.specs.Ceiling.{up_div, up_div_most}
use Rattle.exact.specs.Exact.{lift}
use Rattle.stages.specs.Stages.{Product, uncut, cut_to, product_bits}
use Rattle.stages.specs.Fixed.{fixed_value, nearest, cut, cut_product, step, scale}
use Rattle.stages.specs.Rule.{loss, product_loss, own_lift, own_scale}
use Rattle.exact.specs.FracLaws.{ring, ≈-refl, ≈-sym, ≈-trans, ⊕-cong, ⊗-cong, ⊕-neg, through, sub_times, sub_own, within_≈, within_⊕, within_product, within_zero, within_weaken}

-- ---- v / 2^f

meant_up : (a : ℤ) (f full : ℕ) → f ≤ full → fixed_value (a *ℤ pos (2 ^ (full - f))) full ≈ fixed_value a f
unfolding fixed_value
meant_up a f full h = record { eq = *ℤ-assoc a (pos (2 ^ (full - f))) (pos (2 ^ f)) ∙ ap (λ (t : ℕ). a *ℤ pos t) (sym (pow-add 2 (full - f) f) ∙ ap (λ (t : ℕ). 2 ^ t) (omega arith)) }

meant_add : (a b : ℤ) (f : ℕ) → fixed_value (a +ℤ b) f ≈ fixed_value a f ⊕ fixed_value b f
unfolding fixed_value ◌⊕◌
meant_add a b f = record { eq = law a b (pos (2 ^ f)) }
  where
    law : (a b p : ℤ) → (a +ℤ b) *ℤ (p *ℤ p) ≡ (a *ℤ p +ℤ b *ℤ p) *ℤ p
    law a b p = simp ring

meant_mul : (a b : ℤ) (f g : ℕ) → fixed_value (a *ℤ b) (f + g) ≈ fixed_value a f ⊗ fixed_value b g
unfolding fixed_value ◌⊗◌
meant_mul a b f g = record { eq = ap (λ (t : ℕ). a *ℤ b *ℤ pos t) (sym (pow-add 2 f g)) }

-- ---- the nearest constant is off by at most half of 2^-F

nearest_within : (c : Frac) (F : ℕ) → Within (fixed_value (nearest c F) F ⊕ neg c) 1 (2 * 2 ^ F)
unfolding fixed_value nearest neg ◌⊕◌
nearest_within c F = record { most = last (nat_abs (N *ℤ pos c.den +ℤ neg_ℤ c.num *ℤ pos (2 ^ F))) (2 ^ F) (subst (λ (t : ℕ). t ≤ c.den) (half c.den (2 ^ F) N c.num) near) }
  where
    N : ℤ
    N = nearest c F

    near : nat_abs (pos (c.den + c.den) *ℤ N -ℤ c.num *ℤ pos (2 * 2 ^ F)) ≤ c.den
    near = rw (two-mul c.den) (round_near (c.num *ℤ pos (2 * 2 ^ F)) c.den c.above)

    half : (h P : ℕ) (n a : ℤ) → nat_abs (pos (h + h) *ℤ n -ℤ a *ℤ pos (2 * P)) ≡ nat_abs (n *ℤ pos h +ℤ neg_ℤ a *ℤ pos P) * 2
    half h P n a = ap nat_abs (law h P n a) ∙ abs_mul (n *ℤ pos h +ℤ neg_ℤ a *ℤ pos P) (pos 2)
      where
        law : (h P : ℕ) (n a : ℤ) → pos (h + h) *ℤ n -ℤ a *ℤ pos (2 * P) ≡ (n *ℤ pos h +ℤ neg_ℤ a *ℤ pos P) *ℤ pos 2
        law h P = by_dif _ λ x x'. by_dif _ λ y y'. simp difs (omega arith)

    last : (t P : ℕ) → t * 2 ≤ c.den → t * (2 * P) ≤ 1 * (P * c.den)
    last t P h = omega (arith, mul-le-mul_right P h)

-- ---- a cut loses less than 2^-f, and nothing where f is the full precision or more

floor_off : (z q : ℤ) (m : ℕ) → (pos m *ℤ q) ≤ℤ z → z <ℤ (pos m *ℤ q +ℤ pos m) → nat_abs (pos m *ℤ q -ℤ z) ≤ m
floor_off = by_dif _ λ a a'. by_dif _ λ b b'. λ m. simp difs (omega arith)

pub cut_lossy : (full f : ℕ) (z : ℤ) → f < full → cut full f z ≡ shr_z z (2 ^ (full - f))
unfolding cut
cut_lossy full f z h =
    let e : f - full ≡ 0 = omega arith in
    ap (λ (t : ℕ). shr_z (z *ℤ pos (2 ^ t)) (2 ^ (full - f))) e ∙ ap (λ (t : ℤ). shr_z t (2 ^ (full - f))) (*ℤ-one-r z)

pub cut_whole : (full f : ℕ) (z : ℤ) → full ≤ f → cut full f z ≡ z *ℤ pos (2 ^ (f - full))
unfolding cut
cut_whole full f z h =
    let x = z *ℤ pos (2 ^ (f - full)) in
    let e : full - f ≡ 0 = omega arith in
    ap (λ (t : ℕ). shr_z x (2 ^ t)) e ∙ ap (λ (t : ℤ). shr_z t 1) (sym (*ℤ-one-r x)) ∙ floor_mul_r x 1 (omega arith)

-- the same at a quotient q of z by m, with P = 2^f and W P = 2^32
lossy_law : (z q : ℤ) (m P W : ℕ) → nat_abs (pos m *ℤ q -ℤ z) ≤ m → nat_abs (q *ℤ pos (m * P) +ℤ neg_ℤ z *ℤ pos P) * (W * P) ≤ W * (P * (m * P))
lossy_law z q m P W h = last (nat_abs (pos m *ℤ q -ℤ z)) _ (ap nat_abs (law m P z q) ∙ abs_mul (pos m *ℤ q -ℤ z) (pos P)) h
  where
    law : (m P : ℕ) (z q : ℤ) → q *ℤ pos (m * P) +ℤ neg_ℤ z *ℤ pos P ≡ (pos m *ℤ q -ℤ z) *ℤ pos P
    law m P = by_dif _ λ a a'. by_dif _ λ b b'. simp difs (omega arith)

    last : (t u : ℕ) → u ≡ t * P → t ≤ m → u * (W * P) ≤ W * (P * (m * P))
    last t u e i = omega (arith, ap (λ (s : ℕ). s * (W * P)) e, mul-le-mul_right (P * (W * P)) i)

pub pow_split : (i j : ℕ) → i ≤ j → 2 ^ j ≡ 2 ^ (j - i) * 2 ^ i
pow_split i j h = ap (λ (t : ℕ). 2 ^ t) (omega arith) ∙ pow-add 2 (j - i) i

pub cut_within : (full f : ℕ) (z : ℤ) → f ≤ 32 → Within (fixed_value (cut full f z) f ⊕ neg (fixed_value z full)) (loss f full) (2 ^ 32)
unfolding loss fixed_value neg ◌⊕◌
cut_within full f z small = go (ltb f full) (ltb→lt f full) (nltb→le f full)
  where
    lossy' : (q : ℤ) (m : ℕ) → 2 ^ full ≡ m * 2 ^ f → nat_abs (pos m *ℤ q -ℤ z) ≤ m → Within (fixed_value q f ⊕ neg (fixed_value z full)) (2 ^ (32 - f)) (2 ^ 32)
    lossy' q m e h = record { most = subst₂ (λ (D Q : ℕ). nat_abs (q *ℤ pos D +ℤ neg_ℤ z *ℤ pos (2 ^ f)) * Q ≤ 2 ^ (32 - f) * (2 ^ f * D)) (sym e) (sym (pow_split f 32 small)) (lossy_law z q m (2 ^ f) (2 ^ (32 - f)) h) }

    lossy : f < full → Within (fixed_value (cut full f z) f ⊕ neg (fixed_value z full)) (2 ^ (32 - f)) (2 ^ 32)
    lossy h =
        let m = 2 ^ (full - f) in
        let q = shr_z z m in
        rw (cut_lossy full f z h) (lossy' q m (pow_split f full (omega arith)) (floor_off z q m (floor_≤ z m (pow_pos (full - f))) (floor_< z m (pow_pos (full - f)))))

    exact : full ≤ f → Within (fixed_value (cut full f z) f ⊕ neg (fixed_value z full)) 0 (2 ^ 32)
    exact h = rw (cut_whole full f z h) (within_≈ (≈-sym (≈-trans (⊕-cong (meant_up z full f h) (≈-refl (neg (fixed_value z full)))) (⊕-neg (fixed_value z full)))) (within_zero 0 (2 ^ 32)))

    go : (t : Bool) → (T t → f < full) → (T (not t) → full ≤ f) → Within (fixed_value (cut full f z) f ⊕ neg (fixed_value z full)) (elim t [ true ↦ 2 ^ (32 - f) | false ↦ 0 ]) (2 ^ 32)
    go true h k = lossy (h tt)
    go false h k = exact (k tt)

-- ---- a product's cut

cut_product_lem : (fp full : ℕ) (z : ℤ) → fp < full → Within (fixed_value (cut full fp z) fp ⊕ neg (fixed_value z full)) (up_div (2 ^ 32) (2 ^ fp)) (2 ^ 32)
unfolding fixed_value neg ◌⊕◌
cut_product_lem fp full z h =
    let m = 2 ^ (full - fp) in
    let q = shr_z z m in
    rw (cut_lossy full fp z h)
    (within_weaken (pow_pos fp) (omega (arith, up_div_most (2 ^ 32) (2 ^ fp) (pow_pos fp)))
    (one q m (pow_split fp full (omega arith)) (floor_off z q m (floor_≤ z m (pow_pos (full - fp))) (floor_< z m (pow_pos (full - fp))))))
  where
    one : (q : ℤ) (m : ℕ) → 2 ^ full ≡ m * 2 ^ fp → nat_abs (pos m *ℤ q -ℤ z) ≤ m → Within (fixed_value q fp ⊕ neg (fixed_value z full)) 1 (2 ^ fp)
    one q m e h = record { most = subst (λ (D : ℕ). nat_abs (q *ℤ pos D +ℤ neg_ℤ z *ℤ pos (2 ^ fp)) * 2 ^ fp ≤ 1 * (2 ^ fp * D)) (sym e) (last (2 ^ fp) _ (lossy_law z q m (2 ^ fp) 1 h)) }
      where
        last : (P : ℕ) (u : ℕ) → u * (1 * P) ≤ 1 * (P * (m * P)) → u * P ≤ 1 * (P * (m * P))
        last P u i = omega arith

pub product_within : (p : Product) (full : ℕ) (z : ℤ) → Within (fixed_value (cut_product p full z) (product_bits p full) ⊕ neg (fixed_value z full)) (product_loss p full) (2 ^ 32)
unfolding cut_product product_loss
product_within uncut full z = within_≈ (≈-sym (⊕-neg (fixed_value z full))) (within_zero 0 (2 ^ 32))
product_within (cut_to fp) full z = go (ltb fp full) (ltb→lt fp full) (nltb→le fp full)
  where
    lossy : fp < full → Within (fixed_value (cut full (min fp full) z) (min fp full) ⊕ neg (fixed_value z full)) (up_div (2 ^ 32) (2 ^ fp)) (2 ^ 32)
    lossy h =
        let e : fp ≡ min fp full = omega arith in
        subst (λ (k : ℕ). Within (fixed_value (cut full k z) k ⊕ neg (fixed_value z full)) (up_div (2 ^ 32) (2 ^ fp)) (2 ^ 32)) e (cut_product_lem fp full z h)

    exact : full ≤ fp → Within (fixed_value (cut full (min fp full) z) (min fp full) ⊕ neg (fixed_value z full)) 0 (2 ^ 32)
    exact h =
        let e : full ≡ min fp full = omega arith in
        subst (λ (k : ℕ). Within (fixed_value (cut full k z) k ⊕ neg (fixed_value z full)) 0 (2 ^ 32)) e (same (cut full full z) (cut_whole full full z (omega arith)))
      where
        same : (y : ℤ) → y ≡ z *ℤ pos (2 ^ (full - full)) → Within (fixed_value y full ⊕ neg (fixed_value z full)) 0 (2 ^ 32)
        same y e = subst (λ (x : ℤ). Within (fixed_value x full ⊕ neg (fixed_value z full)) 0 (2 ^ 32)) (sym e) (within_≈ (≈-sym (≈-trans (⊕-cong (meant_up z full full (omega arith)) (≈-refl (neg (fixed_value z full)))) (⊕-neg (fixed_value z full)))) (within_zero 0 (2 ^ 32)))

    go : (t : Bool) → (T t → fp < full) → (T (not t) → full ≤ fp) → Within (fixed_value (cut full (min fp full) z) (min fp full) ⊕ neg (fixed_value z full)) (elim t [ true ↦ up_div (2 ^ 32) (2 ^ fp) | false ↦ 0 ]) (2 ^ 32)
    go true h k = lossy (h tt)
    go false h k = exact (k tt)

-- ---- the own errors

-- 1 / 2^(F+1) of a sum of two values of at most r
lift_off : (F r : ℕ) {x : Frac} → Within x (1 * (r + r)) (2 * 2 ^ F * 2 ^ 32) → Within x (up_div r (2 ^ F)) (2 ^ 32)
lift_off F r h = within_weaken (mul-pos (mul-pos {m = 2} (omega arith) (pow_pos F)) (pow_pos 32)) (law (2 ^ F) (2 ^ 32) (up_div r (2 ^ F)) (up_div_most r (2 ^ F) (pow_pos F))) h
  where
    law : (P Q u : ℕ) → r ≤ u * P → 1 * (r + r) * Q ≤ u * (2 * P * Q)
    law P Q u i = omega (arith, mul-le-mul_right (2 * Q) i)

pub lift_own : (p : Product) (c : Frac) (F fm fo f : ℕ) (o x y : ℤ) (r : ℕ) → f ≤ 32 → Within (fixed_value x fm) r (2 ^ 32) → Within (fixed_value y fm) r (2 ^ 32) → Within (fixed_value (step p c F fm fo f o x y) f ⊕ neg (lift c (fixed_value o fo) (fixed_value x fm) (fixed_value y fm))) (own_lift p F fm fo f r) (2 ^ 32)
unfolding step lift own_lift
lift_own p c F fm fo f o x y r small hx hy =
    within_≈ (through A B out) (within_⊕ (within_≈ (≈-sym near) (within_⊕ (within_≈ (≈-sym nearly) (lift_off F r (within_product (nearest_within c F) (within_⊕ hx hy)))) (product_within p (F + fm) W))) (cut_within full f z small))
  where
    N : ℤ
    N = nearest c F

    -- the product at its full bits, and cut
    W : ℤ
    W = N *ℤ (x +ℤ y)

    bits : ℕ
    bits = product_bits p (F + fm)

    K : ℤ
    K = cut_product p (F + fm) W

    full : ℕ
    full = max fo bits

    z : ℤ
    z = o *ℤ pos (2 ^ (full - fo)) +ℤ K *ℤ pos (2 ^ (full - bits))

    out : Frac
    out = fixed_value (cut full f z) f

    A : Frac
    A = fixed_value z full

    S : Frac
    S = fixed_value x fm ⊕ fixed_value y fm

    B : Frac
    B = fixed_value o fo ⊕ c ⊗ S

    split : A ≈ fixed_value o fo ⊕ fixed_value K bits
    split = ≈-trans (meant_add _ _ full) (⊕-cong (meant_up o fo full (omega arith)) (meant_up K bits full (omega arith)))

    whole : fixed_value W (F + fm) ≈ fixed_value N F ⊗ S
    whole = ≈-trans (meant_mul N (x +ℤ y) F fm) (⊗-cong (≈-refl (fixed_value N F)) (meant_add x y fm))

    -- what the nearest constant adds to the product
    nearly : fixed_value W (F + fm) ⊕ neg (c ⊗ S) ≈ (fixed_value N F ⊕ neg c) ⊗ S
    nearly = ≈-trans (⊕-cong whole (≈-refl (neg (c ⊗ S)))) (≈-sym (sub_times (fixed_value N F) c S))

    -- and what its cut adds
    near : A ⊕ neg B ≈ (fixed_value W (F + fm) ⊕ neg (c ⊗ S)) ⊕ (fixed_value K bits ⊕ neg (fixed_value W (F + fm)))
    near = ≈-trans (⊕-cong split (≈-refl (neg B))) (≈-trans (sub_own (fixed_value o fo) (fixed_value K bits) (c ⊗ S)) (≈-sym (through (fixed_value W (F + fm)) (c ⊗ S) (fixed_value K bits))))

scale_off : (F r : ℕ) {x : Frac} → Within x (1 * r) (2 * 2 ^ F * 2 ^ 32) → Within x (up_div r (2 ^ (F + 1))) (2 ^ 32)
scale_off F r h = within_weaken (mul-pos (mul-pos {m = 2} (omega arith) (pow_pos F)) (pow_pos 32)) (law (2 ^ F) (2 ^ (F + 1)) (2 ^ 32) (up_div r (2 ^ (F + 1))) (pow-add 2 F 1) (up_div_most r (2 ^ (F + 1)) (pow_pos (F + 1)))) h
  where
    law : (P P' Q u : ℕ) → P' ≡ P * 2 → r ≤ u * P' → 1 * r * Q ≤ u * (2 * P * Q)
    law P P' Q u e i = omega (arith, ap (λ (t : ℕ). u * t * Q) e, mul-le-mul_right Q i)

pub scale_own : (c : Frac) (F fm f : ℕ) (x : ℤ) (r : ℕ) → f ≤ 32 → Within (fixed_value x fm) r (2 ^ 32) → Within (fixed_value (scale c F fm f x) f ⊕ neg (c ⊗ fixed_value x fm)) (own_scale F fm f r) (2 ^ 32)
unfolding scale own_scale
scale_own c F fm f x r small hx =
    within_≈ (through (fixed_value z (F + fm)) (c ⊗ fixed_value x fm) (fixed_value (cut (F + fm) f z) f)) (within_⊕ (within_≈ (≈-sym near) (scale_off F r (within_product (nearest_within c F) hx))) (cut_within (F + fm) f z small))
  where
    z : ℤ
    z = nearest c F *ℤ x

    near : fixed_value z (F + fm) ⊕ neg (c ⊗ fixed_value x fm) ≈ (fixed_value (nearest c F) F ⊕ neg c) ⊗ fixed_value x fm
    near = ≈-trans (⊕-cong (meant_mul (nearest c F) x F fm) (≈-refl (neg (c ⊗ fixed_value x fm)))) (≈-sym (sub_times (fixed_value (nearest c F) F) c (fixed_value x fm)))

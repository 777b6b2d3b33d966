-- Laws of fractions up to cross multiplication.
use Rattle.std.specs.Prelude.{ℕ, ◌+◌, ◌*◌, ◌<◌, ◌≤◌, ◌≡◌, refl, ℤ, pos, neg_ℤ, nat_abs, ◌+ℤ◌, ◌*ℤ◌}
use Rattle.std.proofs.Common.{sym, ◌∙◌, ap, arith, mul-le-mul_right, mul-le-mul, le_of_mul-le-mul_right, le_trans}
use Rattle.std.proofs.Math.IntN.{*ℤ_comm, +ℤ_comm, +ℤ_assoc, zero-*ℤ, *ℤ-zero, +ℤ_idl}
use Rattle.numbers.specs.Dif.{by_dif, difs}
use Rattle.numbers.specs.Laws.{*ℤ-assoc, *ℤ-distl, *ℤ-distr, *ℤ-left-comm, *ℤ-cancel, *ℤ-neg-l, *ℤ-neg-r, +ℤ-left-comm, *ℤ-one-l, *ℤ-one-r}
use Rattle.numbers.specs.Abs.{abs_add, abs_mul}
use Rattle.exact.specs.Fractions.{Frac, ◌≈◌, ◌⊕◌, ◌⊗◌, neg, whole, zero_f, one_f, Within}

pub ruleset ring = (*ℤ-distr, *ℤ-distl, *ℤ-assoc, *ℤ_comm, *ℤ-left-comm, +ℤ_assoc, +ℤ_comm, +ℤ-left-comm)

ruleset ring* = (*ℤ-distr, *ℤ-distl, *ℤ-assoc, *ℤ_comm, *ℤ-left-comm)

pub ≈-refl : (x : Frac) → x ≈ x
≈-refl x = record { eq = refl }

pub ≈-sym : {x y : Frac} → x ≈ y → y ≈ x
≈-sym h = record { eq = sym h.eq }

trans_law : (a b c p q r : ℤ) → a *ℤ q ≡ b *ℤ p → b *ℤ r ≡ c *ℤ q → q *ℤ (a *ℤ r) ≡ q *ℤ (c *ℤ p)
trans_law a b c p q r h k =
    let l1 : q *ℤ (a *ℤ r) ≡ a *ℤ q *ℤ r = simp ring* in
    let l2 : b *ℤ p *ℤ r ≡ b *ℤ r *ℤ p = simp ring* in
    let l3 : c *ℤ q *ℤ p ≡ q *ℤ (c *ℤ p) = simp ring* in
    l1 ∙ ap (λ (t : ℤ). t *ℤ r) h ∙ l2 ∙ ap (λ (t : ℤ). t *ℤ p) k ∙ l3

pub ≈-trans : {x y z : Frac} → x ≈ y → y ≈ z → x ≈ z
≈-trans {x} {y} {z} h k = record { eq = *ℤ-cancel y.den _ _ y.above (trans_law x.num y.num z.num (pos x.den) (pos y.den) (pos z.den) h.eq k.eq) }

cong_law : (a b a' b' p q p' q' : ℤ) → a *ℤ p' ≡ a' *ℤ p → b *ℤ q' ≡ b' *ℤ q → (a *ℤ q +ℤ b *ℤ p) *ℤ (p' *ℤ q') ≡ (a' *ℤ q' +ℤ b' *ℤ p') *ℤ (p *ℤ q)
cong_law a b a' b' p q p' q' h k =
    let l1 : (a *ℤ q +ℤ b *ℤ p) *ℤ (p' *ℤ q') ≡ a *ℤ p' *ℤ (q *ℤ q') +ℤ b *ℤ q' *ℤ (p *ℤ p') = simp ring* in
    let l2 : (a' *ℤ q' +ℤ b' *ℤ p') *ℤ (p *ℤ q) ≡ a' *ℤ p *ℤ (q *ℤ q') +ℤ b' *ℤ q *ℤ (p *ℤ p') = simp ring* in
    rw (l1, l2, h, k)

pub ⊕-cong : {x y x' y' : Frac} → x ≈ x' → y ≈ y' → x ⊕ y ≈ x' ⊕ y'
unfolding ◌⊕◌
⊕-cong {x} {y} {x'} {y'} h k = record { eq = cong_law x.num y.num x'.num y'.num (pos x.den) (pos y.den) (pos x'.den) (pos y'.den) h.eq k.eq }

⊗-cong-law : (a b a' b' p q p' q' : ℤ) → a *ℤ p' ≡ a' *ℤ p → b *ℤ q' ≡ b' *ℤ q → a *ℤ b *ℤ (p' *ℤ q') ≡ a' *ℤ b' *ℤ (p *ℤ q)
⊗-cong-law a b a' b' p q p' q' h k =
    let l1 : a *ℤ b *ℤ (p' *ℤ q') ≡ a *ℤ p' *ℤ (b *ℤ q') = simp ring* in
    let l2 : a' *ℤ b' *ℤ (p *ℤ q) ≡ a' *ℤ p *ℤ (b' *ℤ q) = simp ring* in
    rw (l1, l2, h, k)

pub ⊗-cong : {x y x' y' : Frac} → x ≈ x' → y ≈ y' → x ⊗ y ≈ x' ⊗ y'
unfolding ◌⊗◌
⊗-cong {x} {y} {x'} {y'} h k = record { eq = ⊗-cong-law x.num y.num x'.num y'.num (pos x.den) (pos y.den) (pos x'.den) (pos y'.den) h.eq k.eq }

pub ⊕-comm : (x y : Frac) → x ⊕ y ≈ y ⊕ x
unfolding ◌⊕◌
⊕-comm x y = record { eq = law x.num y.num (pos x.den) (pos y.den) }
  where
    law : (a b p q : ℤ) → (a *ℤ q +ℤ b *ℤ p) *ℤ (q *ℤ p) ≡ (b *ℤ p +ℤ a *ℤ q) *ℤ (p *ℤ q)
    law a b p q = simp ring

swap_law : (a b c d p q r s : ℤ) → (a *ℤ q +ℤ b *ℤ p) *ℤ (r *ℤ s) +ℤ (c *ℤ s +ℤ d *ℤ r) *ℤ (p *ℤ q) ≡ (a *ℤ r +ℤ c *ℤ p) *ℤ (q *ℤ s) +ℤ (b *ℤ s +ℤ d *ℤ q) *ℤ (p *ℤ r)
swap_law a b c d p q r s = simp ring

swap_den : (p q r s : ℤ) → p *ℤ r *ℤ (q *ℤ s) ≡ p *ℤ q *ℤ (r *ℤ s)
swap_den p q r s = simp ring*

eq_of : (a b p q : ℤ) → a ≡ b → q ≡ p → a *ℤ q ≡ b *ℤ p
eq_of a b p q h k = rw (h, k)

pub ⊕-swap : (x y z w : Frac) → (x ⊕ y) ⊕ (z ⊕ w) ≈ (x ⊕ z) ⊕ (y ⊕ w)
unfolding ◌⊕◌
⊕-swap x y z w = record { eq = eq_of _ _ _ _ (swap_law x.num y.num z.num w.num (pos x.den) (pos y.den) (pos z.den) (pos w.den)) (swap_den (pos x.den) (pos y.den) (pos z.den) (pos w.den)) }

pub ⊗-distl : (c x y : Frac) → c ⊗ (x ⊕ y) ≈ c ⊗ x ⊕ c ⊗ y
unfolding ◌⊕◌ ◌⊗◌
⊗-distl c x y = record { eq = law c.num x.num y.num (pos c.den) (pos x.den) (pos y.den) }
  where
    law : (c a b k p q : ℤ) → c *ℤ (a *ℤ q +ℤ b *ℤ p) *ℤ (k *ℤ p *ℤ (k *ℤ q)) ≡ (c *ℤ a *ℤ (k *ℤ q) +ℤ c *ℤ b *ℤ (k *ℤ p)) *ℤ (k *ℤ (p *ℤ q))
    law c a b k p q = simp ring

⊗-distr : (c d x : Frac) → (c ⊕ d) ⊗ x ≈ c ⊗ x ⊕ d ⊗ x
unfolding ◌⊕◌ ◌⊗◌
⊗-distr c d x = record { eq = law c.num d.num x.num (pos c.den) (pos d.den) (pos x.den) }
  where
    law : (c d a k m p : ℤ) → (c *ℤ m +ℤ d *ℤ k) *ℤ a *ℤ (k *ℤ p *ℤ (m *ℤ p)) ≡ (c *ℤ a *ℤ (m *ℤ p) +ℤ d *ℤ a *ℤ (k *ℤ p)) *ℤ (k *ℤ m *ℤ p)
    law c d a k m p = simp ring

pub ⊗-assoc : (c d x : Frac) → (c ⊗ d) ⊗ x ≈ c ⊗ (d ⊗ x)
unfolding ◌⊗◌
⊗-assoc c d x = record { eq = eq_of _ _ _ _ (*ℤ-assoc c.num d.num x.num) (sym (*ℤ-assoc (pos c.den) (pos d.den) (pos x.den))) }

pub ⊕-zero-l : (x : Frac) → zero_f ⊕ x ≈ x
unfolding ◌⊕◌ whole
⊕-zero-l x = record { eq = law x.num (pos x.den) }
  where
    law : (a p : ℤ) → (pos 0 *ℤ p +ℤ a *ℤ pos 1) *ℤ p ≡ a *ℤ (pos 1 *ℤ p)
    law a p = simp (zero-*ℤ, +ℤ_idl, *ℤ-one-l, *ℤ-one-r)

pub ⊕-zero-r : (x : Frac) → x ⊕ zero_f ≈ x
⊕-zero-r x = ≈-trans (⊕-comm x zero_f) (⊕-zero-l x)

pub ⊗-zero-r : (x : Frac) → x ⊗ zero_f ≈ zero_f
unfolding ◌⊗◌ whole
⊗-zero-r x = record { eq = law x.num (pos x.den) }
  where
    law : (a p : ℤ) → a *ℤ pos 0 *ℤ pos 1 ≡ pos 0 *ℤ (p *ℤ pos 1)
    law a p = simp (zero-*ℤ, *ℤ-zero)

pub ⊗-one-l : (x : Frac) → one_f ⊗ x ≈ x
unfolding ◌⊗◌ whole
⊗-one-l x = record { eq = law x.num (pos x.den) }
  where
    law : (a p : ℤ) → pos 1 *ℤ a *ℤ p ≡ a *ℤ (pos 1 *ℤ p)
    law a p = simp *ℤ-one-l

neg_⊕ : (x y : Frac) → neg (x ⊕ y) ≈ neg x ⊕ neg y
unfolding ◌⊕◌ neg
neg_⊕ x y = record { eq = ap (λ (t : ℤ). t *ℤ pos (x.den * y.den)) (law x.num y.num (pos x.den) (pos y.den)) }
  where
    law : (a b p q : ℤ) → neg_ℤ (a *ℤ q +ℤ b *ℤ p) ≡ neg_ℤ a *ℤ q +ℤ neg_ℤ b *ℤ p
    law = by_dif _ λ a a'. by_dif _ λ b b'. by_dif _ λ p p'. by_dif _ λ q q'. simp difs (omega arith)

pub neg_cong : {x y : Frac} → x ≈ y → neg x ≈ neg y
unfolding neg
neg_cong {x} {y} h = record { eq = *ℤ-neg-l x.num (pos y.den) ∙ ap neg_ℤ h.eq ∙ sym (*ℤ-neg-l y.num (pos x.den)) }

neg_⊗ : (c x : Frac) → c ⊗ neg x ≈ neg (c ⊗ x)
unfolding ◌⊗◌ neg
neg_⊗ c x = record { eq = ap (λ (t : ℤ). t *ℤ pos (c.den * x.den)) (*ℤ-neg-r c.num x.num) }

pub neg_⊗_l : (c x : Frac) → neg c ⊗ x ≈ neg (c ⊗ x)
unfolding ◌⊗◌ neg
neg_⊗_l c x = record { eq = ap (λ (t : ℤ). t *ℤ pos (c.den * x.den)) (*ℤ-neg-l c.num x.num) }

pub ⊕-neg : (x : Frac) → x ⊕ neg x ≈ zero_f
unfolding ◌⊕◌ neg whole
⊕-neg x = record { eq = law x.num (pos x.den) }
  where
    law : (a p : ℤ) → (a *ℤ p +ℤ neg_ℤ a *ℤ p) *ℤ pos 1 ≡ pos 0 *ℤ (p *ℤ p)
    law = by_dif _ λ a a'. by_dif _ λ p p'. simp difs (omega arith)

-- ---- the size
pub within_≈ : {x y : Frac} {p q : ℕ} → x ≈ y → Within x p q → Within y p q
within_≈ {x} {y} {p} {q} e h = record { most = le_of_mul-le-mul_right {m = nat_abs y.num * q} {n = p * y.den} {k = x.den} (law (nat_abs x.num) (nat_abs y.num) x.den y.den p q abs h.most) x.above }
  where
    abs : nat_abs x.num * y.den ≡ nat_abs y.num * x.den
    abs = sym (abs_mul x.num (pos y.den)) ∙ ap nat_abs e.eq ∙ abs_mul y.num (pos x.den)

    law : (a b m n p q : ℕ) → a * n ≡ b * m → a * q ≤ p * m → b * q * m ≤ p * n * m
    law a b m n p q h k = omega (arith, ap (λ (t : ℕ). t * q) h, mul-le-mul_right n k)

pub within_⊕ : {x y : Frac} {p p' q : ℕ} → Within x p q → Within y p' q → Within (x ⊕ y) (p + p') q
unfolding ◌⊕◌
within_⊕ {x} {y} {p} {p'} {q} h k = record { most = law (nat_abs x.num) (nat_abs y.num) x.den y.den _ tri h.most k.most }
  where
    tri : nat_abs (x.num *ℤ pos y.den +ℤ y.num *ℤ pos x.den) ≤ nat_abs x.num * y.den + nat_abs y.num * x.den
    tri = omega (arith, abs_add (x.num *ℤ pos y.den) (y.num *ℤ pos x.den), abs_mul x.num (pos y.den), abs_mul y.num (pos x.den))

    law : (a b m n t : ℕ) → t ≤ a * n + b * m → a * q ≤ p * m → b * q ≤ p' * n → t * q ≤ (p + p') * (m * n)
    law a b m n t i j l = omega (arith, mul-le-mul_right q i, mul-le-mul_right n j, mul-le-mul_right m l)

pub within_⊗ : (c : Frac) {x : Frac} {p q : ℕ} → Within x p q → Within (c ⊗ x) (nat_abs c.num * p) (c.den * q)
unfolding ◌⊗◌
within_⊗ c {x} {p} {q} h = record { most = law (nat_abs c.num) (nat_abs x.num) c.den x.den _ (abs_mul c.num x.num) h.most }
  where
    law : (c a k m t : ℕ) → t ≡ c * a → a * q ≤ p * m → t * (k * q) ≤ c * p * (k * m)
    law c a k m t e j = omega (arith, ap (λ (s : ℕ). s * (k * q)) e, mul-le-mul_right (c * k) j)

-- a greater bound
pub within_most : {x : Frac} {p p' q : ℕ} → p ≤ p' → Within x p q → Within x p' q
within_most {x} h w = record { most = le_trans w.most (mul-le-mul_right x.den h) }

pub within_zero : (p q : ℕ) → Within zero_f p q
unfolding whole
within_zero p q = record { most = omega arith }

pub within_weaken : {x : Frac} {p q p' q' : ℕ} → 0 < q → p * q' ≤ p' * q → Within x p q → Within x p' q'
within_weaken {x} {p} {q} {p'} {q'} z w h = record { most = le_of_mul-le-mul_right {m = nat_abs x.num * q'} {n = p' * x.den} {k = q} (law (nat_abs x.num) x.den h.most) z }
  where
    law : (a m : ℕ) → a * q ≤ p * m → a * q' * q ≤ p' * m * q
    law a m i = omega (arith, mul-le-mul_right q' i, mul-le-mul_right m w)

pub within_product : {x y : Frac} {p q p' q' : ℕ} → Within x p q → Within y p' q' → Within (x ⊗ y) (p * p') (q * q')
unfolding ◌⊗◌
within_product {x} {y} {p} {q} {p'} {q'} h k = record { most = law (nat_abs x.num) (nat_abs y.num) x.den y.den _ (abs_mul x.num y.num) (mul-le-mul h.most k.most) }
  where
    law : (a b m n t : ℕ) → t ≡ a * b → (a * q) * (b * q') ≤ (p * m) * (p' * n) → t * (q * q') ≤ p * p' * (m * n)
    law a b m n t e j = omega (arith, ap (λ (s : ℕ). s * (q * q')) e)

-- a lesser difference: (a - b) + (v - a) is v - b
pub through : (a b v : Frac) → (a ⊕ neg b) ⊕ (v ⊕ neg a) ≈ v ⊕ neg b
through a b v =
    ≈-trans (⊕-cong (≈-refl (a ⊕ neg b)) (⊕-comm v (neg a)))
    (≈-trans (⊕-swap a (neg b) (neg a) v)
    (≈-trans (⊕-cong (⊕-neg a) (≈-refl (neg b ⊕ v)))
    (≈-trans (⊕-zero-l (neg b ⊕ v)) (⊕-comm (neg b) v))))

-- (a - b) + b is a
pub plus_back : (a b : Frac) → (a ⊕ neg b) ⊕ b ≈ a
unfolding neg whole
plus_back a b =
    ≈-trans (⊕-comm (a ⊕ neg b) b)
    (≈-trans (⊕-cong (≈-sym (⊕-zero-r b)) (≈-refl (a ⊕ neg b)))
    (≈-trans (through b zero_f a) (⊕-zero-r a)))

-- (a - b) + (c - d) is (a + c) - (b + d)
pub sub_sum : (a b c d : Frac) → (a ⊕ neg b) ⊕ (c ⊕ neg d) ≈ (a ⊕ c) ⊕ neg (b ⊕ d)
sub_sum a b c d = ≈-trans (⊕-swap a (neg b) c (neg d)) (⊕-cong (≈-refl (a ⊕ c)) (≈-sym (neg_⊕ b d)))

-- c (a - b) is c a - c b
pub times_sub : (c a b : Frac) → c ⊗ (a ⊕ neg b) ≈ c ⊗ a ⊕ neg (c ⊗ b)
times_sub c a b = ≈-trans (⊗-distl c a (neg b)) (⊕-cong (≈-refl (c ⊗ a)) (neg_⊗ c b))

-- (a - b) c is a c - b c
pub sub_times : (a b c : Frac) → (a ⊕ neg b) ⊗ c ≈ a ⊗ c ⊕ neg (b ⊗ c)
sub_times a b c = ≈-trans (⊗-distr a (neg b) c) (⊕-cong (≈-refl (a ⊗ c)) (neg_⊗_l b c))

-- (o + a) - (o + b) is a - b
pub sub_own : (o a b : Frac) → (o ⊕ a) ⊕ neg (o ⊕ b) ≈ a ⊕ neg b
sub_own o a b =
    ≈-trans (≈-sym (sub_sum o o a b))
    (≈-trans (⊕-cong (⊕-neg o) (≈-refl (a ⊕ neg b))) (⊕-zero-l (a ⊕ neg b)))

-- |v| ≤ r + e where |x| ≤ r and |v - x| ≤ e
pub within_near : {v x : Frac} {r e q : ℕ} → Within x r q → Within (v ⊕ neg x) e q → Within v (r + e) q
within_near {v} {x} h k = within_≈ (≈-trans (⊕-comm x (v ⊕ neg x)) (plus_back v x)) (within_⊕ h k)

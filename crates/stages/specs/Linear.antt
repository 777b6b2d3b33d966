-- A linear function of a line that sees the places from -m to m alone is the sum of its answers to units, each times the value there:
-- values of at most b give at most b times the sum of the answers' magnitudes.
use Rattle.std.specs.Prelude.{ℕ, zero, suc, ◌+◌, ◌*◌, ◌<◌, ◌≤◌, ◌≡◌, refl, Bool, true, false, T, ℤ, pos, negsuc, nat_abs, ◌+ℤ◌, ◌*ℤ◌}
use Rattle.std.proofs.Common.{◌∙◌, ap, subst, arith, mul-le-mul_right, mul-pos, eqb→eq}
use Rattle.std.proofs.Math.Decide.{dec_le}
use Rattle.std.proofs.Math.Dec.{eqb_refl}
use Rattle.std.proofs.Math.IntN.{*ℤ_comm}
use Rattle.exact.specs.Fractions.{Frac, ◌≈◌, ◌⊕◌, ◌⊗◌, whole, magnitude, rounded_up, zero_f, one_f, Within}
use Rattle.numbers.specs.Ceiling.{up_div, up_div_most}
use Rattle.exact.specs.FracLaws.{≈-refl, ≈-sym, ≈-trans, ⊕-cong, ⊗-cong, ⊕-zero-l, ⊕-zero-r, ⊗-zero-r, ⊗-one-l, within_≈, within_⊕, within_⊗, within_weaken}
use Rattle.stages.specs.Gains.{Line, same, unit, sum_to}
use Rattle.stages.specs.Rule.{times_gain}

pub ⊗-comm : (x y : Frac) → x ⊗ y ≈ y ⊗ x
unfolding ◌⊗◌
⊗-comm x y = record { eq = law x.num y.num (pos x.den) (pos y.den) }
  where
    law : (a b p q : ℤ) → a *ℤ b *ℤ (q *ℤ p) ≡ b *ℤ a *ℤ (p *ℤ q)
    law a b p q = ap (λ (t : ℤ). t *ℤ (q *ℤ p)) (*ℤ_comm a b) ∙ ap (λ (t : ℤ). b *ℤ a *ℤ t) (*ℤ_comm q p)

-- ---- sizes by weight: |x| ≤ w b / q, where w is not negative
pub record Weighs (w : Frac) (b q : ℕ) (x : Frac) : Type 0 where
  pub top : ℕ
  pub is : w.num ≡ pos top
  pub most : Within x (top * b) (w.den * q)

pub weighs_plus : {w w' : Frac} {b q : ℕ} {x y : Frac} → 0 < q → Weighs w b q x → Weighs w' b q y → Weighs (w ⊕ w') b q (x ⊕ y)
unfolding ◌⊕◌
weighs_plus {w} {w'} {b} {q} {x} {y} z h k = record {
  top = h.top * w'.den + k.top * w.den;
  is = law w.num w'.num h.top k.top w.den w'.den h.is k.is;
  most = subst (λ (p : ℕ). Within (x ⊕ y) p (w.den * w'.den * q)) (omega arith)
      (within_⊕ (left h.top w.den w'.den w.above h.most) (right k.top w.den w'.den w'.above k.most));
}
  where
    law : (a a' : ℤ) (t t' d d' : ℕ) → a ≡ pos t → a' ≡ pos t' → a *ℤ pos d' +ℤ a' *ℤ pos d ≡ pos (t * d' + t' * d)
    law a a' t t' d d' e e' = rw (e, e') refl

    left : (t d d' : ℕ) → 0 < d → Within x (t * b) (d * q) → Within x (t * d' * b) (d * d' * q)
    left t d d' p i = within_weaken (mul-pos p z) (omega arith) i

    right : (t d d' : ℕ) → 0 < d' → Within y (t * b) (d' * q) → Within y (t * d * b) (d * d' * q)
    right t d d' p i = within_weaken (mul-pos p z) (omega arith) i

weighs_times : (b q : ℕ) (c x : Frac) → Within x b q → Weighs (magnitude c) b q (x ⊗ c)
unfolding magnitude
weighs_times b q c x h = record { top = nat_abs c.num; is = refl; most = within_≈ (⊗-comm c x) (within_⊗ c h) }

pub weighs_≈ : {w : Frac} {b q : ℕ} {x y : Frac} → x ≈ y → Weighs w b q x → Weighs w b q y
weighs_≈ e h = record { top = h.top; is = h.is; most = within_≈ e h.most }

-- weight and size multiplied as the rule does
pub weighs_within : {w : Frac} {b q : ℕ} {x : Frac} → 0 < q → Weighs w b q x → Within x (times_gain b (rounded_up 65536 w)) q
unfolding times_gain rounded_up
weighs_within {w} {b} {q} {x} z h = within_weaken (mul-pos w.above z) (law h.top w.den g (up_div (b * g) 65536) up (up_div_most (b * g) 65536 (omega arith))) h.most
  where
    g : ℕ
    g = rounded_up 65536 w

    up : h.top * 65536 ≤ g * w.den
    up = subst (λ (t : ℕ). t * 65536 ≤ up_div (nat_abs w.num * 65536) w.den * w.den) (ap nat_abs h.is) (up_div_most (nat_abs w.num * 65536) w.den w.above)

    law : (t d g u : ℕ) → t * 65536 ≤ g * d → b * g ≤ u * 65536 → t * b * q ≤ u * (d * q)
    law t d g u i j = omega (arith, mul-le-mul_right (b * q) i, mul-le-mul_right (d * q) j)

-- ---- a line made of units

same_is : (p k : ℤ) → T (same p k) → p ≡ k
same_is (pos m) (pos n) h = ap pos (eqb→eq m n h)
same_is (pos m) (negsuc n) h = absurd h
same_is (negsuc m) (pos n) h = absurd h
same_is (negsuc m) (negsuc n) h = ap negsuc (eqb→eq m n h)

unit_else : (p k : ℤ) → (p ≡ k → ⊥) → unit p k ≈ zero_f
unit_else p k apart = go (same p k) (same_is p k)
  where
    go : (t : Bool) → (T t → p ≡ k) → elim t [ true ↦ whole (pos 1) | false ↦ whole (pos 0) ] ≈ zero_f
    go true h = absurd (apart (h tt))
    go false h = ≈-refl zero_f

unit_here : (p : ℤ) → unit p p ≈ one_f
unit_here p = go (same p p) (same_self p)
  where
    same_self : (p : ℤ) → T (same p p)
    same_self (pos m) = eqb_refl m
    same_self (negsuc m) = eqb_refl m

    go : (t : Bool) → T t → elim t [ true ↦ whole (pos 1) | false ↦ whole (pos 0) ] ≈ one_f
    go true h = ≈-refl one_f
    go false h = absurd h

-- the values of a line at the places from -m to m, nothing elsewhere
unfoldable made : ℕ → Line → Line
made zero f k = f (pos 0) ⊗ unit (pos 0) k
made (suc m) f k = made m f k ⊕ f (pos (suc m)) ⊗ unit (pos (suc m)) k ⊕ f (negsuc m) ⊗ unit (negsuc m) k

times_else : (c : Frac) (p k : ℤ) → (p ≡ k → ⊥) → c ⊗ unit p k ≈ zero_f
times_else c p k h = ≈-trans (⊗-cong (≈-refl c) (unit_else p k h)) (⊗-zero-r c)

times_here : (c : Frac) (p : ℤ) → c ⊗ unit p p ≈ c
times_here c p = ≈-trans (⊗-cong (≈-refl c) (unit_here p)) (≈-trans (⊗-comm c one_f) (⊗-one-l c))

abs_apart : {p k : ℤ} → (nat_abs p ≡ nat_abs k → ⊥) → p ≡ k → ⊥
abs_apart h e = h (ap nat_abs e)

made_else : (m : ℕ) (f : Line) (k : ℤ) → m < nat_abs k → made m f k ≈ zero_f
unfolding made
made_else zero f k h = times_else _ (pos 0) k (abs_apart (λ e. omega arith))
made_else (suc m) f k h =
    ≈-trans (⊕-cong (⊕-cong (made_else m f k (omega arith)) (times_else _ (pos (suc m)) k (abs_apart (λ e. omega arith)))) (times_else _ (negsuc m) k (abs_apart (λ e. omega arith))))
    (≈-trans (⊕-zero-r _) (⊕-zero-r _))

made_here : (m : ℕ) (f : Line) (k : ℤ) → nat_abs k ≤ m → made m f k ≈ f k
unfolding made
made_here zero f (pos zero) h = times_here (f (pos 0)) (pos 0)
made_here zero f (pos (suc n)) h = absurd (omega arith)
made_here zero f (negsuc n) h = absurd (omega arith)
made_here (suc m) f k h = go (dec_le (nat_abs k) m) (made_here m f k)
  where
    at_edge : (k : ℤ) → nat_abs k ≤ suc m → (nat_abs k ≤ m → ⊥) → made m f k ⊕ f (pos (suc m)) ⊗ unit (pos (suc m)) k ⊕ f (negsuc m) ⊗ unit (negsuc m) k ≈ f k
    at_edge (pos n) i out =
        let e : suc m ≡ n = omega arith in
        subst (λ (j : ℕ). made m f (pos j) ⊕ f (pos (suc m)) ⊗ unit (pos (suc m)) (pos j) ⊕ f (negsuc m) ⊗ unit (negsuc m) (pos j) ≈ f (pos j)) e
        (≈-trans (⊕-cong (⊕-cong (made_else m f (pos (suc m)) (omega arith)) (times_here (f (pos (suc m))) (pos (suc m)))) (times_else (f (negsuc m)) (negsuc m) (pos (suc m)) (λ q. absurd (tell q))))
        (≈-trans (⊕-zero-r _) (⊕-zero-l _)))
      where
        tell : negsuc m ≡ pos (suc m) → ⊥
        tell q = subst (λ (z : ℤ). T (same z (negsuc m))) q (eqb_refl m)
    at_edge (negsuc n) i out =
        let e : m ≡ n = omega arith in
        subst (λ (j : ℕ). made m f (negsuc j) ⊕ f (pos (suc m)) ⊗ unit (pos (suc m)) (negsuc j) ⊕ f (negsuc m) ⊗ unit (negsuc m) (negsuc j) ≈ f (negsuc j)) e
        (≈-trans (⊕-cong (⊕-cong (made_else m f (negsuc m) (omega arith)) (times_else (f (pos (suc m))) (pos (suc m)) (negsuc m) (λ q. absurd (tell q)))) (times_here (f (negsuc m)) (negsuc m)))
        (≈-trans (⊕-cong (⊕-zero-r zero_f) (≈-refl _)) (⊕-zero-l _)))
      where
        tell : pos (suc m) ≡ negsuc m → ⊥
        tell q = subst (λ (z : ℤ). T (same z (pos (suc m)))) q (eqb_refl (suc m))

    go : Dec (nat_abs k ≤ m) → (nat_abs k ≤ m → made m f k ≈ f k) → made m f k ⊕ f (pos (suc m)) ⊗ unit (pos (suc m)) k ⊕ f (negsuc m) ⊗ unit (negsuc m) k ≈ f k
    go (yes i) before =
        ≈-trans (⊕-cong (⊕-cong (before i) (times_else _ (pos (suc m)) k (abs_apart (λ e. omega arith)))) (times_else _ (negsuc m) k (abs_apart (λ e. omega arith))))
        (≈-trans (⊕-zero-r _) (⊕-zero-r _))
    go (no i) before = at_edge k h i

-- ---- linear functions of a line

pub record Linear (m : ℕ) (L : Line → Frac) : Type 0 where
  -- only the places from -m to m are seen
  pub seen : (f g : Line) → ((p : ℤ) → nat_abs p ≤ m → f p ≈ g p) → L f ≈ L g
  pub plus : (f g : Line) → L (λ p. f p ⊕ g p) ≈ L f ⊕ L g
  pub times : (c : Frac) (f : Line) → L (λ p. c ⊗ f p) ≈ c ⊗ L f

made_weighs : (b q : ℕ) → 0 < q → (n : ℕ) {L : Line → Frac} (j : ℕ) → Linear n L → (f : Line) → ((p : ℤ) → nat_abs p ≤ j → Within (f p) b q) → Weighs (sum_to j (λ p. L (unit p))) b q (L (made j f))
unfolding made sum_to
made_weighs b q z n {L} zero l f h = weighs_≈ (≈-sym (l.times (f (pos 0)) (unit (pos 0)))) (weighs_times b q (L (unit (pos 0))) (f (pos 0)) (h (pos 0) (omega arith)))
made_weighs b q z n {L} (suc j) l f h =
    weighs_≈ (≈-sym (≈-trans (l.plus (λ k. made j f k ⊕ f (pos (suc j)) ⊗ unit (pos (suc j)) k) (λ k. f (negsuc j) ⊗ unit (negsuc j) k)) (⊕-cong (≈-trans (l.plus (made j f) (λ k. f (pos (suc j)) ⊗ unit (pos (suc j)) k)) (⊕-cong (≈-refl _) (l.times _ _))) (l.times _ _))))
    (weighs_plus z (weighs_plus z (made_weighs b q z n j l f (λ p i. h p (omega arith))) (weighs_times b q (L (unit (pos (suc j)))) (f (pos (suc j))) (h (pos (suc j)) (omega arith)))) (weighs_times b q (L (unit (negsuc j))) (f (negsuc j)) (h (negsuc j) (omega arith))))

-- values of at most b / q give at most b / q times the sum of the magnitudes of the answers to units
pub linear_weighs : (b q : ℕ) → 0 < q → (m : ℕ) {L : Line → Frac} → Linear m L → (f : Line) → ((p : ℤ) → nat_abs p ≤ m → Within (f p) b q) → Weighs (sum_to m (λ p. L (unit p))) b q (L f)
linear_weighs b q z m l f h = weighs_≈ (l.seen (made m f) f (made_here m f)) (made_weighs b q z m m l f h)

-- a unit that is not seen gives nothing
pub linear_none : (m : ℕ) {L : Line → Frac} → Linear m L → (p : ℤ) → m < nat_abs p → L (unit p) ≈ zero_f
linear_none m {L} l p far =
    ≈-trans (l.seen (unit p) (λ k. zero_f ⊗ unit p k) (λ k i. ≈-trans (unit_else p k (abs_apart (λ e. omega arith))) (≈-sym (zeros (unit p k)))))
    (≈-trans (l.times zero_f (unit p)) (zeros (L (unit p))))
  where
    zeros : (x : Frac) → zero_f ⊗ x ≈ zero_f
    zeros x = ≈-trans (⊗-comm zero_f x) (⊗-zero-r x)

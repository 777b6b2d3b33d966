-- The shown pixel is less than one grey from the exact value, clamped to the depth (`one_grey`): the bound is below half a grey, and
-- rounding adds at most half a grey.
use Rattle.std.specs.Prelude.{ℕ, zero, suc, ◌+◌, ◌*◌, ◌-◌, ◌^◌, ◌<◌, ◌≤◌, min, [], ◌∷◌, ◌≡◌, refl, Bool, true, false, not, T, ℤ, pos, negsuc, neg_ℤ, nat_abs, ◌+ℤ◌, ◌*ℤ◌, ◌≤ℤ◌, ◌<ℤ◌}
use Rattle.std.proofs.Common.{sym, ◌∙◌, ap, subst, arith, mul-le-mul_right, mul-lt-mul_of_pos_right, mul-pos, lt_of_mul-lt-mul_right, ltb→lt, pow_pos, pow-add}
use Rattle.std.proofs.Math.Decide.{dec_lt}
use Rattle.std.specs.Int.Signed.{lt_z, lt_z_yes, lt_z_no}
use Rattle.numbers.specs.Abs.{abs_mul}
use Rattle.numbers.specs.Parts.{positive_part}
use Rattle.numbers.specs.Dif.{by_dif, difs}
use Rattle.numbers.specs.Floor.{floor_≤, floor_<}
use Rattle.exact.specs.Fractions.{Frac, ◌⊕◌, ◌⊗◌, neg, whole}
use Rattle.stages.specs.Fixed.{fixed_value}
use Rattle.width_table.specs.Limits.{form_depth}
use Rattle.inverse_lifting.specs.Fixed.{node_bits}
use Rattle.view_precision.specs.Bounds.{pixel_bound}
use Rattle.irreversible.specs.Pass.{abs_<}
use Rattle.viewing.specs.View.{grey, pixel, view_plane, view_picture, exact_view}
use Rattle.viewing.specs.Claims.{Close, exact_greys, clamped, LessThanOne, OneGrey}
use Rattle.viewing.proofs.Viewing.{view_promise, view_right, within_bound}

-- ---- halves go up, and greys are limited to the depth: single values at 8 bits, half a grey being 2048

pub shown_greys : pixel 8 (pos 0) ∷ pixel 8 (pos 2047) ∷ pixel 8 (pos 2048) ∷ pixel 8 (neg_ℤ (pos 2048)) ∷ pixel 8 (neg_ℤ (pos 2049)) ∷ pixel 8 (pos 1048576) ∷ pixel 8 (neg_ℤ (pos 1048576)) ∷ [] ≡ 128 ∷ 128 ∷ 129 ∷ 128 ∷ 127 ∷ 255 ∷ 0 ∷ []
unfolding pixel grey
shown_greys = refl

-- ---- a bound below half a grey

half_grey_lem : (B b : ℕ) (v : ℤ) (x : Frac) → B ≤ 31 → b < 2 ^ (32 - (B + 1)) → Close v x b → nat_abs (v *ℤ pos x.den +ℤ neg_ℤ x.num *ℤ pos (2 ^ node_bits)) * (2 * 2 ^ B) < 2 ^ node_bits * x.den
unfolding fixed_value ◌⊕◌ neg
half_grey_lem B b v x shallow h close =
    lt_of_mul-lt-mul_right (2 ^ (32 - (B + 1)))
    (law (nat_abs (v *ℤ pos x.den +ℤ neg_ℤ x.num *ℤ pos (2 ^ node_bits))) (2 * 2 ^ B) (2 ^ (32 - (B + 1))) (2 ^ 32) (2 ^ node_bits * x.den) b split h (mul-pos (pow_pos node_bits) x.above) close.most)
  where
    split : 2 ^ 32 ≡ 2 * 2 ^ B * 2 ^ (32 - (B + 1))
    split =
        let e : 32 ≡ 1 + B + (32 - (B + 1)) = omega arith in
        ap (λ (k : ℕ). 2 ^ k) e ∙ pow-add 2 (1 + B) (32 - (B + 1)) ∙ ap (λ (k : ℕ). k * 2 ^ (32 - (B + 1))) (pow-add 2 1 B)

    law : (s P W Z D b : ℕ) → Z ≡ P * W → b < W → 0 < D → s * Z ≤ b * D → s * P * W < D * W
    law s P W Z D b e i z k = omega (arith, ap (λ (t : ℕ). s * t) e, mul-lt-mul_of_pos_right i z)

-- ---- rounding: the grey g is above x - 1 and below x + 1

record Around (g : ℤ) (x : Frac) : Type 0 where
  above : (g *ℤ pos x.den) <ℤ (x.num +ℤ pos x.den)
  below : x.num <ℤ (g *ℤ pos x.den +ℤ pos x.den)

times_≤ : (n : ℕ) (x y : ℤ) → x ≤ℤ y → (pos n *ℤ x) ≤ℤ (pos n *ℤ y)
times_≤ n = by_dif _ λ a a'. by_dif _ λ b b'. simp difs (λ h. omega (arith, mul-le-mul_right n h))

less_≤ : (x y : ℤ) → x <ℤ y → x ≤ℤ y
less_≤ = by_dif _ λ a a'. by_dif _ λ b b'. simp difs (omega arith)

module _ (D P H : ℕ) where
  -- v at 20 bits in greys, of which P make 1, with H greys and half a grey added
  abbrev half_more : ℤ → ℤ
  half_more v = v *ℤ pos P +ℤ pos (H * 2 ^ node_bits) +ℤ pos (2 ^ (node_bits - 1))

  above_law : (v N g : ℤ) → ((v *ℤ pos D +ℤ neg_ℤ N *ℤ pos (2 ^ node_bits)) *ℤ pos (2 * P)) <ℤ pos (2 ^ node_bits * D) → (pos D *ℤ (pos (2 ^ node_bits) *ℤ g)) ≤ℤ (pos D *ℤ half_more v)
      → (g *ℤ pos (1 * D * 1)) <ℤ (pos P *ℤ N *ℤ pos 1 +ℤ pos (H * (1 * D)) +ℤ pos (1 * D * 1))
  above_law = by_dif _ λ v v'. by_dif _ λ n n'. by_dif _ λ g g'. simp difs (omega arith)

  below_law : (v N g : ℤ) → neg_ℤ (pos (2 ^ node_bits * D)) <ℤ ((v *ℤ pos D +ℤ neg_ℤ N *ℤ pos (2 ^ node_bits)) *ℤ pos (2 * P)) → (pos D *ℤ half_more v) ≤ℤ (pos D *ℤ (pos (2 ^ node_bits) *ℤ g +ℤ pos (2 ^ node_bits)))
      → (pos P *ℤ N *ℤ pos 1 +ℤ pos (H * (1 * D))) <ℤ (g *ℤ pos (1 * D * 1) +ℤ pos (1 * D * 1))
  below_law = by_dif _ λ v v'. by_dif _ λ n n'. by_dif _ λ g g'. simp difs (omega arith)

grey_around : (B b : ℕ) (v : ℤ) (x : Frac) → B ≤ 31 → b < 2 ^ (32 - (B + 1)) → Close v x b → Around (grey B v) (exact_greys B x)
unfolding grey exact_greys whole ◌⊗◌ ◌⊕◌
grey_around B b v x shallow h close =
    let z = v *ℤ pos x.den +ℤ neg_ℤ x.num *ℤ pos (2 ^ node_bits) in
    let near = abs_< (2 ^ node_bits * x.den) (z *ℤ pos (2 * 2 ^ B)) (subst (λ (k : ℕ). k < 2 ^ node_bits * x.den) (sym (abs_mul z (pos (2 * 2 ^ B)))) (half_grey_lem B b v x shallow h close)) in
    let s = half_more x.den (2 ^ B) (2 ^ (B - 1)) v in
    record {
      above = above_law x.den (2 ^ B) (2 ^ (B - 1)) v x.num (grey B v) near.1 (times_≤ x.den _ _ (floor_≤ s (2 ^ node_bits) (pow_pos node_bits)));
      below = below_law x.den (2 ^ B) (2 ^ (B - 1)) v x.num (grey B v) near.0 (times_≤ x.den _ _ (less_≤ _ _ (floor_< s (2 ^ node_bits) (pow_pos node_bits))));
    }

-- ---- limiting both to 0 .. M keeps them less than 1 apart

-- a grey g and an exact value X / d
module _ (M d : ℕ) (some : 0 < d) where
  abbrev limit : ℤ → ℕ
  limit g = min (positive_part g) M

  under : (g X : ℤ) → (g *ℤ pos d) <ℤ (X +ℤ pos d) → X <ℤ pos 0 → limit g ≡ 0
  under (pos zero) X h i = omega arith
  under (pos (suc k)) X h i = absurd (none X h i)
    where
      none : (X : ℤ) → (pos (suc k) *ℤ pos d) <ℤ (X +ℤ pos d) → X <ℤ pos 0 → ⊥
      none = by_dif _ λ a a'. simp difs (omega arith)
  under (negsuc k) X h i = omega arith

  over : (g X : ℤ) → X <ℤ (g *ℤ pos d +ℤ pos d) → pos (M * d) <ℤ X → limit g ≡ M
  over (pos n) X h i = go (dec_lt n M)
    where
      none : n < M → (X : ℤ) → X <ℤ (pos n *ℤ pos d +ℤ pos d) → pos (M * d) <ℤ X → ⊥
      none j = by_dif _ λ a a'. simp difs (λ h i. omega (arith, mul-le-mul_right d j))

      go : Dec (n < M) → min n M ≡ M
      go (yes j) = absurd (none j X h i)
      go (no j) = omega arith
  over (negsuc n) X h i = absurd (none X h i)
    where
      none : (X : ℤ) → X <ℤ (negsuc n *ℤ pos d +ℤ pos d) → pos (M * d) <ℤ X → ⊥
      none = by_dif _ λ a a'. simp difs (omega arith)

  -- X over d is less than 1 from q
  abbrev Apart : ℕ → ℤ → Type 0
  Apart q X = (pos (q * d) <ℤ (X +ℤ pos d)) × (X <ℤ pos ((q + 1) * d))

  inside : (g X : ℤ) → (g *ℤ pos d) <ℤ (X +ℤ pos d) → X <ℤ (g *ℤ pos d +ℤ pos d) → pos 0 ≤ℤ X → X ≤ℤ pos (M * d) → Apart (limit g) X
  inside (pos n) X h i j k = go (dec_lt n M)
    where
      same : (X : ℤ) → (pos n *ℤ pos d) <ℤ (X +ℤ pos d) → X <ℤ (pos n *ℤ pos d +ℤ pos d) → Apart n X
      same = by_dif _ λ a a'. simp difs (omega arith)

      most : M ≤ n → (X : ℤ) → (pos n *ℤ pos d) <ℤ (X +ℤ pos d) → X ≤ℤ pos (M * d) → Apart M X
      most l = by_dif _ λ a a'. simp difs (λ h k. (omega (arith, mul-le-mul_right d l), omega arith))

      go : Dec (n < M) → Apart (min n M) X
      go (yes l) = subst (λ (q : ℕ). Apart q X) (omega arith) (same X h i)
      go (no l) = subst (λ (q : ℕ). Apart q X) (omega arith) (most (omega arith) X h k)
  inside (negsuc n) X h i j k = subst (λ (q : ℕ). Apart q X) (omega arith) (least X i j)
    where
      least : (X : ℤ) → X <ℤ (negsuc n *ℤ pos d +ℤ pos d) → pos 0 ≤ℤ X → Apart 0 X
      least = by_dif _ λ a a'. simp difs (omega arith)

one_apart : (M : ℕ) (g : ℤ) (x : Frac) → Around g x → LessThanOne (min (positive_part g) M) (clamped M x)
unfolding clamped whole ◌⊕◌
one_apart M g x a = go (lt_z x.num (pos 0)) (λ t. lt_z_yes t) (λ t. lt_z_no t)
  where
    q : ℕ
    q = min (positive_part g) M

    whole_apart : (k : ℕ) → q ≡ k → LessThanOne q (whole (pos k))
    whole_apart k e = (simp difs (omega arith), simp difs (omega arith))

    apart : Apart M x.den x.above q x.num → LessThanOne q x
    apart h = (first q x.den x.num h.0, second q x.den x.num h.1)
      where
        first : (q d : ℕ) (X : ℤ) → pos (q * d) <ℤ (X +ℤ pos d) → pos (q * (d * 1)) <ℤ ((X *ℤ pos 1 +ℤ pos (1 * d)) *ℤ pos 1)
        first q d = by_dif _ λ a a'. simp difs (omega arith)

        second : (q d : ℕ) (X : ℤ) → X <ℤ pos ((q + 1) * d) → (X *ℤ pos 1) <ℤ pos ((q + 1) * d)
        second q d = by_dif _ λ a a'. simp difs (omega arith)

    within : (s : Bool) → (T s → pos (M * x.den) <ℤ x.num) → (T (not s) → x.num ≤ℤ pos (M * x.den)) → pos 0 ≤ℤ x.num → LessThanOne q (elim s [ true ↦ whole (pos M) | false ↦ x ])
    within true f h n = whole_apart M (over M x.den x.above g x.num a.below (f tt))
    within false f h n = apart (inside M x.den x.above g x.num a.above a.below n (h tt))

    go : (s : Bool) → (T s → x.num <ℤ pos 0) → (T (not s) → pos 0 ≤ℤ x.num) → LessThanOne q (elim s [ true ↦ whole (pos 0) | false ↦ elim (lt_z (pos (M * x.den)) x.num) [ true ↦ whole (pos M) | false ↦ x ] ])
    go true f h = whole_apart 0 (under M x.den x.above g x.num a.above (f tt))
    go false f h = within (lt_z (pos (M * x.den)) x.num) (λ t. lt_z_yes t) (λ t. lt_z_no t) (h tt)

pub one_grey : OneGrey
unfolding view_picture pixel
one_grey t w h p ok s r c i j =
    one_apart (2 ^ t.depth - 1) _ _
    (grey_around t.depth (pixel_bound t) (view_plane t w h p r c) (exact_view t w h p r c) (omega (arith, (form_depth t (view_promise t ok).form).1)) (ltb→lt _ _ (view_right t ok).1)
    (within_bound t w h p ok s r c i j))

-- The exact inverse inverts the exact transform, and the exact transform it, at every place of a line (`line_left_inverse`, `line_right_inverse`) and of a
-- plane (`plane_left_inverse`, `plane_right_inverse`; of a picture `picture_left_inverse`).
use Rattle.std.specs.Prelude.{ℕ, ◌+◌, ◌*◌, ◌<◌, List, ◌≡◌, refl}
use Rattle.std.proofs.Common.{subst, arith}
use Rattle.lines.specs.Lines.{lows, highs, Liftable, low_after, high_before, high_after, on_highs, on_lows}
use Rattle.lines.specs.LineLaws.{some_highs_lem, first_low_lem, first_high, even_place_lem, odd_place, by_parity, by_half}
use Rattle.lines.specs.Neighbours.{low_after_in, high_before_in, high_after_in}
use Rattle.lines.specs.Planes.{Plane, level_columns_first, levels}
use Rattle.lines.specs.InverseLaws.{Equivalence, Inverses, InversesPart, rows_first_inverses, levels_left_inverse, levels_right_inverse}
use Rattle.lines.specs.OneLaws.{one_inverses}
use Rattle.lines.proofs.CaseLaws.{Congruence}
use Rattle.exact.specs.Fractions.{Frac, ◌≈◌, ◌⊕◌, ◌⊗◌, neg, whole, zero_f, one_f}
use Rattle.exact.specs.FracLaws.{≈-refl, ≈-sym, ≈-trans, ⊕-cong, ⊗-cong, ⊕-swap, ⊕-neg, neg_cong, ⊕-zero-l, ⊕-zero-r, ⊗-assoc, ⊗-one-l, plus_back}
use Rattle.exact.specs.Exact.{alpha, beta, gamma, delta, zeta, zeta_inverse, lift, low₀, high₀, p1, u1, p2, u2, g1, g2, exact_long, exact_pass}
use Rattle.exact.specs.Picture.{exact_level, exact_sample, exact_plane}
use Rattle.exact.specs.Inverse.{inverse_lift, un_g1, un_g2, un_u2, un_p2, un_u1, un_p1, exact_inverse_long, exact_inverse_pass, exact_inverse}

pub same_≈ : Equivalence ◌≈◌
same_≈ = record { reflexive = ≈-refl; symmetric = ≈-sym; transitive = ≈-trans }

pub is : {x y : Frac} → x ≡ y → x ≈ y
is {x} e = subst (λ (z : Frac). x ≈ z) e (≈-refl x)

-- ---- steps

pub lift_cong : (c : Frac) → Congruence ◌≈◌ (lift c)
unfolding lift
lift_cong c = record { alike = λ h i j. ⊕-cong h (⊗-cong (≈-refl c) (⊕-cong i j)) }

pub inverse_lift_cong : (c : Frac) → Congruence ◌≈◌ (inverse_lift c)
unfolding inverse_lift
inverse_lift_cong c = record { alike = λ h i j. ⊕-cong h (neg_cong (⊗-cong (≈-refl c) (⊕-cong i j))) }

-- (a + s) - s is a
minus_back : (a s : Frac) → (a ⊕ s) ⊕ neg s ≈ a
minus_back a s =
    ≈-trans (⊕-cong (≈-refl (a ⊕ s)) (≈-sym (⊕-zero-l (neg s))))
    (≈-trans (⊕-swap a s zero_f (neg s))
    (≈-trans (⊕-cong (⊕-zero-r a) (⊕-neg s)) (⊕-zero-r a)))

inverse_lift_lift : (c a x y : Frac) → inverse_lift c (lift c a x y) x y ≈ a
unfolding lift inverse_lift
inverse_lift_lift c a x y = minus_back a (c ⊗ (x ⊕ y))

lift_inverse_lift : (c a x y : Frac) → lift c (inverse_lift c a x y) x y ≈ a
unfolding lift inverse_lift
lift_inverse_lift c a x y = plus_back a (c ⊗ (x ⊕ y))

-- two constants whose product is 1
times_out : (c d : Frac) → c ⊗ d ≈ one_f → (a : Frac) → c ⊗ (d ⊗ a) ≈ a
times_out c d one a = ≈-trans (≈-sym (⊗-assoc c d a)) (≈-trans (⊗-cong one (≈-refl a)) (⊗-one-l a))

zeta_out : (a : Frac) → zeta_inverse ⊗ (zeta ⊗ a) ≈ a
unfolding ◌⊗◌ whole
zeta_out = times_out zeta_inverse zeta (record { eq = refl })

zeta_in : (a : Frac) → zeta ⊗ (zeta_inverse ⊗ a) ≈ a
unfolding ◌⊗◌ whole
zeta_in = times_out zeta zeta_inverse (record { eq = refl })

-- ---- a line of two values or more

-- alike at the places below m
abbrev pub Likewise : ℕ → (ℕ → Frac) → (ℕ → Frac) → Type 0
Likewise m x y = (i : ℕ) → i < m → x i ≈ y i

module _ (n : ℕ) (works : Liftable n) where
  -- a stage reads the line's own values
  module _ {l m h g : ℕ → Frac} (at_lows : Likewise (lows n) l m) (at_highs : Likewise (highs n) h g) (f : Frac → Frac → Frac → Frac) (ok : Congruence ◌≈◌ f) where
    highs_alike : Likewise (highs n) (on_highs f n l h) (on_highs f n m g)
    unfolding on_highs
    highs_alike i p = ok.alike (at_highs i p) (at_lows i (omega arith)) (at_lows (low_after n i) (low_after_in n i p))

    lows_alike : Likewise (lows n) (on_lows f n l h) (on_lows f n m g)
    unfolding on_lows
    lows_alike i p = ok.alike (at_lows i p) (at_highs (high_before i) (high_before_in n i (some_highs_lem n works) p)) (at_highs (high_after n i) (high_after_in n i (some_highs_lem n works) p))

  module _ (x : ℕ → Frac) where
    y : ℕ → Frac
    y = exact_long n x

    G1-left-inverse : Likewise (lows n) (un_g1 n y) (u2 n x)
    unfolding un_g1 y exact_long g1
    G1-left-inverse i h = ≈-trans (⊗-cong (≈-refl zeta_inverse) (is (first_low_lem n (g1 n x) (g2 n x) i h))) (zeta_out (u2 n x i))

    G2-left-inverse : Likewise (highs n) (un_g2 n y) (p2 n x)
    unfolding un_g2 y exact_long g2
    G2-left-inverse i h = ≈-trans (⊗-cong (≈-refl zeta) (is (first_high n (g1 n x) (g2 n x) i))) (zeta_in (p2 n x i))

    U2-left-inverse : Likewise (lows n) (un_u2 n y) (u1 n x)
    unfolding un_u2 u2 on_lows
    U2-left-inverse i h = ≈-trans (lows_alike G1-left-inverse G2-left-inverse (inverse_lift delta) (inverse_lift_cong delta) i h) (inverse_lift_lift delta _ _ _)

    P2-left-inverse : Likewise (highs n) (un_p2 n y) (p1 n x)
    unfolding un_p2 p2 on_highs
    P2-left-inverse i h = ≈-trans (highs_alike U2-left-inverse G2-left-inverse (inverse_lift gamma) (inverse_lift_cong gamma) i h) (inverse_lift_lift gamma _ _ _)

    U1-left-inverse : Likewise (lows n) (un_u1 n y) (low₀ n x)
    unfolding un_u1 u1 on_lows
    U1-left-inverse i h = ≈-trans (lows_alike U2-left-inverse P2-left-inverse (inverse_lift beta) (inverse_lift_cong beta) i h) (inverse_lift_lift beta _ _ _)

    P1-left-inverse : Likewise (highs n) (un_p1 n y) (high₀ n x)
    unfolding un_p1 p1 on_highs
    P1-left-inverse i h = ≈-trans (highs_alike U1-left-inverse P2-left-inverse (inverse_lift alpha) (inverse_lift_cong alpha) i h) (inverse_lift_lift alpha _ _ _)

    long_left_inverse : Likewise n (exact_inverse_long n (exact_long n x)) x
    unfolding exact_inverse_long y low₀ high₀
    long_left_inverse = by_parity (λ k. exact_inverse_long n (exact_long n x) k ≈ x k) n
        (λ i h. ≈-trans (is (even_place_lem (un_u1 n y) (un_p1 n y) i)) (U1-left-inverse i h))
        (λ i h. ≈-trans (is (odd_place (un_u1 n y) (un_p1 n y) i)) (P1-left-inverse i h))

  module _ (y : ℕ → Frac) where
    x : ℕ → Frac
    x = exact_inverse_long n y

    at_low : (i : ℕ) → low₀ n x i ≈ un_u1 n y i
    unfolding low₀ x exact_inverse_long
    at_low i = is (even_place_lem (un_u1 n y) (un_p1 n y) i)

    at_high : (i : ℕ) → high₀ n x i ≈ un_p1 n y i
    unfolding high₀ x exact_inverse_long
    at_high i = is (odd_place (un_u1 n y) (un_p1 n y) i)

    P1-right-inverse : (i : ℕ) → p1 n x i ≈ un_p2 n y i
    unfolding p1 un_p1 on_highs
    P1-right-inverse i = ≈-trans ((lift_cong alpha).alike (at_high i) (at_low i) (at_low (low_after n i))) (lift_inverse_lift alpha _ _ _)

    U1-right-inverse : (i : ℕ) → u1 n x i ≈ un_u2 n y i
    unfolding u1 un_u1 on_lows
    U1-right-inverse i = ≈-trans ((lift_cong beta).alike (at_low i) (P1-right-inverse (high_before i)) (P1-right-inverse (high_after n i))) (lift_inverse_lift beta _ _ _)

    P2-right-inverse : (i : ℕ) → p2 n x i ≈ un_g2 n y i
    unfolding p2 un_p2 on_highs
    P2-right-inverse i = ≈-trans ((lift_cong gamma).alike (P1-right-inverse i) (U1-right-inverse i) (U1-right-inverse (low_after n i))) (lift_inverse_lift gamma _ _ _)

    U2-right-inverse : (i : ℕ) → u2 n x i ≈ un_g1 n y i
    unfolding u2 un_u2 on_lows
    U2-right-inverse i = ≈-trans ((lift_cong delta).alike (U1-right-inverse i) (P2-right-inverse (high_before i)) (P2-right-inverse (high_after n i))) (lift_inverse_lift delta _ _ _)

    G1-right-inverse : (i : ℕ) → g1 n x i ≈ y i
    unfolding g1 un_g1
    G1-right-inverse i = ≈-trans (⊗-cong (≈-refl zeta) (U2-right-inverse i)) (zeta_in (y i))

    G2-right-inverse : (i : ℕ) → g2 n x i ≈ y (lows n + i)
    unfolding g2 un_g2
    G2-right-inverse i = ≈-trans (⊗-cong (≈-refl zeta_inverse) (P2-right-inverse i)) (zeta_out (y (lows n + i)))

    long_right_inverse : Likewise n (exact_long n (exact_inverse_long n y)) y
    unfolding exact_long x
    long_right_inverse = by_half (λ k. exact_long n (exact_inverse_long n y) k ≈ y k) n
        (λ i h. ≈-trans (is (first_low_lem n (g1 n x) (g2 n x) i h)) (G1-right-inverse i))
        (λ i h. ≈-trans (is (first_high n (g1 n x) (g2 n x) i)) (G2-right-inverse i))

  -- neither reads more than its n values
  module _ (x y : ℕ → Frac) (same : Likewise n x y) where
    pass_same : Likewise n (exact_long n x) (exact_long n y)
    unfolding exact_long low₀ high₀ p1 u1 p2 u2 g1 g2
    pass_same =
        let l0 : Likewise (lows n) (low₀ n x) (low₀ n y) = λ i h. same (2 * i) (omega arith) in
        let h0 : Likewise (highs n) (high₀ n x) (high₀ n y) = λ i h. same (2 * i + 1) (omega arith) in
        let h1 = highs_alike l0 h0 (lift alpha) (lift_cong alpha) in
        let l1 = lows_alike l0 h1 (lift beta) (lift_cong beta) in
        let h2 = highs_alike l1 h1 (lift gamma) (lift_cong gamma) in
        let l2 = lows_alike l1 h2 (lift delta) (lift_cong delta) in
        by_half (λ k. exact_long n x k ≈ exact_long n y k) n
        (λ i h. ≈-trans (is (first_low_lem n (g1 n x) (g2 n x) i h)) (≈-trans (⊗-cong (≈-refl zeta) (l2 i h)) (≈-sym (is (first_low_lem n (g1 n y) (g2 n y) i h)))))
        (λ i h. ≈-trans (is (first_high n (g1 n x) (g2 n x) i)) (≈-trans (⊗-cong (≈-refl zeta_inverse) (h2 i h)) (≈-sym (is (first_high n (g1 n y) (g2 n y) i)))))

    back_same : Likewise n (exact_inverse_long n x) (exact_inverse_long n y)
    unfolding exact_inverse_long un_g1 un_g2 un_u2 un_p2 un_u1 un_p1
    back_same =
        let l0 : Likewise (lows n) (un_g1 n x) (un_g1 n y) = λ i h. ⊗-cong (≈-refl zeta_inverse) (same i (omega arith)) in
        let h0 : Likewise (highs n) (un_g2 n x) (un_g2 n y) = λ i h. ⊗-cong (≈-refl zeta) (same (lows n + i) (omega arith)) in
        let l1 = lows_alike l0 h0 (inverse_lift delta) (inverse_lift_cong delta) in
        let h1 = highs_alike l1 h0 (inverse_lift gamma) (inverse_lift_cong gamma) in
        let l2 = lows_alike l1 h1 (inverse_lift beta) (inverse_lift_cong beta) in
        let h2 = highs_alike l2 h1 (inverse_lift alpha) (inverse_lift_cong alpha) in
        by_parity (λ k. exact_inverse_long n x k ≈ exact_inverse_long n y k) n
        (λ i h. ≈-trans (is (even_place_lem (un_u1 n x) (un_p1 n x) i)) (≈-trans (l2 i h) (≈-sym (is (even_place_lem (un_u1 n y) (un_p1 n y) i)))))
        (λ i h. ≈-trans (is (odd_place (un_u1 n x) (un_p1 n x) i)) (≈-trans (h2 i h) (≈-sym (is (odd_place (un_u1 n y) (un_p1 n y) i)))))

-- each takes the other back, at every length
lines_left_inverse : Inverses ◌≈◌ exact_pass exact_inverse_pass
unfolding exact_pass exact_inverse_pass
lines_left_inverse = one_inverses same_≈ exact_long exact_inverse_long pass_same back_same long_left_inverse long_right_inverse

module _ (n : ℕ) (x : ℕ → Frac) where
  pub line_left_inverse : Likewise n (exact_inverse_pass n (exact_pass n x)) x
  line_left_inverse = lines_left_inverse.there.left_inverse_lem n x

  pub line_right_inverse : Likewise n (exact_pass n (exact_inverse_pass n x)) x
  line_right_inverse = lines_left_inverse.back.left_inverse_lem n x

-- ---- a plane

level_left_inverse : InversesPart ◌≈◌ exact_level (level_columns_first exact_inverse_pass (λ low. exact_inverse_pass))
level_left_inverse = rows_first_inverses same_≈ lines_left_inverse (λ low. lines_left_inverse)

module _ (L w h : ℕ) (p : Plane Frac) (r c : ℕ) where
  -- The exact inverse of the exact transform of a plane is the plane.
  pub plane_left_inverse : exact_inverse L w h (levels (λ l. exact_level) L w h p) r c ≈ p r c
  unfolding exact_inverse
  plane_left_inverse = levels_left_inverse same_≈ (λ l. level_left_inverse) w h L p r c

  -- The exact transform of the exact inverse of a plane is the plane.
  pub plane_right_inverse : levels (λ l. exact_level) L w h (exact_inverse L w h p) r c ≈ p r c
  unfolding exact_inverse
  plane_right_inverse = levels_right_inverse same_≈ (λ l. level_left_inverse) w h L p r c

-- The exact inverse of the exact transform of a picture is the picture.
pub picture_left_inverse : (pixels : List ℕ) (B L w h r c : ℕ) → exact_inverse L w h (exact_plane pixels B L w h) r c ≈ exact_sample pixels B w r c
unfolding exact_plane
picture_left_inverse pixels B L w h r c = plane_left_inverse L w h (exact_sample pixels B w) r c

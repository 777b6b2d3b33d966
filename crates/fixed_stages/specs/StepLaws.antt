-- What the step of a stage makes of a value and two neighbours is the stage, whatever the width of its product (`step_applied`); what its scaling
-- makes of a value, likewise (`scale_applied`, `single_applied`).
use Rattle.std.specs.Prelude.{ℕ, ◌+◌, ◌*◌, ◌-◌, ◌^◌, ◌<◌, ◌≤◌, max, min, Bool, ◌&&◌, ◌||◌, not, List, [], ◌∷◌, ◌≡◌, refl, T, leb, ℤ, pos, ◌+ℤ◌, ◌*ℤ◌, ◌≤ℤ◌, ◌<ℤ◌}
use Rattle.std.proofs.Math.Bool.{true, false}
use Rattle.std.proofs.Common.{sym, ◌∙◌, ap₂, subst, arith, mul-pos, mul-le-mul_left, pow-add, pow_pos}
use Rattle.std.proofs.Math.Path.{ap}
use Rattle.std.proofs.Math.IntN.{*ℤ_comm}
use Rattle.numbers.specs.Dif.{by_dif, difs}
use Rattle.numbers.specs.Floor.{floor_div, floor_≤, floor_<, floor_unique}
use Rattle.numbers.specs.Laws.{*ℤ-assoc, *ℤ-one-r}
use Rattle.numbers.specs.Tests.{by_leb}
use Rattle.numbers.specs.Quote.{terms, vars, ring}
use Rattle.exact.specs.Fractions.{Frac}
use Rattle.lifting.specs.Steps.{applied, scaled_by}
use Rattle.stages.specs.Stages.{Product, uncut, cut_to}
use Rattle.stages.specs.Fixed.{nearest, cut, cut_product, step, scale}
use Rattle.stages.proofs.Own.{cut_lossy}
use Rattle.stages.proofs.ProductLaws.{step_wide}
use Rattle.fixed_stages.specs.Steps.{step_top, once_of, cut_of, cut_together, step_of, factor_of, single_of}

-- powers that add up
two_powers : (a b n : ℕ) → a + b ≡ n → pos (2 ^ a) *ℤ pos (2 ^ b) ≡ pos (2 ^ n)
two_powers a b n e = ap pos (sym (pow-add 2 a b) ∙ ap (λ (k : ℕ). 2 ^ k) e)

-- the sum raised by P, and the product raised by P
sum_law : (own k s A B P : ℤ) → (own *ℤ A +ℤ k *ℤ s *ℤ B) *ℤ P ≡ A *ℤ P *ℤ own +ℤ k *ℤ (B *ℤ P) *ℤ s
sum_law own k s A B P = let ρ : List ℤ = own ∷ k ∷ s ∷ A ∷ B ∷ P ∷ [] in ring ρ (search (terms, vars ρ) depth 30) (search (terms, vars ρ) depth 30) tt

product_law : (k x P : ℤ) → k *ℤ x *ℤ P ≡ k *ℤ P *ℤ x
product_law k x P = let ρ : List ℤ = k ∷ x ∷ P ∷ [] in ring ρ (search (terms, vars ρ) depth 30) (search (terms, vars ρ) depth 30) tt

-- bits up to the full precision, and from there to the node's where they are more
rise : (full f a : ℕ) → a ≤ full → full - a + (f - full) ≡ max full f - a
rise full f a h = omega arith

-- bits that are cut
fall : (full f : ℕ) → full - f ≡ max full f - f
fall full f = omega arith

-- ---- a stage

-- What the step with one cut makes of a value and two neighbours is the stage whose product is not cut.
once_applied : (c : Frac) (F fm fo f : ℕ) (own x y : ℤ) → applied (once_of (nearest c F) F fm fo f) own x y ≡ step uncut c F fm fo f own x y
unfolding step cut_product cut once_of
once_applied c F fm fo f own x y =
    let full : ℕ = max fo (F + fm) in
    let top : ℕ = step_top F fm fo f in
    sym (ap₂ (λ (z : ℤ) (b : ℕ). floor_div z (2 ^ b))
    (sum_law own (nearest c F) (x +ℤ y) (pos (2 ^ (full - fo))) (pos (2 ^ (full - (F + fm)))) (pos (2 ^ (f - full)))
    ∙ ap₂ (λ (a b : ℤ). a *ℤ own +ℤ nearest c F *ℤ b *ℤ (x +ℤ y)) (two_powers (full - fo) (f - full) (top - fo) (rise full f fo (omega arith))) (two_powers (full - (F + fm)) (f - full) (top - (F + fm)) (rise full f (F + fm) (omega arith))))
    (fall full f))

-- a cut after a cut is one cut: ⌊(A + ⌊z / m⌋) / n⌋ is ⌊(A m + z) / (m n)⌋
floor_floor : (A z : ℤ) (m n : ℕ) → 0 < m → 0 < n → floor_div (A +ℤ floor_div z m) n ≡ floor_div (A *ℤ pos m +ℤ z) (m * n)
floor_floor A z m n hm hn =
    let r : ℤ = floor_div z m in
    let q : ℤ = floor_div (A +ℤ r) n in
    sym (floor_unique (A *ℤ pos m +ℤ z) q (m * n) (mul-pos hm hn) (low m n A r q z (floor_≤ (A +ℤ r) n hn) (floor_≤ z m hm)) (high m n A r q z (floor_< (A +ℤ r) n hn) (floor_< z m hm)))
  where
    low : (m n : ℕ) (A r q z : ℤ) → (pos n *ℤ q) ≤ℤ (A +ℤ r) → (pos m *ℤ r) ≤ℤ z → (pos (m * n) *ℤ q) ≤ℤ (A *ℤ pos m +ℤ z)
    low m n = by_dif _ λ a a'. by_dif _ λ b b'. by_dif _ λ c c'. by_dif _ λ d d'. simp difs (λ h k. omega (arith, mul-le-mul_left m h, k))

    high : (m n : ℕ) (A r q z : ℤ) → (A +ℤ r) <ℤ (pos n *ℤ q +ℤ pos n) → z <ℤ (pos m *ℤ r +ℤ pos m) → (A *ℤ pos m +ℤ z) <ℤ (pos (m * n) *ℤ q +ℤ pos (m * n))
    high m n = by_dif _ λ a a'. by_dif _ λ b b'. by_dif _ λ c c'. by_dif _ λ d d'. simp difs (λ h k. omega (arith, mul-le-mul_left m h, k))

-- a sum at the bits of its product, p, cut to f bits
sum_cut : (own K : ℤ) (fo f p : ℕ) → fo ≤ p → f ≤ p → cut (max fo p) f (own *ℤ pos (2 ^ (max fo p - fo)) +ℤ K *ℤ pos (2 ^ (max fo p - p))) ≡ floor_div (own *ℤ pos (2 ^ (p - fo)) +ℤ K) (2 ^ (p - f))
unfolding cut
sum_cut own K fo f p i j =
    let m : max fo p ≡ p = omega arith in
    let o : p - p ≡ 0 = omega arith in
    let n : f - p ≡ 0 = omega arith in
    ap (λ (q : ℕ). cut q f (own *ℤ pos (2 ^ (q - fo)) +ℤ K *ℤ pos (2 ^ (q - p)))) m
    ∙ ap₂ (λ (k l : ℕ). floor_div ((own *ℤ pos (2 ^ (p - fo)) +ℤ K *ℤ pos (2 ^ k)) *ℤ pos (2 ^ l)) (2 ^ (p - f))) o n
    ∙ ap (λ (z : ℤ). floor_div z (2 ^ (p - f))) (*ℤ-one-r (own *ℤ pos (2 ^ (p - fo)) +ℤ K *ℤ pos 1) ∙ ap (λ (z : ℤ). own *ℤ pos (2 ^ (p - fo)) +ℤ z) (*ℤ-one-r K))

-- a product that leaves no fewer bits than own value and node have is cut with the sum
step_together : (fp : ℕ) (c : Frac) (F fm fo f : ℕ) (own x y : ℤ) → fp < F + fm → fo ≤ fp → f ≤ fp → step (cut_to fp) c F fm fo f own x y ≡ step uncut c F fm fo f own x y
unfolding step cut_product
step_together fp c F fm fo f own x y less a b =
    let full : ℕ = F + fm in
    let W : ℤ = nearest c F *ℤ (x +ℤ y) in
    let sum : ℕ → ℤ → ℤ = λ p K. own *ℤ pos (2 ^ (max fo p - fo)) +ℤ K *ℤ pos (2 ^ (max fo p - p)) in
    let e : min fp full ≡ fp = omega arith in
    ap (λ (p : ℕ). cut (max fo p) f (sum p (cut full p W))) e
    ∙ sum_cut own (cut full fp W) fo f fp a b
    ∙ ap (λ (K : ℤ). floor_div (own *ℤ pos (2 ^ (fp - fo)) +ℤ K) (2 ^ (fp - f))) (cut_lossy full fp W less)
    ∙ floor_floor (own *ℤ pos (2 ^ (fp - fo))) W (2 ^ (full - fp)) (2 ^ (fp - f)) (pow_pos (full - fp)) (pow_pos (fp - f))
    ∙ ap₂ (λ (A : ℤ) (m : ℕ). floor_div (A +ℤ W) m)
    (*ℤ-assoc own (pos (2 ^ (fp - fo))) (pos (2 ^ (full - fp))) ∙ ap (λ (P : ℤ). own *ℤ P) (two_powers (fp - fo) (full - fp) (full - fo) (omega arith)))
    (sym (pow-add 2 (full - fp) (fp - f)) ∙ ap (λ (k : ℕ). 2 ^ k) (omega arith))
    ∙ sym (sum_cut own W fo f full (omega arith) (omega arith))

cut_law : (own K A B P : ℤ) → (own *ℤ A +ℤ K *ℤ B) *ℤ P ≡ A *ℤ P *ℤ own +ℤ B *ℤ P *ℤ K
cut_law own K A B P = let ρ : List ℤ = own ∷ K ∷ A ∷ B ∷ P ∷ [] in ring ρ (search (terms, vars ρ) depth 30) (search (terms, vars ρ) depth 30) tt

-- a sum whose product has p bits, raised to the bits of own value and node, which are more, and cut to f
sum_scaled_up : (own K : ℤ) (fo f p : ℕ) → p < max fo f → cut (max fo p) f (own *ℤ pos (2 ^ (max fo p - fo)) +ℤ K *ℤ pos (2 ^ (max fo p - p))) ≡ floor_div (pos (2 ^ (max fo f - fo)) *ℤ own +ℤ pos (2 ^ (max fo f - p)) *ℤ K) (2 ^ (max fo f - f))
unfolding cut
sum_scaled_up own K fo f p more =
    let full : ℕ = max fo p in
    let top : ℕ = max fo f in
    ap₂ (λ (z : ℤ) (b : ℕ). floor_div z (2 ^ b))
    (cut_law own K (pos (2 ^ (full - fo))) (pos (2 ^ (full - p))) (pos (2 ^ (f - full)))
    ∙ ap₂ (λ (a b : ℤ). a *ℤ own +ℤ b *ℤ K) (two_powers (full - fo) (f - full) (top - fo) (omega arith)) (two_powers (full - p) (f - full) (top - p) (omega arith)))
    (omega arith)

-- What the step with two cuts makes of them is the stage whose product leaves fewer bits than it has and than own value or node have.
cut_applied : (fp : ℕ) (c : Frac) (F fm fo f : ℕ) (own x y : ℤ) → fp < F + fm → fp < max fo f → applied (cut_of fp (nearest c F) F fm fo f) own x y ≡ step (cut_to fp) c F fm fo f own x y
unfolding step cut_product cut_of
cut_applied fp c F fm fo f own x y less more =
    let full : ℕ = F + fm in
    let W : ℤ = nearest c F *ℤ (x +ℤ y) in
    let e : min fp full ≡ fp = omega arith in
    sym (ap (λ (p : ℕ). cut (max fo p) f (own *ℤ pos (2 ^ (max fo p - fo)) +ℤ cut full p W *ℤ pos (2 ^ (max fo p - p)))) e
    ∙ ap (λ (K : ℤ). cut (max fo fp) f (own *ℤ pos (2 ^ (max fo fp - fo)) +ℤ K *ℤ pos (2 ^ (max fo fp - fp)))) (cut_lossy full fp W less)
    ∙ sum_scaled_up own (floor_div W (2 ^ (full - fp))) fo f fp more)

-- the two cases of the definition
pub by_together : (P : Bool → Type 0) (fp full fo f : ℕ) → (full ≤ fp → P true) → (fp < full → fo ≤ fp → f ≤ fp → P true) → (fp < full → fp < max fo f → P false) → P (cut_together (cut_to fp) full fo f)
by_together P fp full fo f wide near apart =
    by_leb (λ q. P (q || (leb fo fp && leb f fp))) full fp wide
    (λ i. by_leb (λ q. P (q && leb f fp)) fo fp (λ j. by_leb P f fp (near i j) (λ k. apart i (omega arith))) (λ j. apart i (omega arith)))

-- the step of each
module _ (fp : ℕ) (k : ℤ) (F fm fo f : ℕ) where
  pub step_once : cut_together (cut_to fp) (F + fm) fo f ≡ true → step_of (cut_to fp) k F fm fo f ≡ once_of k F fm fo f
  unfolding step_of
  step_once e = ap (λ (q : Bool). elim q [ true ↦ once_of k F fm fo f | false ↦ cut_of fp k F fm fo f ]) e

  pub step_cut : cut_together (cut_to fp) (F + fm) fo f ≡ false → step_of (cut_to fp) k F fm fo f ≡ cut_of fp k F fm fo f
  unfolding step_of
  step_cut e = ap (λ (q : Bool). elim q [ true ↦ once_of k F fm fo f | false ↦ cut_of fp k F fm fo f ]) e

-- where it is cut by itself it has fewer bits than before, and than own value or node
pub cut_apart : (fp full fo f : ℕ) → cut_together (cut_to fp) full fo f ≡ false → (fp < full) × (fp < max fo f)
cut_apart fp full fo f e =
    by_together (λ q. T (not q) → (fp < full) × (fp < max fo f)) fp full fo f (λ i n. absurd n) (λ i j k n. absurd n) (λ i j n. (i, j))
    (subst (λ (q : Bool). T (not q)) (sym e) tt)

-- What the step makes of a value and two neighbours is the stage.
pub step_applied : (p : Product) (c : Frac) (F fm fo f : ℕ) (own x y : ℤ) → applied (step_of p (nearest c F) F fm fo f) own x y ≡ step p c F fm fo f own x y
unfolding step_of
step_applied uncut c F fm fo f own x y = once_applied c F fm fo f own x y
step_applied (cut_to fp) c F fm fo f own x y =
    by_together (λ q. applied (elim q [ true ↦ once_of (nearest c F) F fm fo f | false ↦ cut_of fp (nearest c F) F fm fo f ]) own x y ≡ step (cut_to fp) c F fm fo f own x y) fp (F + fm) fo f
    (λ i. once_applied c F fm fo f own x y ∙ sym (step_wide fp c F fm fo f own x y i))
    (λ i j k. once_applied c F fm fo f own x y ∙ sym (step_together fp c F fm fo f own x y i j k))
    (λ i j. cut_applied fp c F fm fo f own x y i j)

-- A width of no fewer bits than the product has makes the step of a product without a width.
pub step_of_wide : (fp : ℕ) (k : ℤ) (F fm fo f : ℕ) → F + fm ≤ fp → step_of (cut_to fp) k F fm fo f ≡ step_of uncut k F fm fo f
unfolding step_of
step_of_wide fp k F fm fo f i =
    by_together (λ q. elim q [ true ↦ once_of k F fm fo f | false ↦ cut_of fp k F fm fo f ] ≡ once_of k F fm fo f) fp (F + fm) fo f
    (λ h. refl) (λ a b d. refl) (λ a b. absurd (omega arith))

-- ---- a scaling

-- What the scaling makes of a value is the stage.
pub scale_applied : (c : Frac) (F fm f : ℕ) (x : ℤ) → scaled_by (factor_of (nearest c F) F fm f) x ≡ scale c F fm f x
unfolding factor_of scale cut
scale_applied c F fm f x =
    let full : ℕ = F + fm in
    let top : ℕ = max (F + fm) f in
    let e : f - full ≡ top - full = omega arith in
    sym (ap₂ (λ (z : ℤ) (b : ℕ). floor_div z (2 ^ b)) (product_law (nearest c F) x (pos (2 ^ (f - full))) ∙ ap (λ (b : ℕ). nearest c F *ℤ pos (2 ^ b) *ℤ x) e) (fall full f))

pub single_applied : (fi f : ℕ) (x : ℤ) → scaled_by (single_of fi f) x ≡ cut fi f x
unfolding single_of cut
single_applied fi f x =
    let e : max fi f - fi ≡ f - fi = omega arith in
    ap₂ (λ (z : ℤ) (b : ℕ). floor_div z (2 ^ b)) (ap (λ (b : ℕ). pos (2 ^ b) *ℤ x) e ∙ *ℤ_comm (pos (2 ^ (f - fi))) x) (sym (fall fi f))

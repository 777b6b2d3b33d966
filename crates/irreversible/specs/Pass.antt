-- What a pass makes of good values: a value is good where the exact one lies within a range and the fixed-point one within an error of it.
use Rattle.std.specs.Prelude.{ℕ, suc, ◌+◌, ◌*◌, ◌-◌, ◌^◌, ◌<◌, ◌≤◌, ◌≡◌, Bool, ltb, ℤ, pos, neg_ℤ, nat_abs, ◌+ℤ◌, ◌*ℤ◌, ◌≤ℤ◌, ◌<ℤ◌}
use Rattle.std.proofs.Common.{sym, ap, subst, arith, mul-pos, mul-le-mul_right, mul-lt-mul_of_pos_right, lt_of_mul-lt-mul_right, pow_pos, pow-add}
use Rattle.std.proofs.Math.Path.{subst₂}
use Rattle.std.proofs.Math.Bool.{true, false}
use Rattle.std.specs.Int.Signed.{mag}
use Rattle.numbers.specs.Dif.{by_dif, difs}
use Rattle.numbers.specs.Abs.{mag_of_abs, abs_of_dif}
use Rattle.exact.specs.Fractions.{Frac, ◌⊕◌, neg}
use Rattle.lines.specs.Lines.{lows, Liftable, lows_first, on_highs, on_lows}
use Rattle.lines.specs.OneLaws.{one_single, one_long, by_one}
use Rattle.exact.specs.Exact.{exact_long, exact_pass, low₀, high₀, p1, u1, p2, u2, g1, g2}
use Rattle.stages.specs.Fixed.{fixed_value, cut}
use Rattle.fixed_stages.specs.Fixed.{fixed_long, fixed_pass, value_at, count_at, at_p1, at_u1, at_p2, at_u2, at_g1, at_g2}
use Rattle.width_table.specs.Nodes.{Node, P1, U1, P2, U2, G1, G2, last_node}
use Rattle.stages.specs.Rule as Rule
use Rattle.stages.specs.Rule.{Bound, together}
use Rattle.precision.specs.Bounds.{bound_after, node_bound}
use Rattle.exact.specs.FracLaws.{within_near}
use Rattle.stages.specs.Stages.{Side, low, high, forward, made, Product, bits}
use Rattle.stages.specs.OnLine.{count, exact_after, fixed_made, fixed_after}
use Rattle.stages.proofs.Sound.{Good, good}
use Rattle.stages.proofs.Single.{single_good, good_most}
use Rattle.stages.proofs.ForwardLaws.{range_least}
use Rattle.width_table.specs.Numbered.{node_of}
use Rattle.stages.proofs.Own.{pow_split}
use Rattle.irreversible.specs.Claims.{Near}
use Rattle.table_meaning.specs.NodeWidths.{InNodeWidth}
use Rattle.numbers.specs.Tests.{by_ltb, ltb-true}
use Rattle.irreversible.specs.LevelPlanes.{AtMost32}

-- ---- all six nodes of a pass over a line of n

-- a line of samples by sides
abbrev split : {A : Type 0} → (ℕ → A) → Side → ℕ → A
split x low k = x (2 * k)
split x high k = x (2 * k + 1)

module _ (F : Node → ℕ) (fp : Node → Product) (fi : ℕ) (b : Bound) (f : Node → ℕ) (n : ℕ) (v : ℕ → ℤ) (x : ℕ → Frac) (works : Liftable n) (small : AtMost32 f) (given : (k : ℕ) → k < n → Good b fi (v k) (x k)) where
  entered : (s : Side) (k : ℕ) → k < count n s → Good b fi (split v s k) (split x s k)
  entered low k i = given (2 * k) (omega arith)
  entered high k i = given (2 * k + 1) (omega arith)

  -- each side after m stages
  after : (m : ℕ) (s : Side) (k : ℕ) → k < count n s → Good (bound_after F fp fi b f s m) (bits forward (λ s. fi) (λ i. f (node_of (suc i))) m s) (fixed_after forward (λ i. F (node_of (suc i))) (λ i. fp (node_of (suc i))) (λ s. fi) (λ i. f (node_of (suc i))) n (split v) m s k) (exact_after forward n (split x) m s k)
  after = good forward (together b) (λ i. F (node_of (suc i))) (λ i. fp (node_of (suc i))) (λ s. fi) (λ i. f (node_of (suc i))) n (split v) (split x) works (λ m. small (node_of (suc m))) entered

  -- the exact value of each node
  abbrev exact_at : Node → ℕ → Frac
  exact_at P1 = p1 n x
  exact_at U1 = u1 n x
  exact_at P2 = p2 n x
  exact_at U2 = u2 n x
  exact_at G1 = g1 n x
  exact_at G2 = g2 n x

  pub node_good : (i : Node) (k : ℕ) → k < count_at n i → Good (node_bound F fp fi b f i) (f i) (value_at F fp fi f n v i k) (exact_at i k)
  unfolding node_bound bits fixed_after fixed_made exact_after made at_p1 at_u1 at_p2 at_u2 at_g1 at_g2 p1 u1 p2 u2 g1 g2 low₀ high₀ on_highs on_lows
  node_good P1 k i = after 1 high k i
  node_good U1 k i = after 2 low k i
  node_good P2 k i = after 3 high k i
  node_good U2 k i = after 4 low k i
  node_good G1 k i = good_most (omega arith) (omega arith) (after 5 low k i)
  node_good G2 k i = after 6 high k i

  -- the lows first, then the highs
  line_good : (i : ℕ) → i < n → Good (node_bound F fp fi b f (last_node (ltb i (lows n)))) (f (last_node (ltb i (lows n)))) (fixed_long F fp fi f n v i) (exact_long n x i)
  unfolding fixed_long exact_long lows_first
  line_good i h =
      by_ltb (λ q. Good (node_bound F fp fi b f (last_node q)) (f (last_node q)) (elim q [ true ↦ at_g1 F fp fi f n v i | false ↦ at_g2 F fp fi f n v (i - lows n) ]) (elim q [ true ↦ g1 n x i | false ↦ g2 n x (i - lows n) ])) i (lows n)
      (λ j. node_good G1 i j)
      (λ j. node_good G2 (i - lows n) (omega arith))

-- ---- a single sample, and any line

sample_good : (F : Node → ℕ) (fp : Node → Product) (fi : ℕ) (b : Bound) (f : Node → ℕ) (v : ℤ) (x : Frac) → AtMost32 f → Good b fi v x → Good (node_bound F fp fi b f G1) (f G1) (cut fi (f G1) v) x
unfolding node_bound Rule.side_bound
sample_good F fp fi b f v x small g = good_most (range_least b (λ i. F (node_of (suc i))) (λ i. fp (node_of (suc i))) fi (λ i. f (node_of (suc i)))) (omega arith) (single_good fi b (f G1) v x (small G1) g)

module _ (F : Node → ℕ) (fp : Node → Product) (fi : ℕ) (b : Bound) (f : Node → ℕ) (n : ℕ) (v : ℕ → ℤ) (x : ℕ → Frac) (small : AtMost32 f) (given : (k : ℕ) → k < n → Good b fi (v k) (x k)) where
  pub pass_good : (i : ℕ) → i < n → Good (node_bound F fp fi b f (last_node (ltb i (lows n)))) (f (last_node (ltb i (lows n)))) (fixed_pass F fp fi f n v i) (exact_pass n x i)
  unfolding fixed_pass exact_pass
  pass_good i h = by_one _ n
      (λ one. subst₂ (Good _ _) (sym (one_single (cut fi (f G1)) (fixed_long F fp fi f) n v i one)) (sym (one_single (λ a. a) exact_long n x i one))
      (subst (λ (q : Bool). Good (node_bound F fp fi b f (last_node q)) (f (last_node q)) (cut fi (f G1) (v i)) (x i)) (sym (ltb-true i (lows n) (omega arith))) (sample_good F fp fi b f (v i) (x i) small (given i h))))
      (λ works. subst₂ (Good _ _) (sym (one_long (cut fi (f G1)) (fixed_long F fp fi f) n v i works)) (sym (one_long (λ a. a) exact_long n x i works)) (line_good F fp fi b f n v x works small given i h))

  -- the first value, where it is the only one
  pub first_good : n ≡ 1 → Good (node_bound F fp fi b f G1) (f G1) (fixed_pass F fp fi f n v 0) (exact_pass n x 0)
  first_good e = subst (λ (q : Bool). Good (node_bound F fp fi b f (last_node q)) (f (last_node q)) (fixed_pass F fp fi f n v 0) (exact_pass n x 0)) (ltb-true 0 (lows n) (omega arith)) (pass_good 0 (omega arith))

-- ---- what good values give

-- v fits IB integer and f fractional bits where range and error are at most 2^(IB-1) - 2^-f
pub fits : (b : Bound) (f IB : ℕ) (v : ℤ) (x : Frac) → f ≤ 32 → b.range + b.error + 2 ^ (32 - f) ≤ 2 ^ (IB - 1) * 2 ^ 32 → Good b f v x → mag v < 2 ^ (IB - 1 + f)
unfolding fixed_value
fits b f IB v x small room g = mag_of_abs v (rw (pow-add 2 (IB - 1) f) (lt_of_mul-lt-mul_right (2 ^ 32) (law (nat_abs v) (2 ^ f) (2 ^ (32 - f)) (2 ^ (IB - 1)) (2 ^ 32) (b.range + b.error) (sym (pow_split f 32 small)) room (within_near g.range g.error).most (pow_pos 32))))
  where
    law : (a P W I K s : ℕ) → W * P ≡ K → s + W ≤ I * K → a * K ≤ s * P → 0 < K → a * K < I * P * K
    law a P W I K s e h k z = omega (arith, mul-le-mul_right P h)

-- less than two steps
pub abs_< : (n : ℕ) (z : ℤ) → nat_abs z < n → (neg_ℤ (pos n) <ℤ z) × (z <ℤ pos n)
abs_< n = by_dif _ λ a a'. λ h. simp difs (omega (arith, abs_of_dif a a'))

near_low : (d P : ℕ) → 0 < P → (e : ℤ) → neg_ℤ (pos (2 * d)) <ℤ e → (neg_ℤ (pos 2) *ℤ pos (P * d)) <ℤ (e *ℤ pos P)
near_low d P z = by_dif _ λ a a'. simp difs (λ h. omega (arith, mul-lt-mul_of_pos_right h z))

near_high : (d P : ℕ) → 0 < P → (e : ℤ) → e <ℤ pos (2 * d) → (e *ℤ pos P) <ℤ (pos 2 *ℤ pos (P * d))
near_high d P z = by_dif _ λ a a'. simp difs (λ h. omega (arith, mul-lt-mul_of_pos_right h z))

pub near : (b : Bound) (f : ℕ) (v : ℤ) (x : Frac) → f ≤ 32 → b.error < 2 * 2 ^ (32 - f) → Good b f v x → Near v f x
unfolding Near fixed_value ◌⊕◌ neg
near b f v x small least g =
    let both = abs_< (2 * x.den) (v *ℤ pos x.den +ℤ neg_ℤ x.num *ℤ pos (2 ^ f)) (lt_of_mul-lt-mul_right (2 ^ 32) (law _ (2 ^ f) (2 ^ (32 - f)) x.den (2 ^ 32) b.error (sym (pow_split f 32 small)) least g.error.most (pow_pos f) x.above)) in
    (near_low x.den (2 ^ f) (pow_pos f) _ both.0, near_high x.den (2 ^ f) (pow_pos f) _ both.1)
  where
    law : (a P W d K e : ℕ) → W * P ≡ K → e < 2 * W → a * K ≤ e * (P * d) → 0 < P → 0 < d → a * K < 2 * d * K
    law a P W d K e h i j zP zd = omega (arith, mul-lt-mul_of_pos_right i (mul-pos zP zd), ap (λ (t : ℕ). 2 * d * t) h)

mag_holds : (H : ℕ) (v : ℤ) → mag v < H → (neg_ℤ (pos H) ≤ℤ v) × (v <ℤ pos H)
mag_holds H = by_dif _ λ a a'. simp difs (omega arith)

pub holds : (b : Bound) (f IB : ℕ) (v : ℤ) (x : Frac) → f ≤ 32 → 1 ≤ IB → b.range + b.error + 2 ^ (32 - f) ≤ 2 ^ (IB - 1) * 2 ^ 32 → Good b f v x → InNodeWidth IB f v
unfolding InNodeWidth
holds b f IB v x small some room g =
    let e : IB - 1 + f ≡ IB + f - 1 = omega arith in
    mag_holds (2 ^ (IB + f - 1)) v (subst (λ (k : ℕ). mag v < 2 ^ k) e (fits b f IB v x small room g))

module _ (F : Node → ℕ) (fp : Node → Product) (fi : ℕ) (b : Bound) (f : Node → ℕ) (n : ℕ) (v : ℕ → ℤ) (x : ℕ → Frac) (small : AtMost32 f) (given : (k : ℕ) → k < n → Good b fi (v k) (x k))
    (IB : Node → ℕ) (some : (i : Node) → 1 ≤ IB i) (room : (i : Node) → (node_bound F fp fi b f i).range + (node_bound F fp fi b f i).error + 2 ^ (32 - f i) ≤ 2 ^ (IB i - 1) * 2 ^ 32) where
  pub long_in_width : Liftable n → (i : Node) (k : ℕ) → k < count_at n i → InNodeWidth (IB i) (f i) (value_at F fp fi f n v i k)
  long_in_width works i k h = holds _ _ _ _ _ (small i) (some i) (room i) (node_good F fp fi b f n v x works small given i k h)

  pub single_in_width : n ≡ 1 → InNodeWidth (IB G1) (f G1) (fixed_pass F fp fi f n v 0)
  single_in_width e = holds _ _ _ _ _ (small G1) (some G1) (room G1) (first_good F fp fi b f n v x small given e)

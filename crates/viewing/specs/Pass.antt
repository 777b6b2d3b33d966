-- What a pass inverted makes of good values, by the rule of the crate stages: a value is good where the exact one lies within a range and
-- the fixed-point one within an error of it.
use Prim.Native.Nat.{ℕ, zero, suc, ◌+◌, ◌*◌, ◌-◌, ◌^◌, ◌<◌, ◌≤◌}
use Rattle.std.specs.Prelude.{◌≡◌, Bool, true, false, T, ℤ, pos, neg_ℤ, ◌+ℤ◌, ◌-ℤ◌, ◌*ℤ◌}
use Rattle.std.proofs.Math.Path.{refl, ap, subst₂}
use Rattle.std.proofs.Common.{sym, ◌∙◌, subst, arith, le_of_mul-le-mul_right, leb→le, lit≤, pow_pos}
use mathlib.Core.List.{List, [], ◌∷◌}
use Rattle.std.proofs.Math.IntN.{nat_abs}
use Rattle.numbers.specs.Tests.{ltb-true}
use Rattle.numbers.specs.Lists.{In, here, there, every_in}
use Rattle.numbers.specs.Dif.{by_dif, difs}
use Rattle.lines.specs.Lines.{lows, highs, Liftable, on_highs, on_lows}
use Rattle.lines.specs.LineLaws.{even_place_lem, odd_place, by_parity}
use Rattle.lines.specs.OneLaws.{one_single, one_long, by_one}
use Rattle.exact.specs.Fractions.{Frac, ◌≈◌, ◌⊕◌, neg}
use Rattle.numbers.specs.Ceiling.{up_div}
use Rattle.exact.specs.FracLaws.{≈-refl, ≈-sym, ≈-trans, ⊕-cong, neg_⊗_l, within_near}
use Rattle.exact.specs.Exact.{lift, alpha, beta, gamma, delta}
use Rattle.exact.specs.Inverse.{inverse_lift, un_g1, un_g2, un_u2, un_p2, un_u1, un_p1, exact_inverse_long, exact_inverse_pass}
use Rattle.stages.specs.Stages.{Side, low, high, lifts, stage, inverse, made, Product, uncut, bits}
use Rattle.stages.specs.Fixed.{fixed_value, nearest, cut, cut_product, step}
use Rattle.stages.specs.OnLine.{count, exact_after, fixed_made, fixed_after}
use Rattle.stages.specs.Rule as Rule
use Rattle.stages.specs.Rule.{Bound, loss, own_scale, Entering, apart, input_part, range_at, own_error_of, stages_part, owns, error_at}
use Rattle.stages.proofs.RuleLaws.{loss_none}
use Rattle.stages.proofs.ValueLaws.{enters, made_cong}
use Rattle.stages.proofs.Sound.{Good, good_≈, good}
use Rattle.stages.proofs.Single.{single_good, good_most}
use Rattle.width_table.specs.Nodes.{Node, P1, U1, P2, U2, G1, G2}
use Rattle.inverse_lifting.specs.Fixed.{node_bits, inverse_bits, inverse_step, at_g1, at_g2, at_u2, at_p2, at_u1, at_p1, fixed_inverse_long, fixed_inverse, Small, limit}
use Rattle.view_precision.specs.Bounds.{larger, bound_after, even, odd, inverse_bound, pass_gives, within_max, pass_right}
use Rattle.view_precision.specs.Odd.{odd_range, odd_error}
use Rattle.fixed_stages.specs.Fixed.{count_at}

-- ---- a stage inverted is a stage with the constant negated

inverse_lift_neg : (c o x y : Frac) → inverse_lift c o x y ≈ lift (neg c) o x y
unfolding inverse_lift lift
inverse_lift_neg c o x y = ⊕-cong (≈-refl o) (≈-sym (neg_⊗_l c (x ⊕ y)))

-- the nearest multiple of the negated constant is the negated one
abbrev Negates : Frac → Type 0
Negates c = nearest (neg c) inverse_bits ≡ neg_ℤ (nearest c inverse_bits)

negates_alpha : Negates alpha
unfolding nearest neg
negates_alpha = refl

negates_beta : Negates beta
unfolding nearest neg
negates_beta = refl

negates_gamma : Negates gamma
unfolding nearest neg
negates_gamma = refl

negates_delta : Negates delta
unfolding nearest neg
negates_delta = refl

-- a stage whose own value, neighbours and result are nodes
abbrev node_step : Frac → ℤ → ℤ → ℤ → ℤ
node_step c = step uncut c inverse_bits node_bits node_bits node_bits

inverse_step_neg : (c : Frac) → Negates c → (o x y : ℤ) → inverse_step c o x y ≡ node_step (neg c) o x y
unfolding inverse_step step cut_product
inverse_step_neg c e o x y =
    ap (cut (inverse_bits + node_bits) node_bits)
    (law (o *ℤ pos (2 ^ inverse_bits)) (nearest c inverse_bits) (x +ℤ y) ∙ ap (λ (t : ℤ). o *ℤ pos (2 ^ inverse_bits) +ℤ t *ℤ (x +ℤ y) *ℤ pos 1) (sym e))
  where
    law : (a c s : ℤ) → a -ℤ c *ℤ s ≡ a +ℤ neg_ℤ c *ℤ s *ℤ pos 1
    law = by_dif _ λ a a'. by_dif _ λ c c'. by_dif _ λ s s'. simp difs (omega arith)

-- ---- the bits of what is fed do not matter

-- a node has fewer bits than a constant alone
node_loss : (fm : ℕ) → loss node_bits (inverse_bits + fm) ≡ loss node_bits (inverse_bits + 0)
unfolding loss
node_loss fm = ap (λ (t : Bool). elim t [ true ↦ 2 ^ (32 - node_bits) | false ↦ 0 ]) (ltb-true node_bits (inverse_bits + fm) (omega arith))

module _ (e : Entering) (fi : Side → ℕ) where
  abbrev F : ℕ → ℕ
  F i = inverse_bits

  -- no product is cut
  abbrev fp : ℕ → Product
  fp i = uncut

  abbrev f : ℕ → ℕ
  f i = node_bits

  abbrev zeros : Side → ℕ
  zeros s = 0

  own_free : (i : ℕ) (r : Side → ℕ) → i < 6 → own_error_of inverse e F fp fi f (stage inverse i).kind (stage inverse i).side i r ≡ own_error_of inverse e F fp zeros f (stage inverse i).kind (stage inverse i).side i r
  unfolding own_error_of own_scale bits
  own_free zero r h = ap (λ (t : ℕ). up_div (r low) (2 ^ (inverse_bits + 1)) + t) (node_loss (fi low))
  own_free (suc zero) r h = ap (λ (t : ℕ). up_div (r high) (2 ^ (inverse_bits + 1)) + t) (node_loss (fi high))
  own_free (suc (suc zero)) r h = refl
  own_free (suc (suc (suc zero))) r h = refl
  own_free (suc (suc (suc (suc zero)))) r h = refl
  own_free (suc (suc (suc (suc (suc zero))))) r h = refl
  own_free (suc (suc (suc (suc (suc (suc i)))))) r h = absurd (omega arith)

  owns_free : (i : ℕ) → i ≤ 6 → owns inverse e F fp fi f i ≡ owns inverse e F fp zeros f i
  unfolding owns stages_part range_at
  owns_free zero h = refl
  owns_free (suc i) h =
      own_next (owns inverse e F fp fi f i) ∙ ap (λ (l : List ℕ). own l ∷ l) (owns_free i (omega arith))
    where
      total : List ℕ → Side → ℕ
      total l s = range_at inverse e F fp zeros f s i + (input_part inverse (λ b. b.error) e s i + stages_part inverse e F fp zeros f i l s i)

      own : List ℕ → ℕ
      own l = own_error_of inverse e F fp zeros f (stage inverse i).kind (stage inverse i).side i (total l)

      own_next : (l : List ℕ) → own_error_of inverse e F fp fi f (stage inverse i).kind (stage inverse i).side i (total l) ∷ l ≡ own l ∷ l
      own_next l = ap (λ (t : ℕ). t ∷ l) (own_free i (total l) (omega arith))

  -- so 0 may stand for them (Bounds of view_precision)
  pub bound_free : (s : Side) (m : ℕ) → m ≤ 6 → Rule.side_bound inverse e F fp fi f s m ≡ Rule.side_bound inverse e F fp zeros f s m
  unfolding Rule.side_bound range_at error_at stages_part
  bound_free s m h = ap (λ (l : List ℕ). record { range = input_part inverse (λ b. b.range) e s m; error = input_part inverse (λ b. b.error) e s m + stages_part inverse e F fp zeros f m l s m }) (owns_free m h)

-- ---- all six nodes of a line of n

-- a line, the lows first, by sides
abbrev split : {A : Type 0} → ℕ → (ℕ → A) → Side → ℕ → A
split n y low k = y k
split n y high k = y (lows n + k)

abbrev bits_fed : ℕ → ℕ → Side → ℕ
bits_fed fl fh low = fl
bits_fed fl fh high = fh

-- the exact value of each node, and the fixed-point one
abbrev exact_at : ℕ → (ℕ → Frac) → Node → ℕ → Frac
exact_at n x G1 = un_g1 n x
exact_at n x G2 = un_g2 n x
exact_at n x U2 = un_u2 n x
exact_at n x P2 = un_p2 n x
exact_at n x U1 = un_u1 n x
exact_at n x P1 = un_p1 n x

abbrev left_at : ℕ → ℕ → ℕ → (ℕ → ℤ) → Node → ℕ → ℤ
left_at fl fh n v G1 = at_g1 fl fh n v
left_at fl fh n v G2 = at_g2 fl fh n v
left_at fl fh n v U2 = at_u2 fl fh n v
left_at fl fh n v P2 = at_p2 fl fh n v
left_at fl fh n v U1 = at_u1 fl fh n v
left_at fl fh n v P1 = at_p1 fl fh n v

module _ (n : ℕ) (x : ℕ → Frac) where
  abbrev exactly : ℕ → Side → ℕ → Frac
  exactly = exact_after inverse n (split n x)

  inverted : (c : Frac) {o o' p p' q q' : Frac} → o ≈ o' → p ≈ p' → q ≈ q' → inverse_lift c o p q ≈ made lifts (neg c) o' p' q'
  unfolding made
  inverted c {o} {o'} {p} {p'} {q} {q'} h i j = ≈-trans (inverse_lift_neg c o p q) (made_cong lifts (neg c) h i j)

  exact_u2 : (k : ℕ) → un_u2 n x k ≈ exactly 3 low k
  unfolding un_u2 un_g1 un_g2 on_lows exact_after
  exact_u2 k = inverted delta (≈-refl _) (≈-refl _) (≈-refl _)

  exact_p2 : (k : ℕ) → un_p2 n x k ≈ exactly 4 high k
  unfolding un_p2 un_g2 on_highs exact_after
  exact_p2 k = inverted gamma (≈-refl _) (exact_u2 k) (exact_u2 _)

  exact_u1 : (k : ℕ) → un_u1 n x k ≈ exactly 5 low k
  unfolding un_u1 on_lows exact_after
  exact_u1 k = inverted beta (exact_u2 k) (exact_p2 _) (exact_p2 _)

  exact_p1 : (k : ℕ) → un_p1 n x k ≈ exactly 6 high k
  unfolding un_p1 on_highs exact_after
  exact_p1 k = inverted alpha (exact_p2 k) (exact_u1 k) (exact_u1 _)

module _ (fl fh n : ℕ) (v : ℕ → ℤ) where
  abbrev fixed : ℕ → Side → ℕ → ℤ
  fixed = fixed_after inverse (λ i. inverse_bits) (λ i. uncut) (bits_fed fl fh) (λ i. node_bits) n (split n v)

  inverse_stepped : (c : Frac) → Negates c → {o o' p p' q q' : ℤ} → o ≡ o' → p ≡ p' → q ≡ q' → inverse_step c o p q ≡ node_step (neg c) o' p' q'
  inverse_stepped c e {o} {o'} {p} {p'} {q} {q'} h i j = (λ u. inverse_step c (h u) (i u) (j u)) ∙ inverse_step_neg c e o' p' q'

  fixed_u2 : (k : ℕ) → at_u2 fl fh n v k ≡ fixed 3 low k
  unfolding at_u2 at_g1 at_g2 on_lows fixed_after fixed_made bits
  fixed_u2 k = inverse_stepped delta negates_delta refl refl refl

  fixed_p2 : (k : ℕ) → at_p2 fl fh n v k ≡ fixed 4 high k
  unfolding at_p2 at_g2 on_highs fixed_after fixed_made bits
  fixed_p2 k = inverse_stepped gamma negates_gamma refl (fixed_u2 k) (fixed_u2 _)

  fixed_u1 : (k : ℕ) → at_u1 fl fh n v k ≡ fixed 5 low k
  unfolding at_u1 on_lows fixed_after fixed_made bits
  fixed_u1 k = inverse_stepped beta negates_beta (fixed_u2 k) (fixed_p2 _) (fixed_p2 _)

  fixed_p1 : (k : ℕ) → at_p1 fl fh n v k ≡ fixed 6 high k
  unfolding at_p1 on_highs fixed_after fixed_made bits
  fixed_p1 k = inverse_stepped alpha negates_alpha (fixed_p2 k) (fixed_u1 k) (fixed_u1 _)

-- A line whose lows, at fl bits, no more than a node's, are good for a, and whose highs are good for b at fh bits.
pub record Fed (fl fh : ℕ) (a b : Bound) (n : ℕ) (v : ℕ → ℤ) (x : ℕ → Frac) : Type 0 where
  pub few : fl ≤ node_bits
  pub lows_good : (k : ℕ) → k < lows n → Good a fl (v k) (x k)
  pub highs_good : (k : ℕ) → k < highs n → Good b fh (v (lows n + k)) (x (lows n + k))

module _ {fl fh : ℕ} {a b : Bound} {n : ℕ} {v : ℕ → ℤ} {x : ℕ → Frac} (fed : Fed fl fh a b n v x) where
  entered : (s : Side) (k : ℕ) → k < count n s → Good (enters (apart a b) s) (bits_fed fl fh s) (split n v s k) (split n x s k)
  entered low = fed.lows_good
  entered high = fed.highs_good

  -- two values or more
  module _ (works : Liftable n) where
    -- each side after m stages
    after : (m : ℕ) → m ≤ 6 → (s : Side) (k : ℕ) → k < count n s → Good (bound_after a b s m) (bits inverse (bits_fed fl fh) (λ i. node_bits) m s) (fixed fl fh n v m s k) (exactly n x m s k)
    after m h s k i =
        subst (λ (t : Bound). Good t (bits inverse (bits_fed fl fh) (λ i. node_bits) m s) (fixed fl fh n v m s k) (exactly n x m s k)) (bound_free (apart a b) (bits_fed fl fh) s m h)
        (good inverse (apart a b) (λ i. inverse_bits) (λ i. uncut) (bits_fed fl fh) (λ i. node_bits) n (split n v) (split n x) works (λ m. omega arith) entered m s k i)

    even_good : (k : ℕ) → k < lows n → Good (even a b) node_bits (at_u1 fl fh n v k) (un_u1 n x k)
    unfolding even larger bits
    even_good k i = good_most (omega arith) (omega arith) (good_≈ (fixed_u1 fl fh n v k) (exact_u1 n x k) (after 5 (lit≤ tt) low k i))

    odd_good : (k : ℕ) → k < highs n → Good (odd a b) node_bits (at_p1 fl fh n v k) (un_p1 n x k)
    unfolding bits
    odd_good k i = good_most (odd_range a b) (odd_error a b) (good_≈ (fixed_p1 fl fh n v k) (exact_p1 n x k) (after 6 (lit≤ tt) high k i))

    node_good : (i : Node) (k : ℕ) → k < count_at n i → Good (inverse_bound a b i) node_bits (left_at fl fh n v i k) (exact_at n x i k)
    unfolding inverse_bound bits fixed_after fixed_made exact_after made at_g1 at_g2 un_g1 un_g2
    node_good G1 k i = after 1 (lit≤ tt) low k i
    node_good G2 k i = after 2 (lit≤ tt) high k i
    node_good U2 k i = good_≈ (fixed_u2 fl fh n v k) (exact_u2 n x k) (after 3 (lit≤ tt) low k i)
    node_good P2 k i = good_≈ (fixed_p2 fl fh n v k) (exact_p2 n x k) (after 4 (lit≤ tt) high k i)
    node_good U1 k i = even_good k i
    node_good P1 k i = odd_good k i

    long_good : (k : ℕ) → k < n → Good (pass_gives a b) node_bits (fixed_inverse_long fl fh n v k) (exact_inverse_long n x k)
    unfolding fixed_inverse_long exact_inverse_long pass_gives larger
    long_good = by_parity (λ k. Good (pass_gives a b) node_bits (fixed_inverse_long fl fh n v k) (exact_inverse_long n x k)) n
        (λ k i. subst₂ (Good (pass_gives a b) node_bits) (sym (even_place_lem (at_u1 fl fh n v) (at_p1 fl fh n v) k)) (sym (even_place_lem (un_u1 n x) (un_p1 n x) k)) (good_most (omega arith) (omega arith) (even_good k i)))
        (λ k i. subst₂ (Good (pass_gives a b) node_bits) (sym (odd_place (at_u1 fl fh n v) (at_p1 fl fh n v) k)) (sym (odd_place (un_u1 n x) (un_p1 n x) k)) (good_most (omega arith) (omega arith) (odd_good k i)))

  -- a single value is the even output, of which nothing is cut
  single_even : n < 2 → (k : ℕ) → k < n → Good (even a b) node_bits (fixed_inverse fl fh n v k) (exact_inverse_pass n x k)
  unfolding fixed_inverse exact_inverse_pass even larger
  single_even one k i =
      subst₂ (Good (even a b) node_bits) (sym (one_single (cut fl node_bits) (fixed_inverse_long fl fh) n v k one)) (sym (one_single (λ y. y) exact_inverse_long n x k one))
      (good_most (omega arith) (omega (arith, loss_none node_bits fl fed.few)) (single_good fl a node_bits (v k) (x k) (lit≤ tt) (fed.lows_good k (omega arith))))

  -- what the pass gives on, at each place
  pub pass_good : (k : ℕ) → k < n → Good (pass_gives a b) node_bits (fixed_inverse fl fh n v k) (exact_inverse_pass n x k)
  unfolding fixed_inverse exact_inverse_pass pass_gives larger
  pass_good k i = by_one _ n
      (λ one. good_most (omega arith) (omega arith) (single_even one k i))
      (λ works. subst₂ (Good (pass_gives a b) node_bits) (sym (one_long (cut fl node_bits) (fixed_inverse_long fl fh) n v k works)) (sym (one_long (λ y. y) exact_inverse_long n x k works)) (long_good works k i))

-- ---- sizes

-- |v| is at most 2^15 where range plus error is
small : (b : Bound) (v : ℤ) (x : Frac) → b.range + b.error ≤ 2 ^ 15 * 2 ^ 32 → Good b node_bits v x → nat_abs v ≤ limit
unfolding fixed_value
small b v x room g =
    le_of_mul-le-mul_right {m = nat_abs v} {n = limit} {k = 2 ^ 32}
    (law (nat_abs v) (b.range + b.error) room (within_near g.range g.error).most) (pow_pos 32)
  where
    law : (m s : ℕ) → s ≤ 2 ^ 15 * 2 ^ 32 → m * 2 ^ 32 ≤ s * 2 ^ node_bits → m * 2 ^ 32 ≤ limit * 2 ^ 32
    law m s h k = omega arith

inverted_nodes : (i : Node) → In i (G1 ∷ G2 ∷ U2 ∷ P2 ∷ U1 ∷ P1 ∷ [])
inverted_nodes G1 = here
inverted_nodes G2 = there here
inverted_nodes U2 = there (there here)
inverted_nodes P2 = there (there (there here))
inverted_nodes U1 = there (there (there (there here)))
inverted_nodes P1 = there (there (there (there (there here))))

-- each node of a pass that 13 does not turn away
each_right : (b : Node → Bound) → T (pass_right b) → (i : Node) → (b i).range + (b i).error ≤ 2 ^ 15 * 2 ^ 32
each_right b ok i = leb→le _ _ (every_in (λ n. within_max (b n)) (inverted_nodes i) ok)

module _ {fl fh : ℕ} {a b : Bound} {n : ℕ} {v : ℕ → ℤ} {x : ℕ → Frac} (fed : Fed fl fh a b n v x) (right : T (pass_right (inverse_bound a b))) where
  pub pass_small : Small fl fh n v
  unfolding inverse_bound
  pass_small =
      let node : Liftable n → (i : Node) (k : ℕ) → k < count_at n i → nat_abs (left_at fl fh n v i k) ≤ limit = λ works i k h. small (inverse_bound a b i) _ _ (each_right (inverse_bound a b) right i) (node_good fed works i k h) in
      record {
        long = λ works. record { g1 = node works G1; g2 = node works G2; u2 = node works U2; p2 = node works P2; u1 = node works U1; p1 = node works P1 };
        single = λ one k h. small (even a b) _ _ (each_right (inverse_bound a b) right U1) (single_even fed one k h);
      }

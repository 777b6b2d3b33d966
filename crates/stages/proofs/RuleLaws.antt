-- Laws of the rule: products by a gain; what a cut loses; the error as a sum over the stages; what enters has its own bound; a side that a
-- stage does not work keeps its bound; the bounds grow with what enters.
use Rattle.std.specs.Prelude.{List, ◌≡◌, Bool, true, false, pos, negsuc}
use Prim.Native.Nat.{ℕ, zero, suc, ◌+◌, ◌*◌, ◌-◌, ◌^◌, ◌<◌, ◌≤◌}
use Rattle.std.proofs.Math.Path.{refl, ap, fun_ext}
use Rattle.std.proofs.Common.{◌∙◌, mul-le-mul, mul-le-mul_left, le_trans, le-div_iff_mul-le, div-mul-le_self, lit<, pow_pos}
use native.Mathlib.Omega.{arith}
use Rattle.std.proofs.Math.IntN.{ℤ}
use Rattle.numbers.specs.Tests.{ltb-true, ltb-false}
use Rattle.exact.specs.Fractions.{Frac, ◌≈◌, ◌⊕◌, whole, magnitude, rounded_up, zero_f}
use Rattle.numbers.specs.Ceiling.{up_div}
use Rattle.exact.specs.FracLaws.{≈-trans, ⊕-cong, ⊕-zero-r}
use Rattle.stages.specs.Stages.{Side, low, high, Kind, lifts, scales, Stage, stage, Product, made, worked}
use Rattle.stages.specs.OnLine.{other}
use Rattle.stages.specs.Gains.{Line, before, after, values_after, nothing, unit, feed, only, sum_to, Source, samples, lows, highs, node, input_answer, node_answer, sum_from, exact_gain, gain}
use Rattle.stages.specs.Rule.{Bound, times_gain, loss, own_lift, own_scale, Entering, together, apart, carried, input_part, range_at, own_error_of, stages_part, owns, error_at, side_bound}
use Rattle.stages.proofs.ValueLaws.{enters, weighed, nodes_part, node_later}
use Rattle.stages.proofs.Endless.{magnitude_zero, endless_gain, wholes_≈}

-- ---- products by a gain

pub times_gain_zero : (g : ℕ) → times_gain 0 g ≡ 0
unfolding times_gain up_div
times_gain_zero g = omega arith

pub times_gain_none : (x : ℕ) → times_gain x 0 ≡ 0
unfolding times_gain up_div
times_gain_none x = omega arith

pub times_gain_one : (x : ℕ) → times_gain x 65536 ≡ x
unfolding times_gain up_div
times_gain_one x = omega arith

-- by a gain of 1 or more
pub times_least : (x g : ℕ) → 65536 ≤ g → x ≤ times_gain x g
unfolding times_gain up_div
times_least x g h = omega (arith, mul-le-mul_left x h)

-- ---- what a cut loses

pub loss_below : (f full : ℕ) → f < full → loss f full ≡ 2 ^ (32 - f)
unfolding loss
loss_below f full h = ap (λ (t : Bool). elim t [ true ↦ 2 ^ (32 - f) | false ↦ 0 ]) (ltb-true f full h)

pub loss_none : (f full : ℕ) → full ≤ f → loss f full ≡ 0
unfolding loss
loss_none f full h = ap (λ (t : Bool). elim t [ true ↦ 2 ^ (32 - f) | false ↦ 0 ]) (ltb-false f full h)

-- ---- the error as a sum

pub nothing_brings : (st : List Stage) (s : Side) (m j : ℕ) → nodes_part st s m (λ i. 0) j ≡ 0
unfolding weighed
nothing_brings st s m zero = refl
nothing_brings st s m (suc j) = omega (arith, nothing_brings st s m j, times_gain_zero (gain st s m (node j)))

module _ (st : List Stage) (e : Entering) (F : ℕ → ℕ) (fp : ℕ → Product) (fi : Side → ℕ) (f : ℕ → ℕ) where
  -- own error of stage i: by range and error of the value that it multiplies
  unfoldable pub own_at : ℕ → ℕ
  own_at i = own_error_of st e F fp fi f (stage st i).kind (stage st i).side i (λ s. range_at st e F fp fi f s i + error_at st e F fp fi f s i)

  owns_bring : (s : Side) (m j : ℕ) → stages_part st e F fp fi f j (owns st e F fp fi f j) s m ≡ nodes_part st s m (own_at) j
  unfolding weighed stages_part owns own_at error_at
  owns_bring s m zero = refl
  owns_bring s m (suc j) = ap (λ (t : ℕ). t + carried st (own_at j) (node j) s m) (owns_bring s m j)

  -- The error of a node is the input's error times the gain from the input, plus each stage's own error times the gain from it.
  pub error_sum : (s : Side) (m : ℕ) → error_at st e F fp fi f s m ≡ input_part st (λ b. b.error) e s m + nodes_part st s m (own_at) m
  unfolding error_at
  error_sum s m = ap (λ (t : ℕ). input_part st (λ b. b.error) e s m + t) (owns_bring s m m)

pub weighed_ext : (g h o : ℕ → ℕ) (j : ℕ) → ((i : ℕ) → i < j → g i ≡ h i) → weighed g o j ≡ weighed h o j
unfolding weighed
weighed_ext g h o zero e = refl
weighed_ext g h o (suc j) e = omega (arith, weighed_ext g h o j (λ i l. e i (omega arith)), ap (times_gain (o j)) (e j (omega arith)))

-- ---- before the first stage

-- a bound that enters, on its side
brought_start : (st : List Stage) (r : Bound → ℕ) (e : Entering) (s : Side) → input_part st r e s 0 ≡ r (enters e s)
unfolding input_part gain exact_gain sum_from sum_to input_answer values_after rounded_up up_div ◌⊕◌ whole magnitude
brought_start st r (together b) low = times_gain_one (r b)
brought_start st r (together b) high = times_gain_one (r b)
brought_start st r (apart a b) low = omega (arith, times_gain_one (r a), times_gain_none (r b))
brought_start st r (apart a b) high = omega (arith, times_gain_none (r a), times_gain_one (r b))

module _ (st : List Stage) (e : Entering) (F : ℕ → ℕ) (fp : ℕ → Product) (fi : Side → ℕ) (f : ℕ → ℕ) where
  pub bound_start : (s : Side) → side_bound st e F fp fi f s 0 ≡ enters e s
  unfolding side_bound range_at error_at owns stages_part
  bound_start s =
      let bound : ℕ → ℕ → Bound = λ r t. record { range = r; error = t } in
      ap (λ (t : ℕ). bound t (input_part st (λ b. b.error) e s 0 + 0)) (brought_start st (λ b. b.range) e s)
      ∙ ap (bound (enters e s).range) (omega (arith, brought_start st (λ b. b.error) e s))

-- ---- a stage on the other side

module _ (st : List Stage) (m : ℕ) (s : Side) (elsewhere : (stage st m).side ≡ other s) where
  held_kept : (x : Side → Line) (a : ℕ → Line) (k : ℤ) → values_after st x a (suc m) s k ≡ values_after st x a m s k
  unfolding values_after
  held_kept x a k = go s (stage st m).side elsewhere
    where
      go : (s t : Side) → t ≡ other s → worked before after t (λ k own y z. made (stage st m).kind (stage st m).constant own y z ⊕ a m k) (values_after st x a m) s k ≡ values_after st x a m s k
      go s t e = rw e (kept s)
        where
          kept : (s : Side) → worked before after (other s) (λ k own y z. made (stage st m).kind (stage st m).constant own y z ⊕ a m k) (values_after st x a m) s k ≡ values_after st x a m s k
          kept low = refl
          kept high = refl

  inputs_kept : input_answer st s (suc m) ≡ input_answer st s m
  unfolding input_answer
  inputs_kept = fun_ext (λ t. fun_ext (λ p. held_kept (feed t (unit p)) (λ i. nothing) (pos 0)))

  nodes_kept : node_answer st s (suc m) ≡ node_answer st s m
  unfolding node_answer
  nodes_kept = fun_ext (λ i. fun_ext (λ p. held_kept (λ t. nothing) (only i (unit p)) (pos 0)))

  sums_kept : (r : ℕ) (i : Source) → sum_from st s (suc m) r i ≡ sum_from st s m r i
  unfolding sum_from
  sums_kept r samples = ap (λ (g : Side → ℤ → Frac). sum_to r (g low) ⊕ sum_to r (g high)) inputs_kept
  sums_kept r lows = ap (λ (g : Side → ℤ → Frac). sum_to r (g low)) inputs_kept
  sums_kept r highs = ap (λ (g : Side → ℤ → Frac). sum_to r (g high)) inputs_kept
  sums_kept r (node i) = ap (λ (g : ℕ → ℤ → Frac). sum_to r (g i)) nodes_kept

  gain_kept : (i : Source) → gain st s (suc m) i ≡ gain st s m i
  unfolding gain exact_gain
  gain_kept i = ap (rounded_up 65536) (sums_kept (suc m) i) ∙ endless_gain st s m i (suc m) (omega arith)

-- a later stage has no gain
sum_none : (r : ℕ) (f : ℤ → Frac) → ((p : ℤ) → f p ≈ zero_f) → sum_to r f ≈ zero_f
unfolding sum_to
sum_none zero f h = magnitude_zero (h (pos 0))
sum_none (suc r) f h = ≈-trans (⊕-cong (⊕-cong (sum_none r f h) (magnitude_zero (h (pos (suc r))))) (magnitude_zero (h (negsuc r)))) (≈-trans (⊕-zero-r _) (⊕-zero-r _))

gain_later : (st : List Stage) (s : Side) (m i : ℕ) → m ≤ i → gain st s m (node i) ≡ 0
unfolding gain exact_gain sum_from node_answer whole rounded_up
gain_later st s m i h = wholes_≈ 65536 {y = zero_f} (sum_none m _ (λ p. node_later st s m i (unit p) h))

module _ (st : List Stage) (e : Entering) (F : ℕ → ℕ) (fp : ℕ → Product) (fi : Side → ℕ) (f : ℕ → ℕ) (m : ℕ) (s : Side) (elsewhere : (stage st m).side ≡ other s) where
  brought_kept : (r : Bound → ℕ) (e : Entering) → input_part st r e s (suc m) ≡ input_part st r e s m
  unfolding input_part
  brought_kept r (together b) = ap (times_gain (r b)) (gain_kept st m s elsewhere samples)
  brought_kept r (apart a b) = ap (λ (g : ℕ). times_gain (r a) g + times_gain (r b) (gain st s (suc m) highs)) (gain_kept st m s elsewhere lows) ∙ ap (λ (g : ℕ). times_gain (r a) (gain st s m lows) + times_gain (r b) g) (gain_kept st m s elsewhere highs)

  bring_kept : (o : ℕ → ℕ) (j : ℕ) → nodes_part st s (suc m) o j ≡ nodes_part st s m o j
  unfolding weighed
  bring_kept o zero = refl
  bring_kept o (suc j) = ap (λ (t : ℕ). t + times_gain (o j) (gain st s (suc m) (node j))) (bring_kept o j) ∙ ap (λ (g : ℕ). nodes_part st s m o j + times_gain (o j) g) (gain_kept st m s elsewhere (node j))

  last_kept : (o : ℕ → ℕ) → nodes_part st s (suc m) o (suc m) ≡ nodes_part st s m o m
  unfolding weighed
  last_kept o = omega (arith, bring_kept o m, ap (times_gain (o m)) (gain_kept st m s elsewhere (node m) ∙ gain_later st s m m (omega arith)), times_gain_none (o m))

  -- A side that a stage does not work keeps its bound.
  pub bound_kept : side_bound st e F fp fi f s (suc m) ≡ side_bound st e F fp fi f s m
  unfolding side_bound range_at
  bound_kept =
      let bound : ℕ → ℕ → Bound = λ r t. record { range = r; error = t } in
      ap (λ (t : ℕ). bound t (error_at st e F fp fi f s (suc m))) (brought_kept (λ b. b.range) e)
      ∙ ap (bound (input_part st (λ b. b.range) e s m)) (omega (arith, error_sum st e F fp fi f s (suc m), error_sum st e F fp fi f s m, brought_kept (λ b. b.error) e, last_kept (own_at st e F fp fi f)))

-- ---- the bounds grow with what enters

pub up_grows : (a b m : ℕ) → 0 < m → a ≤ b → up_div a m ≤ up_div b m
unfolding up_div
up_grows a b m h i = (le-div_iff_mul-le {k = m} h).1 (le_trans (div-mul-le_self (a + (m - 1)) m) (omega arith))

pub times_grows : (x y g h : ℕ) → x ≤ y → g ≤ h → times_gain x g ≤ times_gain y h
unfolding times_gain
times_grows x y g h i j = up_grows (x * g) (y * h) 65536 (lit< tt) (mul-le-mul i j)

-- range and error each by itself
pub record AtMost (a b : Bound) : Type 0 where
  pub range : a.range ≤ b.range
  pub error : a.error ≤ b.error

-- what enters: it brings no more to any node
pub record EnterAtMost (e e' : Entering) : Type 0 where
  pub carries : (st : List Stage) (s : Side) (m : ℕ) → (input_part st (λ b. b.range) e s m ≤ input_part st (λ b. b.range) e' s m) × (input_part st (λ b. b.error) e s m ≤ input_part st (λ b. b.error) e' s m)

pub apart_at_most : {a a' b b' : Bound} → AtMost a a' → AtMost b b' → EnterAtMost (apart a b) (apart a' b')
unfolding input_part
apart_at_most {a} {a'} {b} {b'} h k = record {
  carries = λ st s m. (
    omega (arith, times_grows a.range a'.range (gain st s m lows) (gain st s m lows) h.range (omega arith), times_grows b.range b'.range (gain st s m highs) (gain st s m highs) k.range (omega arith)),
    omega (arith, times_grows a.error a'.error (gain st s m lows) (gain st s m lows) h.error (omega arith), times_grows b.error b'.error (gain st s m highs) (gain st s m highs) k.error (omega arith)),
  );
}

module _ (st : List Stage) (e e' : Entering) (F : ℕ → ℕ) (fp : ℕ → Product) (fi : Side → ℕ) (f : ℕ → ℕ) (h : EnterAtMost e e') where
  own_grows : (k : Kind) (s : Side) (i : ℕ) (r r' : Side → ℕ) → ((s : Side) → r s ≤ r' s) → own_error_of st e F fp fi f k s i r ≤ own_error_of st e' F fp fi f k s i r'
  unfolding own_error_of own_lift own_scale
  own_grows lifts low i r r' k = omega (arith, up_grows (r high) (r' high) (2 ^ F i) (pow_pos (F i)) (k high))
  own_grows lifts high i r r' k = omega (arith, up_grows (r low) (r' low) (2 ^ F i) (pow_pos (F i)) (k low))
  own_grows scales low i r r' k = omega (arith, up_grows (r low) (r' low) (2 ^ (F i + 1)) (pow_pos (F i + 1)) (k low))
  own_grows scales high i r r' k = omega (arith, up_grows (r high) (r' high) (2 ^ (F i + 1)) (pow_pos (F i + 1)) (k high))

  owns_grow : (i : ℕ) (s : Side) (m : ℕ) → stages_part st e F fp fi f i (owns st e F fp fi f i) s m ≤ stages_part st e' F fp fi f i (owns st e' F fp fi f i) s m
  unfolding stages_part owns range_at
  owns_grow zero s m = omega arith
  owns_grow (suc i) s m =
      omega (
        arith,
        owns_grow i s m,
        times_grows _ _ (gain st s m (node i)) (gain st s m (node i))
            (own_grows (stage st i).kind (stage st i).side i
            (λ s. range_at st e F fp fi f s i + (input_part st (λ b. b.error) e s i + stages_part st e F fp fi f i (owns st e F fp fi f i) s i))
            (λ s. range_at st e' F fp fi f s i + (input_part st (λ b. b.error) e' s i + stages_part st e' F fp fi f i (owns st e' F fp fi f i) s i))
            (λ s. omega (arith, (h.carries st s i).0, (h.carries st s i).1, owns_grow i s i)))
            (omega arith),
      )

  -- A larger range and error in, no smaller ones out.
  pub bound_grows : (s : Side) (m : ℕ) → AtMost (side_bound st e F fp fi f s m) (side_bound st e' F fp fi f s m)
  unfolding side_bound range_at error_at
  bound_grows s m = record { range = (h.carries st s m).0; error = omega (arith, (h.carries st s m).1, owns_grow m s m) }

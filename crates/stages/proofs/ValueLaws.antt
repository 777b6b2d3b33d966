-- What stands on an endless line after m stages is linear in what is put in (`held_plus`, `held_times`), comes from places no further
-- than m (`held_seen`), and so is the sum of what each source alone brings (`held_parts`); sizes go by the gains.
use Rattle.std.specs.Prelude.{List, ◌≡◌, Bool, true, false, T, eqb, ℤ, pos, negsuc}
use Prim.Native.Nat.{ℕ, zero, suc, ◌+◌, ◌<◌, ◌≤◌}
use Rattle.std.proofs.Common.{subst, eqb→eq}
use native.Mathlib.Omega.{arith}
use Rattle.std.proofs.Math.Decide.{dec_lt}
use Rattle.std.proofs.Math.Dec.{eqb_refl}
use Rattle.std.proofs.Math.IntN.{suc_ℤ, pred_ℤ, nat_abs}
use Rattle.exact.specs.Fractions.{Frac, ◌≈◌, ◌⊕◌, ◌⊗◌, zero_f, Within}
use Rattle.exact.specs.FracLaws.{≈-refl, ≈-sym, ≈-trans, ⊕-cong, ⊗-cong, ⊕-swap, ⊕-zero-l, ⊕-zero-r, ⊗-zero-r, ⊗-distl, ⊗-assoc, within_≈, within_⊕, within_zero}
use Rattle.exact.specs.Exact.{lift}
use Rattle.stages.specs.Stages.{Side, low, high, Kind, lifts, scales, Stage, stage, made, worked}
use Rattle.stages.specs.Gains.{Line, before, after, values_after, nothing, feed, only, sum_to, input_answer, node_answer, sum_from, exact_gain, gain, samples, node}
use Rattle.stages.specs.Rule.{Bound, Entering, together, apart, times_gain, input_part}
use Rattle.stages.specs.Linear.{⊗-comm, Linear, Weighs, weighs_≈, weighs_plus, weighs_within, linear_weighs}

-- what enters on a side
abbrev pub enters : Entering → Side → Bound
enters (together b) s = b
enters (apart a b) low = a
enters (apart a b) high = b

-- ---- one stage

pub made_cong : (t : Kind) (c : Frac) {o o' x x' y y' : Frac} → o ≈ o' → x ≈ x' → y ≈ y' → made t c o x y ≈ made t c o' x' y'
unfolding made lift
made_cong lifts c h i j = ⊕-cong h (⊗-cong (≈-refl c) (⊕-cong i j))
made_cong scales c h i j = ⊗-cong (≈-refl c) h

made_plus : (t : Kind) (c o o' x x' y y' : Frac) → made t c (o ⊕ o') (x ⊕ x') (y ⊕ y') ≈ made t c o x y ⊕ made t c o' x' y'
unfolding made lift
made_plus lifts c o o' x x' y y' =
    ≈-trans (⊕-cong (≈-refl (o ⊕ o')) (≈-trans (⊗-cong (≈-refl c) (⊕-swap x x' y y')) (⊗-distl c (x ⊕ y) (x' ⊕ y'))))
    (⊕-swap o o' (c ⊗ (x ⊕ y)) (c ⊗ (x' ⊕ y')))
made_plus scales c o o' x x' y y' = ⊗-distl c o o'

-- c (d x) is d (c x)
swap_times : (c d x : Frac) → c ⊗ (d ⊗ x) ≈ d ⊗ (c ⊗ x)
swap_times c d x = ≈-trans (≈-sym (⊗-assoc c d x)) (≈-trans (⊗-cong (⊗-comm c d) (≈-refl x)) (⊗-assoc d c x))

made_times : (t : Kind) (c d o x y : Frac) → made t c (d ⊗ o) (d ⊗ x) (d ⊗ y) ≈ d ⊗ made t c o x y
unfolding made lift
made_times lifts c d o x y =
    ≈-trans (⊕-cong (≈-refl (d ⊗ o)) (≈-trans (⊗-cong (≈-refl c) (≈-sym (⊗-distl d x y))) (swap_times c d (x ⊕ y))))
    (≈-sym (⊗-distl d o (c ⊗ (x ⊕ y))))
made_times scales c d o x y = swap_times c d o

-- ---- all stages

near_pred : (k : ℤ) → nat_abs (pred_ℤ k) ≤ suc (nat_abs k)
near_pred (pos zero) = omega arith
near_pred (pos (suc n)) = omega arith
near_pred (negsuc n) = omega arith

near_suc : (k : ℤ) → nat_abs (suc_ℤ k) ≤ suc (nat_abs k)
near_suc (pos n) = omega arith
near_suc (negsuc zero) = omega arith
near_suc (negsuc (suc n)) = omega arith

module _ (st : List Stage) where
  -- equal where they are put in, up to m places from k, and at the first m stages
  held_seen : (x x' : Side → Line) (a a' : ℕ → Line) (m : ℕ) (s : Side) (k : ℤ) → ((t : Side) (p : ℤ) → nat_abs p ≤ m + nat_abs k → x t p ≈ x' t p) → ((i : ℕ) (p : ℤ) → i < m → nat_abs p ≤ m + nat_abs k → a i p ≈ a' i p) → values_after st x a m s k ≈ values_after st x' a' m s k
  unfolding values_after
  held_seen x x' a a' zero s k h i = h s k (omega arith)
  held_seen x x' a a' (suc m) s k h i = go (λ t j n. held_seen x x' a a' m t j (λ t p l. h t p (omega arith)) (λ q p l e. i q p (omega arith) (omega arith))) (stage st m).side s
    where
      go : ((t : Side) (j : ℤ) → nat_abs j ≤ suc (nat_abs k) → values_after st x a m t j ≈ values_after st x' a' m t j) → (t s : Side) → worked before after t (λ k own x y. made (stage st m).kind (stage st m).constant own x y ⊕ a m k) (values_after st x a m) s k ≈ worked before after t (λ k own x y. made (stage st m).kind (stage st m).constant own x y ⊕ a' m k) (values_after st x' a' m) s k
      go at low low = ⊕-cong (made_cong (stage st m).kind (stage st m).constant (at low k (omega arith)) (at high (pred_ℤ k) (near_pred k)) (at high k (omega arith))) (i m k (omega arith) (omega arith))
      go at low high = at high k (omega arith)
      go at high low = at low k (omega arith)
      go at high high = ⊕-cong (made_cong (stage st m).kind (stage st m).constant (at high k (omega arith)) (at low k (omega arith)) (at low (suc_ℤ k) (near_suc k))) (i m k (omega arith) (omega arith))

  held_plus : (x x' : Side → Line) (a a' : ℕ → Line) (m : ℕ) (s : Side) (k : ℤ) → values_after st (λ t p. x t p ⊕ x' t p) (λ i p. a i p ⊕ a' i p) m s k ≈ values_after st x a m s k ⊕ values_after st x' a' m s k
  unfolding values_after
  held_plus x x' a a' zero s k = ≈-refl _
  held_plus x x' a a' (suc m) s k = go (held_plus x x' a a' m) (stage st m).side s
    where
      go : ((t : Side) (j : ℤ) → values_after st (λ t p. x t p ⊕ x' t p) (λ i p. a i p ⊕ a' i p) m t j ≈ values_after st x a m t j ⊕ values_after st x' a' m t j) → (t s : Side) → worked before after t (λ k own x y. made (stage st m).kind (stage st m).constant own x y ⊕ (a m k ⊕ a' m k)) (values_after st (λ t p. x t p ⊕ x' t p) (λ i p. a i p ⊕ a' i p) m) s k ≈ worked before after t (λ k own x y. made (stage st m).kind (stage st m).constant own x y ⊕ a m k) (values_after st x a m) s k ⊕ worked before after t (λ k own x y. made (stage st m).kind (stage st m).constant own x y ⊕ a' m k) (values_after st x' a' m) s k
      go at low low = ≈-trans (⊕-cong (≈-trans (made_cong (stage st m).kind (stage st m).constant (at low k) (at high (pred_ℤ k)) (at high k)) (made_plus (stage st m).kind (stage st m).constant _ _ _ _ _ _)) (≈-refl _)) (⊕-swap _ _ _ _)
      go at low high = at high k
      go at high low = at low k
      go at high high = ≈-trans (⊕-cong (≈-trans (made_cong (stage st m).kind (stage st m).constant (at high k) (at low k) (at low (suc_ℤ k))) (made_plus (stage st m).kind (stage st m).constant _ _ _ _ _ _)) (≈-refl _)) (⊕-swap _ _ _ _)

  held_times : (d : Frac) (x : Side → Line) (a : ℕ → Line) (m : ℕ) (s : Side) (k : ℤ) → values_after st (λ t p. d ⊗ x t p) (λ i p. d ⊗ a i p) m s k ≈ d ⊗ values_after st x a m s k
  unfolding values_after
  held_times d x a zero s k = ≈-refl _
  held_times d x a (suc m) s k = go (held_times d x a m) (stage st m).side s
    where
      go : ((t : Side) (j : ℤ) → values_after st (λ t p. d ⊗ x t p) (λ i p. d ⊗ a i p) m t j ≈ d ⊗ values_after st x a m t j) → (t s : Side) → worked before after t (λ k own x y. made (stage st m).kind (stage st m).constant own x y ⊕ d ⊗ a m k) (values_after st (λ t p. d ⊗ x t p) (λ i p. d ⊗ a i p) m) s k ≈ d ⊗ worked before after t (λ k own x y. made (stage st m).kind (stage st m).constant own x y ⊕ a m k) (values_after st x a m) s k
      go at low low = ≈-trans (⊕-cong (≈-trans (made_cong (stage st m).kind (stage st m).constant (at low k) (at high (pred_ℤ k)) (at high k)) (made_times (stage st m).kind (stage st m).constant _ _ _ _)) (≈-refl _)) (≈-sym (⊗-distl d _ _))
      go at low high = at high k
      go at high low = at low k
      go at high high = ≈-trans (⊕-cong (≈-trans (made_cong (stage st m).kind (stage st m).constant (at high k) (at low k) (at low (suc_ℤ k))) (made_times (stage st m).kind (stage st m).constant _ _ _ _)) (≈-refl _)) (≈-sym (⊗-distl d _ _))

-- ---- one source alone

feed_seen : (t u : Side) (f g : Line) (p : ℤ) → f p ≈ g p → feed t f u p ≈ feed t g u p
feed_seen low low f g p h = h
feed_seen low high f g p h = ≈-refl zero_f
feed_seen high low f g p h = ≈-refl zero_f
feed_seen high high f g p h = h

zeros : zero_f ≈ zero_f ⊕ zero_f
zeros = ≈-sym (⊕-zero-r zero_f)

feed_plus : (t u : Side) (f g : Line) (p : ℤ) → feed t (λ p. f p ⊕ g p) u p ≈ feed t f u p ⊕ feed t g u p
feed_plus low low f g p = ≈-refl _
feed_plus low high f g p = zeros
feed_plus high low f g p = zeros
feed_plus high high f g p = ≈-refl _

feed_times : (t u : Side) (c : Frac) (f : Line) (p : ℤ) → feed t (λ p. c ⊗ f p) u p ≈ c ⊗ feed t f u p
feed_times low low c f p = ≈-refl _
feed_times low high c f p = ≈-sym (⊗-zero-r c)
feed_times high low c f p = ≈-sym (⊗-zero-r c)
feed_times high high c f p = ≈-refl _

-- the same for what one stage adds, by whether it is that stage
abbrev when : Bool → Line → Line
when b f = elim b [ true ↦ f | false ↦ nothing ]

when_seen : (b : Bool) (f g : Line) (p : ℤ) → f p ≈ g p → when b f p ≈ when b g p
when_seen true f g p h = h
when_seen false f g p h = ≈-refl zero_f

when_plus : (b : Bool) (f g : Line) (p : ℤ) → when b (λ p. f p ⊕ g p) p ≈ when b f p ⊕ when b g p
when_plus true f g p = ≈-refl _
when_plus false f g p = zeros

when_times : (b : Bool) (c : Frac) (f : Line) (p : ℤ) → when b (λ p. c ⊗ f p) p ≈ c ⊗ when b f p
when_times true c f p = ≈-refl _
when_times false c f p = ≈-sym (⊗-zero-r c)

-- numbers o times gains g, summed
unfoldable pub weighed : (ℕ → ℕ) → (ℕ → ℕ) → ℕ → ℕ
weighed g o zero = 0
weighed g o (suc j) = weighed g o j + times_gain (o j) (g j)

abbrev pub none : ℕ → Line
none i = nothing

abbrev empty : Side → Line
empty t = nothing

module _ (st : List Stage) (s : Side) (m : ℕ) where
  -- what a line brings that enters on side t alone
  abbrev pub via_input : Side → Line → Frac
  via_input t f = values_after st (feed t f) none m s (pos 0)

  -- that stage i alone adds
  abbrev pub via_node : ℕ → Line → Frac
  via_node i f = values_after st empty (only i f) m s (pos 0)

  seen : (x x' : Side → Line) (a a' : ℕ → Line) → ((t : Side) (p : ℤ) → nat_abs p ≤ m → x t p ≈ x' t p) → ((i : ℕ) (p : ℤ) → i < m → nat_abs p ≤ m → a i p ≈ a' i p) → values_after st x a m s (pos 0) ≈ values_after st x' a' m s (pos 0)
  seen x x' a a' h i = held_seen st x x' a a' m s (pos 0) (λ t p l. h t p (omega arith)) (λ j p l e. i j p l (omega arith))

  pub input_linear : (t : Side) → Linear m (via_input t)
  input_linear t = record {
    seen = λ f g h. seen (feed t f) (feed t g) none none (λ u p l. feed_seen t u f g p (h p l)) (λ i p l e. ≈-refl _);
    plus = λ f g. ≈-trans (seen (feed t (λ p. f p ⊕ g p)) (λ u p. feed t f u p ⊕ feed t g u p) none (λ i p. zero_f ⊕ zero_f) (λ u p l. feed_plus t u f g p) (λ i p l e. zeros)) (held_plus st (feed t f) (feed t g) none none m s (pos 0));
    times = λ c f. ≈-trans (seen (feed t (λ p. c ⊗ f p)) (λ u p. c ⊗ feed t f u p) none (λ i p. c ⊗ zero_f) (λ u p l. feed_times t u c f p) (λ i p l e. ≈-sym (⊗-zero-r c))) (held_times st c (feed t f) none m s (pos 0));
  }

  pub node_linear : (i : ℕ) → Linear m (via_node i)
  node_linear i = record {
    seen = λ f g h. seen empty empty (only i f) (only i g) (λ u p l. ≈-refl _) (λ j p l e. when_seen (eqb i j) f g p (h p e));
    plus = λ f g. ≈-trans (seen empty (λ u p. zero_f ⊕ zero_f) (only i (λ p. f p ⊕ g p)) (λ j p. only i f j p ⊕ only i g j p) (λ u p l. zeros) (λ j p l e. when_plus (eqb i j) f g p)) (held_plus st empty empty (only i f) (only i g) m s (pos 0));
    times = λ c f. ≈-trans (seen empty (λ u p. c ⊗ zero_f) (only i (λ p. c ⊗ f p)) (λ j p. c ⊗ only i f j p) (λ u p l. ≈-sym (⊗-zero-r c)) (λ j p l e. when_times (eqb i j) c f p)) (held_times st c empty (only i f) m s (pos 0));
  }

  -- ---- all sources together

  unfoldable via_nodes : ℕ → (ℕ → Line) → Frac
  via_nodes zero a = zero_f
  via_nodes (suc j) a = via_nodes j a ⊕ via_node j (a j)

  -- what the first j stages add, nothing by the others
  unfoldable firsts : ℕ → (ℕ → Line) → ℕ → Line
  firsts zero a i p = zero_f
  firsts (suc j) a i p = firsts j a i p ⊕ only j (a j) i p

  when_here : (i : ℕ) (f : Line) (p : ℤ) → when (eqb i i) f p ≈ f p
  when_here i f p = go (eqb i i) (eqb_refl i)
    where
      go : (b : Bool) → T b → when b f p ≈ f p
      go true h = ≈-refl _
      go false h = absurd h

  when_else : (i j : ℕ) (f : Line) (p : ℤ) → (i ≡ j → ⊥) → when (eqb i j) f p ≈ zero_f
  when_else i j f p ne = go (eqb i j) (eqb→eq i j)
    where
      go : (b : Bool) → (T b → i ≡ j) → when b f p ≈ zero_f
      go true h = absurd (ne (h tt))
      go false h = ≈-refl _

  firsts_past : (j : ℕ) (a : ℕ → Line) (i : ℕ) (p : ℤ) → j ≤ i → firsts j a i p ≈ zero_f
  unfolding firsts
  firsts_past zero a i p h = ≈-refl _
  firsts_past (suc j) a i p h = ≈-trans (⊕-cong (firsts_past j a i p (omega arith)) (when_else j i (a j) p (omega arith))) (⊕-zero-r zero_f)

  firsts_are : (j : ℕ) (a : ℕ → Line) (i : ℕ) (p : ℤ) → i < j → firsts j a i p ≈ a i p
  unfolding firsts
  firsts_are zero a i p h = absurd (omega arith)
  firsts_are (suc j) a i p h = go (dec_lt i j) (firsts_are j a i p)
    where
      go : Dec (i < j) → (i < j → firsts j a i p ≈ a i p) → firsts j a i p ⊕ only j (a j) i p ≈ a i p
      go (yes l) before = ≈-trans (⊕-cong (before l) (when_else j i (a j) p (omega arith))) (⊕-zero-r _)
      go (no l) before =
          let e : j ≡ i = omega arith in
          ≈-trans (⊕-cong (firsts_past j a i p (omega arith)) (subst (λ (k : ℕ). when (eqb j k) (a j) p ≈ a k p) e (when_here j (a j) p))) (⊕-zero-l _)

  held_nodes : (j : ℕ) (a : ℕ → Line) → values_after st empty (firsts j a) m s (pos 0) ≈ via_nodes j a
  unfolding firsts via_nodes
  held_nodes zero a =
      ≈-trans (seen empty (λ t p. zero_f ⊗ zero_f) none (λ i p. zero_f ⊗ zero_f) (λ t p l. ≈-sym (⊗-zero-r zero_f)) (λ i p l e. ≈-sym (⊗-zero-r zero_f)))
      (≈-trans (held_times st zero_f empty none m s (pos 0)) (≈-trans (⊗-comm zero_f _) (⊗-zero-r _)))
  held_nodes (suc j) a =
      ≈-trans (seen empty (λ t p. zero_f ⊕ zero_f) (firsts (suc j) a) (λ i p. firsts j a i p ⊕ only j (a j) i p) (λ t p l. zeros) (λ i p l e. ≈-refl _))
      (≈-trans (held_plus st empty empty (firsts j a) (only j (a j)) m s (pos 0)) (⊕-cong (held_nodes j a) (≈-refl _)))

  -- a later stage brings nothing
  pub node_later : (i : ℕ) (f : Line) → m ≤ i → via_node i f ≈ zero_f
  unfolding firsts via_nodes
  node_later i f h = ≈-trans (seen empty empty (only i f) (firsts 0 none) (λ t p l. ≈-refl _) (λ j p l e. when_else i j f p (omega arith))) (held_nodes 0 none)

  feeds : (x : Side → Line) (t : Side) (p : ℤ) → x t p ≈ feed low (x low) t p ⊕ feed high (x high) t p
  feeds x low p = ≈-sym (⊕-zero-r _)
  feeds x high p = ≈-sym (⊕-zero-l _)

  held_inputs : (x : Side → Line) → values_after st x none m s (pos 0) ≈ via_input low (x low) ⊕ via_input high (x high)
  held_inputs x = ≈-trans (seen x (λ t p. feed low (x low) t p ⊕ feed high (x high) t p) none (λ i p. zero_f ⊕ zero_f) (λ t p l. feeds x t p) (λ i p l e. zeros)) (held_plus st (feed low (x low)) (feed high (x high)) none none m s (pos 0))

  -- what stands there is the sum of what each source alone brings
  held_parts : (x : Side → Line) (a : ℕ → Line) → values_after st x a m s (pos 0) ≈ (via_input low (x low) ⊕ via_input high (x high)) ⊕ via_nodes m a
  held_parts x a =
      ≈-trans (seen x (λ t p. x t p ⊕ zero_f) a (λ i p. zero_f ⊕ firsts m a i p) (λ t p l. ≈-sym (⊕-zero-r _)) (λ i p l e. ≈-trans (≈-sym (firsts_are m a i p l)) (≈-sym (⊕-zero-l _))))
      (≈-trans (held_plus st x empty none (firsts m a) m s (pos 0))
      (⊕-cong (held_inputs x) (held_nodes m a)))

  -- ---- sizes go by the gains

  -- what the first j stages bring, where stage i adds at most o i
  abbrev pub nodes_part : (ℕ → ℕ) → ℕ → ℕ
  nodes_part = weighed (λ i. gain st s m (node i))

  module _ (q : ℕ) (above : 0 < q) where
    input_weighs : (t : Side) (b : ℕ) (f : Line) → ((p : ℤ) → Within (f p) b q) → Weighs (sum_to m (input_answer st s m t)) b q (via_input t f)
    unfolding input_answer
    input_weighs t b f h = linear_weighs b q above m (input_linear t) f (λ p l. h p)

    -- by the exact gain, where nothing is added
    pub held_weighs : (b : ℕ) (x : Side → Line) → ((t : Side) (p : ℤ) → Within (x t p) b q) → Weighs (exact_gain st s m samples) b q (values_after st x none m s (pos 0))
    unfolding exact_gain sum_from
    held_weighs b x h = weighs_≈ (≈-sym (held_inputs x)) (weighs_plus above (input_weighs low b (x low) (h low)) (input_weighs high b (x high) (h high)))

    input_within : (r : Bound → ℕ) (e : Entering) (x : Side → Line) → ((t : Side) (p : ℤ) → Within (x t p) (r (enters e t)) q) → Within (via_input low (x low) ⊕ via_input high (x high)) (input_part st r e s m) q
    unfolding input_part gain exact_gain sum_from
    input_within r (together b) x h = weighs_within above (weighs_plus above (input_weighs low (r b) (x low) (h low)) (input_weighs high (r b) (x high) (h high)))
    input_within r (apart a b) x h = within_⊕ (weighs_within above (input_weighs low (r a) (x low) (h low))) (weighs_within above (input_weighs high (r b) (x high) (h high)))

    nodes_within : (o : ℕ → ℕ) (a : ℕ → Line) (j : ℕ) → ((i : ℕ) (p : ℤ) → i < j → Within (a i p) (o i) q) → Within (via_nodes j a) (nodes_part o j) q
    unfolding via_nodes weighed gain exact_gain sum_from node_answer
    nodes_within o a zero h = within_zero 0 q
    nodes_within o a (suc j) h = within_⊕ (nodes_within o a j (λ i p l. h i p (omega arith))) (weighs_within above (linear_weighs (o j) q above m (node_linear j) (a j) (λ p l. h j p (omega arith))))

    pub held_within : (r : Bound → ℕ) (e : Entering) (o : ℕ → ℕ) (x : Side → Line) (a : ℕ → Line) → ((t : Side) (p : ℤ) → Within (x t p) (r (enters e t)) q) → ((i : ℕ) (p : ℤ) → i < m → Within (a i p) (o i) q) → Within (values_after st x a m s (pos 0)) (input_part st r e s m + nodes_part o m) q
    held_within r e o x a h k = within_≈ (≈-sym (held_parts x a)) (within_⊕ (input_within r e x h) (nodes_within o a m k))

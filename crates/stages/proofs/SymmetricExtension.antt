-- The symmetric extension of a line, as a walk along it with mirrored edges: from low to high to low .., each step to the side that it did not
-- come from. At an edge it goes back, as the mirror does. Whatever the edges do, the two neighbours of a place are the places before and after
-- it in the extension, so that the line along it is an endless one (`along`).
use Rattle.std.specs.Prelude.{List, ◌≡◌, refl, ℤ, pos, negsuc}
use Prim.Native.Nat.{ℕ, zero, suc, ◌+◌, ◌<◌, ◌≤◌}
use Rattle.std.proofs.Common.{subst, arith}
use Rattle.std.proofs.Math.Decide.{dec_le}
use Rattle.std.proofs.Math.IntN.{suc_ℤ, pred_ℤ}
use Rattle.lines.specs.Lines.{Liftable, low_after, high_before, high_after}
use Rattle.lines.specs.LineLaws.{some_highs_lem}
use Rattle.lines.specs.Neighbours.{Beside, low_after_beside, high_before_beside, high_after_beside, low_after_next, high_before_next, high_after_next}
use Rattle.exact.specs.Fractions.{Frac, ◌≈◌, ◌⊕◌, zero_f, Within}
use Rattle.exact.specs.FracLaws.{≈-refl, ≈-sym, ≈-trans, ⊕-cong, ⊗-cong, ⊕-comm, within_≈}
use Rattle.exact.specs.Exact.{lift}
use Rattle.stages.specs.Stages.{Side, low, high, Kind, lifts, scales, Stage, stage, made, worked}
use Rattle.stages.specs.OnLine.{other, before_in, after_in, count}
use Rattle.stages.specs.Gains.{Line, before, after, values_after, samples, exact_gain}
use Rattle.stages.specs.Rule.{Bound, Entering, input_part}
use Rattle.stages.proofs.ValueLaws.{enters, made_cong, held_within, held_weighs, nodes_part}
use Rattle.stages.specs.Linear.{Weighs, weighs_≈}

-- a and b are x and y, in either order
pub data Two (a b x y : ℕ) : Type 0 where
  straight : a ≡ x → b ≡ y → Two a b x y
  crossed : a ≡ y → b ≡ x → Two a b x y

two_back : {a b x y : ℕ} → Two a b x y → Two a b y x
two_back (straight p q) = crossed p q
two_back (crossed p q) = straight p q

next_low : (n l h : ℕ) → Beside n l h → (m : ℕ) × Beside n m h × Two h (low_after n h) l m
next_low n l h b = go (dec_le l h)
  where
    go : Dec (l ≤ h) → (m : ℕ) × Beside n m h × Two h (low_after n h) l m
    go (yes e) = (low_after n h, low_after_beside n h b.high_in_lem, straight (omega arith) refl)
    go (no e) = (h, omega arith, crossed refl (omega (arith, low_after_next n h (omega arith))))

next_high : (n l h : ℕ) → Beside n l h → (m : ℕ) × Beside n l m × Two (high_before l) (high_after n l) h m
next_high n l h b = go (dec_le l h)
  where
    go : Dec (l ≤ h) → (m : ℕ) × Beside n l m × Two (high_before l) (high_after n l) h m
    go (yes e) = (high_before l, high_before_beside n l (omega arith) b.low_in_lem, crossed refl (omega (arith, high_after_next n l (omega arith))))
    go (no e) = (high_after n l, high_after_beside n l (omega arith) b.low_in_lem, straight (omega (arith, high_before_next l (omega arith))) refl)

-- a place in it
record Stand (n : ℕ) : Type 0 where
  pub low : ℕ
  pub high : ℕ
  pub beside : Beside n low high

onward : (n : ℕ) → Stand n → Stand n
onward n p =
    let l = next_low n p.low p.high p.beside in
    let h = next_high n l.0 p.high l.1 in
    record { low = l.0; high = h.0; beside = h.1 }

backward : (n : ℕ) → Stand n → Stand n
backward n p =
    let h = next_high n p.low p.high p.beside in
    let l = next_low n p.low h.0 h.1 in
    record { low = l.0; high = h.0; beside = l.1 }

stand : (n : ℕ) → Stand n → ℤ → Stand n
stand n p (pos zero) = p
stand n p (pos (suc k)) = onward n (stand n p (pos k))
stand n p (negsuc zero) = backward n p
stand n p (negsuc (suc k)) = backward n (stand n p (negsuc k))

pub record Extension (n : ℕ) : Type 0 where
  pub place : Side → ℤ → ℕ
  pub inside : (s : Side) (k : ℤ) → place s k < count n s
  pub beside : (s : Side) (k : ℤ) → Two (before_in s (place s k)) (after_in n s (place s k)) (place (other s) (before s k)) (place (other s) (after s k))

-- the places of a pair as it goes along
abbrev placed : (n : ℕ) → Stand n → Side → ℤ → ℕ
placed n p low k = (stand n p k).low
placed n p high k = (stand n p k).high

-- the extension that has a place at 0
extension_from : (n : ℕ) → Stand n → Extension n
unfolding stand onward backward
extension_from n p = record {
  place = placed n p;
  inside = λ s k. elim s as (λ x. placed n p x k < count n x) [ low ↦ (stand n p k).beside.low_in_lem | high ↦ (stand n p k).beside.high_in_lem ];
  beside = λ s. elim s as (λ x. (k : ℤ) → Two (before_in x (placed n p x k)) (after_in n x (placed n p x k)) (placed n p (other x) (before x k)) (placed n p (other x) (after x k))) [ low ↦ at_low | high ↦ at_high ];
}
  where
    at_low : (k : ℤ) → Two (high_before (stand n p k).low) (high_after n (stand n p k).low) (stand n p (pred_ℤ k)).high (stand n p k).high
    at_low (pos zero) = two_back (next_high n p.low p.high p.beside).2
    at_low (pos (suc k)) = (next_high n _ (stand n p (pos k)).high (next_low n (stand n p (pos k)).low (stand n p (pos k)).high (stand n p (pos k)).beside).1).2
    at_low (negsuc k) = two_back (next_high n (stand n p (negsuc k)).low (stand n p (negsuc k)).high (stand n p (negsuc k)).beside).2

    at_high : (k : ℤ) → Two (stand n p k).high (low_after n (stand n p k).high) (stand n p k).low (stand n p (suc_ℤ k)).low
    at_high (pos k) = (next_low n (stand n p (pos k)).low (stand n p (pos k)).high (stand n p (pos k)).beside).2
    at_high (negsuc zero) = two_back (next_low n p.low _ (next_high n p.low p.high p.beside).1).2
    at_high (negsuc (suc k)) = two_back (next_low n (stand n p (negsuc k)).low _ (next_high n (stand n p (negsuc k)).low (stand n p (negsuc k)).high (stand n p (negsuc k)).beside).1).2

extension_at : (n : ℕ) → Liftable n → (s : Side) (k : ℕ) → k < count n s → (w : Extension n) × (w.place s (pos 0) ≡ k)
unfolding extension_from stand
extension_at n works low k h = (extension_from n (record { low = k; high = high_after n k; beside = high_after_beside n k (some_highs_lem n works) h }), refl)
extension_at n works high k h = (extension_from n (record { low = k; high = k; beside = omega arith }), refl)

-- ---- a line of n along its extension

made_two : (t : Kind) (c o : Frac) (f : ℕ → Frac) {a b x y : ℕ} → Two a b x y → made t c o (f a) (f b) ≈ made t c o (f x) (f y)
unfolding made lift
made_two lifts c o f (straight p q) = rw (p, q) (≈-refl _)
made_two lifts c o f {x} {y} (crossed p q) = rw (p, q) (⊕-cong (≈-refl o) (⊗-cong (≈-refl c) (⊕-comm (f y) (f x))))
made_two scales c o f h = ≈-refl _

-- A line of n after each number of stages, with something added by each.
abbrev pub Stages : List Stage → ℕ → (ℕ → ℕ → Frac) → (ℕ → Side → ℕ → Frac) → Type 0
Stages st n a y = (m : ℕ) (s : Side) (k : ℕ) → k < count n s → y (suc m) s k ≈ worked before_in (after_in n) (stage st m).side (λ k own x z. made (stage st m).kind (stage st m).constant own x z ⊕ a m k) (y m) s k

module _ (st : List Stage) (n : ℕ) (a : ℕ → ℕ → Frac) (y : ℕ → Side → ℕ → Frac) (is : Stages st n a y) where
  module _ (w : Extension n) where
    abbrev entered : Side → Line
    entered t p = y 0 t (w.place t p)

    abbrev added : ℕ → Line
    added i p = a i (w.place (stage st i).side p)

    -- it is what an endless line holds
    along : (m : ℕ) (s : Side) (k : ℤ) → y m s (w.place s k) ≈ values_after st entered added m s k
    unfolding values_after
    along zero s k = ≈-refl _
    along (suc m) s k = ≈-trans (is m s (w.place s k) (w.inside s k)) (go (along m) (stage st m).side s)
      where
        go : ((s : Side) (k : ℤ) → y m s (w.place s k) ≈ values_after st entered added m s k) → (t s : Side) → worked before_in (after_in n) t (λ k own x z. made (stage st m).kind (stage st m).constant own x z ⊕ a m k) (y m) s (w.place s k) ≈ worked before after t (λ k own x z. made (stage st m).kind (stage st m).constant own x z ⊕ a m (w.place t k)) (values_after st entered added m) s k
        go at low low = ⊕-cong (≈-trans (made_two (stage st m).kind (stage st m).constant _ (y m high) (w.beside low k)) (made_cong (stage st m).kind (stage st m).constant (at low k) (at high (pred_ℤ k)) (at high k))) (≈-refl _)
        go at low high = at high k
        go at high low = at low k
        go at high high = ⊕-cong (≈-trans (made_two (stage st m).kind (stage st m).constant _ (y m low) (w.beside high k)) (made_cong (stage st m).kind (stage st m).constant (at high k) (at low k) (at low (suc_ℤ k)))) (≈-refl _)

  -- sizes on a line of n go by the gains
  pub line_within : Liftable n → (q : ℕ) → 0 < q → (r : Bound → ℕ) (e : Entering) (o : ℕ → ℕ) → ((t : Side) (k : ℕ) → k < count n t → Within (y 0 t k) (r (enters e t)) q) → (m : ℕ) → ((i k : ℕ) → i < m → k < count n (stage st i).side → Within (a i k) (o i) q) → (s : Side) (k : ℕ) → k < count n s → Within (y m s k) (input_part st r e s m + nodes_part st s m o m) q
  line_within works q above r e o h m own s k i =
      let (w, at) = extension_at n works s k i in
      subst (λ (j : ℕ). Within (y m s j) (input_part st r e s m + nodes_part st s m o m) q) at
      (within_≈ (≈-sym (along w m s (pos 0))) (held_within st s m q above r e o (entered w) (added w) (λ t p. h t (w.place t p) (w.inside t p)) (λ j p l. own j (w.place (stage st j).side p) l (w.inside (stage st j).side p))))

-- the same by the exact gain, where nothing is added
pub line_weighs : (st : List Stage) (n : ℕ) (y : ℕ → Side → ℕ → Frac) → Stages st n (λ i k. zero_f) y → Liftable n → (b q : ℕ) → 0 < q → ((t : Side) (k : ℕ) → k < count n t → Within (y 0 t k) b q) → (m : ℕ) (s : Side) (k : ℕ) → k < count n s → Weighs (exact_gain st s m samples) b q (y m s k)
line_weighs st n y is works b q above h m s k i =
    let (w, at) = extension_at n works s k i in
    subst (λ (j : ℕ). Weighs (exact_gain st s m samples) b q (y m s j)) at
    (weighs_≈ (≈-sym (along st n (λ i k. zero_f) y is w m s (pos 0))) (held_weighs st s m q above b (entered st n (λ i k. zero_f) y is w) (λ t p. h t (w.place t p) (w.inside t p))))

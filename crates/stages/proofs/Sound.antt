-- The rule is sound, for any stages: where what enters a line with mirrored edges is good, what stands on it after m stages is good. A value is
-- good where the exact one lies within a range and the fixed-point one within an error of it.
use Rattle.std.specs.Prelude.{List, ℕ, zero, suc, ◌+◌, ◌^◌, ◌<◌, ◌≤◌, ◌≡◌, ℤ}
use Rattle.std.proofs.Common.{sym, arith, pow_pos}
use Rattle.std.proofs.Math.Path.{subst}
use Rattle.std.proofs.Math.Decide.{dec_lt}
use Rattle.lines.specs.Lines.{Liftable, low_after, high_before, high_after}
use Rattle.lines.specs.LineLaws.{some_highs_lem}
use Rattle.lines.specs.Neighbours.{low_after_in, high_before_in, high_after_in}
use Rattle.exact.specs.Fractions.{Frac, ◌≈◌, ◌⊕◌, ◌⊗◌, neg, zero_f, Within}
use Rattle.exact.specs.Exact.{lift}
use Rattle.exact.specs.FracLaws.{≈-refl, ≈-sym, ≈-trans, ⊕-cong, ⊗-cong, ⊕-zero-r, neg_cong, through, times_sub, sub_sum, within_≈, within_zero, within_near}
use Rattle.stages.specs.Stages.{Side, low, high, Kind, lifts, scales, Stage, stage, made, worked, replaced, Product, bits}
use Rattle.stages.specs.OnLine.{other, before_in, after_in, count, exact_after, fixed_made, fixed_after}
use Rattle.stages.specs.Rule.{Bound, Entering, range_at, own_error_of, error_at, side_bound}
use Rattle.stages.specs.Fixed.{fixed_value}
use Rattle.stages.specs.Gains.{samples, exact_gain}
use Rattle.stages.specs.Linear.{Weighs}
use Rattle.stages.proofs.ValueLaws.{enters}
use Rattle.stages.proofs.SymmetricExtension.{Stages, line_within, line_weighs}
use Rattle.stages.proofs.Own.{lift_own, scale_own}
use Rattle.stages.proofs.RuleLaws.{own_at, nothing_brings, error_sum}

abbrev pub Q : ℕ
Q = 2 ^ 32

abbrev pub off : ℤ → ℕ → Frac → Frac
off v f x = fixed_value v f ⊕ neg x

pub record Good (b : Bound) (f : ℕ) (v : ℤ) (x : Frac) : Type 0 where
  pub range : Within x b.range Q
  pub error : Within (off v f x) b.error Q

pub good_≈ : {b : Bound} {f : ℕ} {v w : ℤ} {x y : Frac} → v ≡ w → x ≈ y → Good b f w y → Good b f v x
good_≈ {b} {f} {v} {w} {x} {y} e h g =
    subst (λ (u : ℤ). Good b f u x) (sym e) (record { range = within_≈ (≈-sym h) g.range; error = within_≈ (⊕-cong (≈-refl _) (neg_cong (≈-sym h))) g.error })

-- ---- the difference of two liftings

lift_sub : (c O X Y o x y : Frac) → lift c (O ⊕ neg o) (X ⊕ neg x) (Y ⊕ neg y) ≈ lift c O X Y ⊕ neg (lift c o x y)
unfolding lift
lift_sub c O X Y o x y =
    ≈-trans (⊕-cong (≈-refl (O ⊕ neg o)) (≈-trans (⊗-cong (≈-refl c) (sub_sum X x Y y)) (times_sub c (X ⊕ Y) (x ⊕ y))))
    (sub_sum O o (c ⊗ (X ⊕ Y)) (c ⊗ (x ⊕ y)))

-- v - lift o x y is lift (O - o) (X - x) (Y - y) and what v has of its own
lift_dev : (c v O X Y o x y : Frac) → v ⊕ neg (lift c o x y) ≈ lift c (O ⊕ neg o) (X ⊕ neg x) (Y ⊕ neg y) ⊕ (v ⊕ neg (lift c O X Y))
lift_dev c v O X Y o x y = ≈-trans (≈-sym (through (lift c O X Y) (lift c o x y) v)) (⊕-cong (≈-sym (lift_sub c O X Y o x y)) (≈-refl _))

scale_dev : (c v X x : Frac) → v ⊕ neg (c ⊗ x) ≈ c ⊗ (X ⊕ neg x) ⊕ (v ⊕ neg (c ⊗ X))
scale_dev c v X x = ≈-trans (≈-sym (through (c ⊗ X) (c ⊗ x) v)) (⊕-cong (≈-sym (times_sub c X x)) (≈-refl _))

-- the same for any stage
made_dev : (t : Kind) (c v O X Y o x y : Frac) → v ⊕ neg (made t c o x y) ≈ made t c (O ⊕ neg o) (X ⊕ neg x) (Y ⊕ neg y) ⊕ (v ⊕ neg (made t c O X Y))
unfolding made
made_dev lifts c v O X Y o x y = lift_dev c v O X Y o x y
made_dev scales c v O X Y o x y = scale_dev c v O o

-- ---- a line of n

module _ (st : List Stage) (e : Entering) (F : ℕ → ℕ) (fp : ℕ → Product) (fi : Side → ℕ) (f : ℕ → ℕ) where
  module _ (n : ℕ) (v : Side → ℕ → ℤ) (x : Side → ℕ → Frac) where
    abbrev exactly : ℕ → Side → ℕ → Frac
    exactly = exact_after st n x

    abbrev fixed : ℕ → Side → ℕ → ℤ
    fixed = fixed_after st F fp fi f n v

    -- the exact stages add nothing
    exact_stages : Stages st n (λ i k. zero_f) exactly
    unfolding exact_after
    exact_stages m s k i = go (stage st m).side s
      where
        go : (t s : Side) → worked before_in (after_in n) t (λ k. made (stage st m).kind (stage st m).constant) (exactly m) s k ≈ worked before_in (after_in n) t (λ k own x z. made (stage st m).kind (stage st m).constant own x z ⊕ zero_f) (exactly m) s k
        go low low = ≈-sym (⊕-zero-r _)
        go low high = ≈-refl _
        go high low = ≈-refl _
        go high high = ≈-sym (⊕-zero-r _)

    -- Exact values by the exact gain: inputs of at most b give at most b times the exact gain from the input.
    pub exact_weighs : Liftable n → (b : ℕ) → ((t : Side) (k : ℕ) → k < count n t → Within (x t k) b Q) → (m : ℕ) (s : Side) (k : ℕ) → k < count n s → Weighs (exact_gain st s m samples) b Q (exact_after st n x m s k)
    unfolding exact_after
    exact_weighs works b h = line_weighs st n exactly exact_stages works b Q (pow_pos 32) h

    -- what the fixed-point line means
    abbrev means : ℕ → Side → ℕ → Frac
    means m s k = fixed_value (fixed m s k) (bits st fi f m s)

    -- the own error of stage m, on side t
    abbrev own_on : ℕ → Side → ℕ → Frac
    own_on m t k =
        fixed_value (fixed_made (stage st m).kind (fp m) (stage st m).constant (F m) (bits st fi f m (other t)) (bits st fi f m t) (f m) (fixed m t k) (fixed m (other t) (before_in t k)) (fixed m (other t) (after_in n t k))) (f m)
        ⊕ neg (made (stage st m).kind (stage st m).constant (means m t k) (means m (other t) (before_in t k)) (means m (other t) (after_in n t k)))

    -- errors go through the stages as values do
    error_stages : Stages st n (λ m. own_on m (stage st m).side) (λ m s k. off (fixed m s k) (bits st fi f m s) (exactly m s k))
    unfolding exact_after fixed_after bits
    error_stages m s k i = go (stage st m).side s
      where
        go : (t s : Side) → off (worked before_in (after_in n) t (λ k. fixed_made (stage st m).kind (fp m) (stage st m).constant (F m) (bits st fi f m (other t)) (bits st fi f m t) (f m)) (fixed m) s k) (replaced t (f m) (bits st fi f m) s) (worked before_in (after_in n) t (λ k. made (stage st m).kind (stage st m).constant) (exactly m) s k)
            ≈ worked before_in (after_in n) t (λ k own x z. made (stage st m).kind (stage st m).constant own x z ⊕ own_on m t k) (λ s k. off (fixed m s k) (bits st fi f m s) (exactly m s k)) s k
        go low low = made_dev (stage st m).kind (stage st m).constant _ _ _ _ _ _ _
        go low high = ≈-refl _
        go high low = ≈-refl _
        go high high = made_dev (stage st m).kind (stage st m).constant _ _ _ _ _ _ _

    module _ (works : Liftable n) (small : (m : ℕ) → f m ≤ 32) (given : (s : Side) (k : ℕ) → k < count n s → Good (enters e s) (fi s) (v s k) (x s k)) where
      ranges : (m : ℕ) (s : Side) (k : ℕ) → k < count n s → Within (exactly m s k) (range_at st e F fp fi f s m) Q
      unfolding range_at exact_after
      ranges m s k i =
          subst (λ (t : ℕ). Within (exactly m s k) t Q) (omega (arith, nothing_brings st s m m))
          (line_within st n (λ i k. zero_f) exactly exact_stages works Q (pow_pos 32) (λ b. b.range) e (λ i. 0) (λ t k i. (given t k i).range) m (λ i k l h. within_zero 0 Q) s k i)

      abbrev Owns : ℕ → Type 0
      Owns m = (i k : ℕ) → i < m → k < count n (stage st i).side → Within (own_on i (stage st i).side k) (own_at st e F fp fi f i) Q

      errors : (m : ℕ) → Owns m → (s : Side) (k : ℕ) → k < count n s → Within (off (fixed m s k) (bits st fi f m s) (exactly m s k)) (error_at st e F fp fi f s m) Q
      unfolding error_at exact_after fixed_after bits
      errors m own s k i =
          subst (λ (t : ℕ). Within (off (fixed m s k) (bits st fi f m s) (exactly m s k)) t Q) (sym (error_sum st e F fp fi f s m))
          (line_within st n (λ m. own_on m (stage st m).side) (λ m s k. off (fixed m s k) (bits st fi f m s) (exactly m s k)) error_stages works Q (pow_pos 32) (λ b. b.error) e (own_at st e F fp fi f) (λ t k i. (given t k i).error) m own s k i)

      -- what the fixed-point line means is at most range plus error
      sizes : (m : ℕ) → Owns m → (s : Side) (k : ℕ) → k < count n s → Within (means m s k) (range_at st e F fp fi f s m + error_at st e F fp fi f s m) Q
      sizes m own s k i = within_near (ranges m s k i) (errors m own s k i)

      own_next : (m : ℕ) → Owns m → (k : ℕ) → k < count n (stage st m).side → Within (own_on m (stage st m).side k) (own_at st e F fp fi f m) Q
      unfolding own_at own_error_of fixed_made made
      own_next m own k = go (stage st m).kind (stage st m).side
        where
          size : (s : Side) (k : ℕ) → k < count n s → Within (means m s k) (range_at st e F fp fi f s m + error_at st e F fp fi f s m) Q
          size = sizes m own

          go : (d : Kind) (t : Side) → k < count n t
              → Within (fixed_value (fixed_made d (fp m) (stage st m).constant (F m) (bits st fi f m (other t)) (bits st fi f m t) (f m) (fixed m t k) (fixed m (other t) (before_in t k)) (fixed m (other t) (after_in n t k))) (f m)
              ⊕ neg (made d (stage st m).constant (means m t k) (means m (other t) (before_in t k)) (means m (other t) (after_in n t k))))
              (own_error_of st e F fp fi f d t m (λ s. range_at st e F fp fi f s m + error_at st e F fp fi f s m)) Q
          go lifts low i = lift_own (fp m) (stage st m).constant (F m) _ _ (f m) _ _ _ _ (small m) (size high (high_before k) (high_before_in n k (some_highs_lem n works) i)) (size high (high_after n k) (high_after_in n k (some_highs_lem n works) i))
          go lifts high i = lift_own (fp m) (stage st m).constant (F m) _ _ (f m) _ _ _ _ (small m) (size low k (omega arith)) (size low (low_after n k) (low_after_in n k i))
          go scales low i = scale_own (stage st m).constant (F m) _ (f m) _ _ (small m) (size low k i)
          go scales high i = scale_own (stage st m).constant (F m) _ (f m) _ _ (small m) (size high k i)

      owns : (m : ℕ) → Owns m
      owns zero i k l h = absurd (omega arith)
      owns (suc m) i k l h = go (dec_lt i m) (owns m)
        where
          go : Dec (i < m) → Owns m → Within (own_on i (stage st i).side k) (own_at st e F fp fi f i) Q
          go (yes less) before = before i k less h
          go (no not) before =
              let same : m ≡ i = omega arith in
              subst (λ (j : ℕ). (k : ℕ) → k < count n (stage st j).side → Within (own_on j (stage st j).side k) (own_at st e F fp fi f j) Q) same (own_next m before) k h

      -- Each side after any number of stages is good.
      pub good : (m : ℕ) (s : Side) (k : ℕ) → k < count n s → Good (side_bound st e F fp fi f s m) (bits st fi f m s) (fixed_after st F fp fi f n v m s k) (exact_after st n x m s k)
      unfolding side_bound
      good m s k i = record { range = ranges m s k i; error = errors m (owns m) s k i }

-- The sum in a gain is the sum over the endless line: beyond place m every answer is zero (`no_answer_input`, `no_answer_node`), so that a
-- longer sum is the same fraction (`endless`) and gives the same gain (`endless_gain`). Place 0 of the node stands for every place (`anywhere`).
use Rattle.std.specs.Prelude.{List, ◌≡◌, ℤ, pos, negsuc, nat_abs, ◌+ℤ◌}
use Prim.Native.Nat.{ℕ, zero, suc, ◌*◌, ◌<◌, ◌≤◌}
use Rattle.std.proofs.Math.Path.{refl, ap}
use Rattle.std.proofs.Common.{sym, ◌∙◌, subst, arith, le_antisymm}
use Rattle.std.proofs.Math.Decide.{dec_lt}
use Rattle.std.proofs.Math.IntN.{suc_ℤ-+ℤ, pred_ℤ-+ℤ, +ℤ_idl, suc_ℤ, pred_ℤ}
use Rattle.numbers.specs.Abs.{abs_mul}
use Rattle.exact.specs.Fractions.{Frac, ◌≈◌, ◌⊕◌, whole, magnitude, rounded_up, zero_f}
use Rattle.numbers.specs.Ceiling.{up_same}
use Rattle.exact.specs.FracLaws.{≈-refl, ≈-trans, ⊕-cong, ⊕-zero-r}
use Rattle.stages.specs.Stages.{Side, low, high, Stage, stage, made, worked}
use Rattle.stages.specs.Gains.{Line, before, after, values_after, sum_to, Source, samples, lows, highs, node, input_answer, node_answer, sum_from, exact_gain, gain}
use Rattle.stages.specs.Linear.{linear_none}
use Rattle.stages.proofs.ValueLaws.{input_linear, node_linear}

-- ---- a sum of magnitudes, and zeros

pub magnitude_zero : {x : Frac} → x ≈ zero_f → magnitude x ≈ zero_f
unfolding magnitude whole
magnitude_zero {x} h = record { eq = ap pos (sym (abs_mul x.num (pos 1)) ∙ ap nat_abs h.eq ∙ abs_mul (pos 0) (pos x.den)) }

sum_next : (m : ℕ) (f : ℤ → Frac) → sum_to (suc m) f ≈ sum_to m f ⊕ magnitude (f (pos (suc m))) ⊕ magnitude (f (negsuc m))
unfolding sum_to
sum_next m f = ≈-refl _

-- However far a sum goes beyond place r, it is the sum to place r.
longer : (r : ℕ) (f : ℤ → Frac) → ((p : ℤ) → r < nat_abs p → f p ≈ zero_f) → (m : ℕ) → r ≤ m → sum_to m f ≈ sum_to r f
longer r f none zero big = subst (λ (k : ℕ). sum_to zero f ≈ sum_to k f) (omega arith) (≈-refl _)
longer r f none (suc m) big = go (dec_lt r (suc m)) (longer r f none m)
  where
    far_on : r ≤ m → sum_to m f ≈ sum_to r f → sum_to (suc m) f ≈ sum_to r f
    far_on far before =
        ≈-trans (sum_next m f) (≈-trans (⊕-cong (⊕-cong before (magnitude_zero (none (pos (suc m)) (omega arith)))) (magnitude_zero (none (negsuc m) (omega arith))))
        (≈-trans (⊕-zero-r _) (⊕-zero-r _)))

    go : Dec (r < suc m) → (r ≤ m → sum_to m f ≈ sum_to r f) → sum_to (suc m) f ≈ sum_to r f
    go (yes far) before = far_on (omega arith) (before (omega arith))
    go (no near) before = subst (λ (k : ℕ). sum_to k f ≈ sum_to r f) (omega arith) (≈-refl _)

pub wholes_≈ : (m : ℕ) {x y : Frac} → x ≈ y → rounded_up m x ≡ rounded_up m y
unfolding rounded_up
wholes_≈ m {x} {y} h = le_antisymm (up_same _ _ _ _ x.above y.above (law (nat_abs x.num) (nat_abs y.num) x.den y.den abs)) (up_same _ _ _ _ y.above x.above (law (nat_abs y.num) (nat_abs x.num) y.den x.den (sym abs)))
  where
    abs : nat_abs x.num * y.den ≡ nat_abs y.num * x.den
    abs = sym (abs_mul x.num (pos y.den)) ∙ ap nat_abs h.eq ∙ abs_mul y.num (pos x.den)

    law : (a b d e : ℕ) → a * e ≡ b * d → a * m * e ≡ b * m * d
    law a b d e k = omega (arith, ap (λ (t : ℕ). t * m) k)

module _ (st : List Stage) (s : Side) (m : ℕ) where
  pub no_answer_input : (t : Side) (p : ℤ) → m < nat_abs p → input_answer st s m t p ≈ zero_f
  unfolding input_answer
  no_answer_input t p far = linear_none m (input_linear st s m t) p far

  pub no_answer_node : (i : ℕ) (p : ℤ) → m < nat_abs p → node_answer st s m i p ≈ zero_f
  unfolding node_answer
  no_answer_node i p far = linear_none m (node_linear st s m i) p far

  -- However far the sum goes, it is the exact gain, and gives the gain.
  pub endless : (i : Source) (r : ℕ) → m ≤ r → sum_from st s m r i ≈ exact_gain st s m i
  unfolding exact_gain sum_from
  endless samples r big = ⊕-cong (longer m (input_answer st s m low) (no_answer_input low) r big) (longer m (input_answer st s m high) (no_answer_input high) r big)
  endless lows r big = longer m (input_answer st s m low) (no_answer_input low) r big
  endless highs r big = longer m (input_answer st s m high) (no_answer_input high) r big
  endless (node i) r big = longer m (node_answer st s m i) (no_answer_node i) r big

  pub endless_gain : (i : Source) (r : ℕ) → m ≤ r → rounded_up 65536 (sum_from st s m r i) ≡ gain st s m i
  unfolding gain
  endless_gain i r big = wholes_≈ 65536 (endless i r big)

-- ---- what holds at place 0 holds at each place: the line can be moved

module _ (st : List Stage) (x : Side → Line) (a : ℕ → Line) (k : ℤ) where
  moves : (m : ℕ) (s : Side) (j : ℤ) → values_after st (λ t p. x t (p +ℤ k)) (λ i p. a i (p +ℤ k)) m s j ≡ values_after st x a m s (j +ℤ k)
  unfolding values_after
  moves zero s j = refl
  moves (suc m) s j = go (moves m) (stage st m).side s
    where
      three : {A : Type 0} (f : Frac → Frac → Frac → A) {o o' y y' z z' : Frac} → o ≡ o' → y ≡ y' → z ≡ z' → f o y z ≡ f o' y' z'
      three f {o} {o'} {y} {y'} {z} {z'} p q r = ap (λ (t : Frac). f t y z) p ∙ ap (λ (t : Frac). f o' t z) q ∙ ap (f o' y') r

      go : ((s : Side) (j : ℤ) → values_after st (λ t p. x t (p +ℤ k)) (λ i p. a i (p +ℤ k)) m s j ≡ values_after st x a m s (j +ℤ k)) → (t s : Side)
          → worked before after t (λ j own y z. made (stage st m).kind (stage st m).constant own y z ⊕ a m (j +ℤ k)) (values_after st (λ t p. x t (p +ℤ k)) (λ i p. a i (p +ℤ k)) m) s j
          ≡ worked before after t (λ j own y z. made (stage st m).kind (stage st m).constant own y z ⊕ a m j) (values_after st x a m) s (j +ℤ k)
      go at low low = three (λ o y z. made (stage st m).kind (stage st m).constant o y z ⊕ a m (j +ℤ k)) (at low j) (at high (pred_ℤ j) ∙ ap (values_after st x a m high) (pred_ℤ-+ℤ j k)) (at high j)
      go at low high = at high j
      go at high low = at low j
      go at high high = three (λ o y z. made (stage st m).kind (stage st m).constant o y z ⊕ a m (j +ℤ k)) (at high j) (at low j) (at low (suc_ℤ j) ∙ ap (values_after st x a m low) (suc_ℤ-+ℤ j k))

  -- What stands at place k is what stands at place 0 where all that is put in lies k places earlier.
  pub anywhere : (m : ℕ) (s : Side) → values_after st x a m s k ≡ values_after st (λ t p. x t (p +ℤ k)) (λ i p. a i (p +ℤ k)) m s (pos 0)
  anywhere m s = sym (moves m s (pos 0) ∙ ap (values_after st x a m s) (+ℤ_idl k))

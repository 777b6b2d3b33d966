-- Where the values of a pass are below 2^10 in magnitude (`BelowPower10`), every number on the way fits its machine type (`kernel_safe`).
use Prim.Native.Nat.{ℕ, ◌+◌, ◌*◌, ◌-◌, ◌^◌, ◌<◌, ◌≤◌, max}
use Rattle.std.proofs.Math.Bool.{Bool, true, false}
use Rattle.std.specs.Prelude.{◌≡◌, ◌+ℤ◌, ◌-ℤ◌, ◌*ℤ◌}
use Rattle.std.proofs.Common.{sym, ◌∙◌, arith, le_refl, le_trans, le_of_lt, lt_of_le_of_lt, lt_of_lt_of_le, pow_pos}
use Rattle.std.proofs.Math.Path.{ap, subst}
use Rattle.std.proofs.Math.Nat.{pow-le-pow_right}
use Rattle.std.proofs.Math.Pow.{pow-add}
use Rattle.std.proofs.Math.IntN.{ℤ, pos, nat_abs, +ℤ_idr}
use mir.Syntax.{w32, w64}
use mir.Val.{SFits}
use Rattle.numbers.specs.Dif.{by_dif, difs}
use Rattle.numbers.specs.Abs.{abs_add, abs_add_≤, abs_mul_≤, mag_of_abs}
use Rattle.numbers.specs.Laws.{*ℤ-one-r}
use Rattle.numbers.specs.Floor.{floor_div}
use Rattle.lines.specs.Lines.{Liftable, on_highs, on_lows}
use Rattle.lines.specs.LineLaws.{some_highs_lem}
use Rattle.lines.specs.Neighbours.{low_after_in, high_before_in, high_after_in}
use Rattle.width_table.specs.Nodes.{Node, P1, U1, P2, U2, G1, G2}
use Rattle.lifting.specs.declared.Step.{Step}
use Rattle.lifting.specs.Steps.{applied, Safe, SumSafe, FactorSafe}
use Rattle.slices.specs.Runs.{as_type}
use Rattle.lifting.specs.Passes.{evens}
use Rattle.lifting.specs.Kernels.{SafeKernel}
use Rattle.stages.specs.Stages.{Product, uncut, cut_to}
use Rattle.stages.specs.Fixed.{nearest, cut, step, scale}
use Rattle.fixed_stages.specs.Fixed.{value_at, count_at, at_p1, at_u1, at_p2, at_u2, at_g1, at_g2}
use Rattle.fixed_stages.specs.Constants.{constant_of, ConstantBits}
use Rattle.fixed_stages.specs.Safe.{Limits, BelowPower10}
use Rattle.fixed_stages.specs.Sizes.{floor_size, product_size}
use Rattle.fixed_stages.specs.Steps.{step_top, once_of, cut_of, step_of, factor_of, single_of, stage_of, scaling_of}
use Rattle.fixed_stages.specs.StepLaws.{by_together, step_applied, scale_applied, single_applied}
use Rattle.fixed_stages.specs.Kernels.{kernel_from, s_u1, s_p2, s_u2, s_g1, s_g2}
use Rattle.fixed_stages.specs.KernelLaws.{first_highs_lem, first_lows_lem, second_highs_lem, second_lows_lem}
use Rattle.width_table.specs.Table.{max_fraction_bits}

-- a larger power
pow_up : (i j : ℕ) → i ≤ j → 2 ^ i ≤ 2 ^ j
pow_up i j h = pow-le-pow_right (omega arith) h

-- ---- sizes

-- below 2^10 at f fractional bits: with less room, and as what 32 bits hold
sized_most : (f : ℕ) (v : ℤ) → BelowPower10 f v → nat_abs v ≤ 2 ^ (11 + f)
sized_most f v h = le_trans (le_of_lt h) (pow_up (10 + f) (11 + f) (omega arith))

sized_fits : (f : ℕ) (v : ℤ) → f ≤ max_fraction_bits → BelowPower10 f v → SFits w32 v
sized_fits f v few h = record { sfits = mag_of_abs v (lt_of_lt_of_le h (pow_up (10 + f) 31 (omega arith))) }

-- at most 2^62
pub fits_64 : (s : ℕ) (z : ℤ) → s ≤ 62 → nat_abs z ≤ 2 ^ s → SFits w64 z
fits_64 s z few h = record { sfits = mag_of_abs z (lt_of_le_of_lt h (lt_of_le_of_lt (pow_up s 62 few) (omega arith))) }

-- at most 2^30
fits_32 : (z : ℤ) → nat_abs z ≤ 2 ^ 30 → SFits w32 z
fits_32 z h = record { sfits = mag_of_abs z (lt_of_le_of_lt h (omega arith)) }

-- a product of two sizes
times_size : (i j s : ℕ) (x y : ℤ) → nat_abs x ≤ 2 ^ i → nat_abs y ≤ 2 ^ j → i + j ≤ s → nat_abs (x *ℤ y) ≤ 2 ^ s
times_size i j s x y h k l = le_trans (abs_mul_≤ x y h k) (subst (λ (t : ℕ). t ≤ 2 ^ s) (pow-add 2 i j) (pow_up (i + j) s l))

-- the power last
swap : (k P s : ℤ) → k *ℤ s *ℤ P ≡ k *ℤ P *ℤ s
swap = by_dif _ λ a b. by_dif _ λ c d. by_dif _ λ e f. simp difs (omega arith)

-- the negative of a number is as large
negated_size : (b : ℕ) (z : ℤ) → nat_abs z ≤ b → nat_abs (pos 0 -ℤ z) ≤ b
negated_size b = by_dif _ λ a a'. simp difs (omega arith)

-- ---- one stage

-- a constant is small
constant_small : (n : Node) (F : ℕ) → ConstantBits F → nat_abs (nearest (constant_of n) F) ≤ 2 ^ (13 + F)
constant_small n F ok =
    subst (λ (z : ℤ). nat_abs z ≤ 2 ^ (13 + F)) (*ℤ-one-r (nearest (constant_of n) F)) (le_trans (product_size n F 0 ok.0 ok.1 (omega arith) (pos 1) (pos 0) (omega arith) (omega arith)) (pow_up (13 + F + 0) (13 + F) (omega arith)))

-- at the bits of a stage, too
constant_size : (n : Node) (F fm top : ℕ) → ConstantBits F → F + fm ≤ top → top ≤ 44 → nat_abs (nearest (constant_of n) F *ℤ pos (2 ^ (top - (F + fm)))) ≤ 2 ^ 57
constant_size n F fm top ok a b = times_size (13 + F) (top - (F + fm)) 57 (nearest (constant_of n) F) (pos (2 ^ (top - (F + fm)))) (constant_small n F ok) (le_refl _) (omega (arith, ok.1))

pub constant_scaled_up : (n : Node) (F fm top : ℕ) → ConstantBits F → F + fm ≤ top → top ≤ 44 → SFits w64 (nearest (constant_of n) F *ℤ pos (2 ^ (top - (F + fm))))
constant_scaled_up n F fm top ok a b = fits_64 57 _ (omega arith) (constant_size n F fm top ok a b)

module _ (n : Node) (F fm : ℕ) (const : ConstantBits F) (small : fm ≤ max_fraction_bits) where
  -- a constant times a sum, at top bits
  sum_size : (top : ℕ) → F + fm ≤ top → top ≤ 44 → (x y : ℤ) → nat_abs x ≤ 2 ^ (11 + fm) → nat_abs y ≤ 2 ^ (11 + fm) → nat_abs (nearest (constant_of n) F *ℤ pos (2 ^ (top - (F + fm))) *ℤ (x +ℤ y)) ≤ 2 ^ 57
  sum_size top above most x y hx hy =
      subst (λ (z : ℤ). nat_abs z ≤ 2 ^ 57) (swap (nearest (constant_of n) F) (pos (2 ^ (top - (F + fm)))) (x +ℤ y))
      (times_size (13 + F + fm) (top - (F + fm)) 57 (nearest (constant_of n) F *ℤ (x +ℤ y)) (pos (2 ^ (top - (F + fm)))) (product_size n F fm const.0 const.1 small x y hx hy) (le_refl _) (omega arith))

  -- the neighbours' sum and its negative fit an i32
  sides_safe : (x y : ℤ) → BelowPower10 fm x → BelowPower10 fm y → SumSafe x y
  sides_safe x y hx hy = record {
    sum = record { sfits = mag_of_abs (x +ℤ y) small_sum };
    negated = record { sfits = mag_of_abs (pos 0 -ℤ (x +ℤ y)) (lt_of_le_of_lt (negated_size _ (x +ℤ y) (le_refl _)) small_sum) };
  }
    where
      small_sum : nat_abs (x +ℤ y) < 2 ^ 31
      small_sum = lt_of_le_of_lt (abs_add x y) (omega (arith, hx, hy, pow_up (10 + fm) 30 (omega arith)))

  module _ (f : ℕ) (less : f ≤ max_fraction_bits) where
    module _ (fo : ℕ) (low : fo ≤ max_fraction_bits) (own x y : ℤ) (ho : BelowPower10 fo own) (hx : BelowPower10 fm x) (hy : BelowPower10 fm y) where
      -- a step with one cut whose operands and result are sized
      once_safe : SFits w32 (applied (once_of (nearest (constant_of n) F) F fm fo f) own x y) → Safe (once_of (nearest (constant_of n) F) F fm fo f) own x y
      unfolding once_of
      once_safe fits =
          let top : ℕ = step_top F fm fo f in
          let A : ℤ = pos (2 ^ (top - fo)) *ℤ own in
          let B : ℤ = nearest (constant_of n) F *ℤ pos (2 ^ (top - (F + fm))) *ℤ (x +ℤ y) in
          let a : nat_abs A ≤ 2 ^ 55 = times_size (top - fo) (11 + fo) 55 (pos (2 ^ (top - fo))) own (le_refl _) (sized_most fo own ho) (omega arith) in
          let b : nat_abs B ≤ 2 ^ 57 = sum_size top (omega arith) (omega arith) x y (sized_most fm x hx) (sized_most fm y hy) in
          record {
            few = omega arith;
            short = omega arith;
            sides = sides_safe x y hx hy;
            left = fits_64 55 A (omega arith) a;
            right = fits_64 57 B (omega arith) b;
            both = fits_64 58 (A +ℤ B) (omega arith) (le_trans (abs_add_≤ A B a b) (omega arith));
            doubled = fits_64 58 _ (omega arith) (times_size 1 57 58 (pos 2) (nearest (constant_of n) F *ℤ pos (2 ^ (top - (F + fm)))) (omega arith) (constant_size n F fm top const (omega arith) (omega arith)) (omega arith));
            scaled_up = λ r e. scaled_up_fits r (omega arith);
            result = fits;
          }
        where
          -- the own value at the node's bits
          scaled_up_fits : (r : ℕ) → fo + r ≡ f → SFits w32 (own *ℤ pos (2 ^ r))
          scaled_up_fits r e = fits_32 (own *ℤ pos (2 ^ r)) (times_size (10 + fo) r 30 own (pos (2 ^ r)) (le_of_lt ho) (le_refl _) (omega arith))

      -- one whose product is cut first: it leaves at most 2^13
      cut_safe : (fp : ℕ) → fp < F + fm → fp < max fo f → SFits w32 (applied (cut_of fp (nearest (constant_of n) F) F fm fo f) own x y) → Safe (cut_of fp (nearest (constant_of n) F) F fm fo f) own x y
      unfolding cut_of
      cut_safe fp few more fits =
          let top : ℕ = max fo f in
          let W : ℤ = nearest (constant_of n) F *ℤ (x +ℤ y) in
          let A : ℤ = pos (2 ^ (top - fo)) *ℤ own in
          let B : ℤ = pos (2 ^ (top - fp)) *ℤ floor_div W (2 ^ (F + fm - fp)) in
          let w : nat_abs W ≤ 2 ^ (13 + F + fm) = product_size n F fm const.0 const.1 small x y (sized_most fm x hx) (sized_most fm y hy) in
          let s : 2 ^ (13 + F + fm) ≡ 2 ^ (13 + fp) * 2 ^ (F + fm - fp) = ap (λ (k : ℕ). 2 ^ k) (omega arith) ∙ pow-add 2 (13 + fp) (F + fm - fp) in
          let k : nat_abs (floor_div W (2 ^ (F + fm - fp))) ≤ 2 ^ (13 + fp) = floor_size W (2 ^ (13 + fp)) (2 ^ (F + fm - fp)) (pow_pos (F + fm - fp)) (subst (λ (t : ℕ). nat_abs W ≤ t) s w) in
          let a : nat_abs A ≤ 2 ^ 31 = times_size (top - fo) (11 + fo) 31 (pos (2 ^ (top - fo))) own (le_refl _) (sized_most fo own ho) (omega arith) in
          let b : nat_abs B ≤ 2 ^ 33 = times_size (top - fp) (13 + fp) 33 (pos (2 ^ (top - fp))) (floor_div W (2 ^ (F + fm - fp))) (le_refl _) k (omega arith) in
          record {
            few = omega arith;
            rises = omega arith;
            early = omega (arith, const.1);
            short = omega arith;
            sides = sides_safe x y hx hy;
            whole = fits_64 (13 + F + fm) W (omega (arith, const.1)) w;
            doubled = fits_64 (14 + F) _ (omega (arith, const.1)) (times_size 1 (13 + F) (14 + F) (pos 2) (nearest (constant_of n) F) (omega arith) (constant_small n F const) (omega arith));
            left = fits_64 31 A (omega arith) a;
            right = fits_64 33 B (omega arith) b;
            both = fits_64 34 (A +ℤ B) (omega arith) (le_trans (abs_add_≤ A B a b) (omega arith));
            result = fits;
          }

      -- a stage, whatever the width of its product
      pub step_safe : (p : Product) → BelowPower10 f (step p (constant_of n) F fm fo f own x y) → Safe (stage_of p (constant_of n) F fm fo f) own x y
      unfolding step_of
      step_safe p h = by_product p (subst (λ (z : ℤ). SFits w32 z) (sym (step_applied p (constant_of n) F fm fo f own x y)) (sized_fits f _ less h))
        where
          by_product : (p : Product) → SFits w32 (applied (stage_of p (constant_of n) F fm fo f) own x y) → Safe (stage_of p (constant_of n) F fm fo f) own x y
          by_product uncut = once_safe
          by_product (cut_to fp) =
              let k : ℤ = nearest (constant_of n) F in
              let s : Bool → Step = λ q. elim q [ true ↦ once_of k F fm fo f | false ↦ cut_of fp k F fm fo f ] in
              by_together (λ q. SFits w32 (applied (s q) own x y) → Safe (s q) own x y) fp (F + fm) fo f (λ i. once_safe) (λ i j l. once_safe) (λ i j. cut_safe fp i j)

    -- a scaling likewise
    pub scale_safe : (x : ℤ) → BelowPower10 fm x → BelowPower10 f (scale (constant_of n) F fm f x) → FactorSafe (scaling_of (constant_of n) F fm f) x
    unfolding factor_of
    scale_safe x hx h =
        let top : ℕ = max (F + fm) f in
        record {
          short = omega arith;
          product = fits_64 57 _ (omega arith) (subst (λ (z : ℤ). nat_abs (nearest (constant_of n) F *ℤ pos (2 ^ (top - (F + fm))) *ℤ z) ≤ 2 ^ 57) (+ℤ_idr x) (sum_size top (omega arith) (omega arith) x (pos 0) (sized_most fm x hx) (omega arith)));
          result = subst (λ (z : ℤ). SFits w32 z) (sym (scale_applied (constant_of n) F fm f x)) (sized_fits f _ less h);
        }

-- a single sample likewise
pub single_safe : (fi f : ℕ) → fi ≤ max_fraction_bits → f ≤ max_fraction_bits → (x : ℤ) → BelowPower10 fi x → BelowPower10 f (cut fi f x) → FactorSafe (single_of fi f) x
unfolding single_of
single_safe fi f few less x hx h = record {
  short = omega arith;
  product = fits_64 31 _ (omega arith) (times_size (max fi f - fi) (11 + fi) 31 (pos (2 ^ (max fi f - fi))) x (le_refl _) (sized_most fi x hx) (omega arith));
  result = subst (λ (z : ℤ). SFits w32 z) (sym (single_applied fi f x)) (sized_fits f _ less h);
}

-- ---- a pass

module _ (F : Node → ℕ) (fp : Node → Product) (fi : ℕ) (f : Node → ℕ) (ok : Limits F fi f) (n : ℕ) (x : ℕ → ℤ) (works : Liftable n)
    (given : (k : ℕ) → k < n → BelowPower10 fi (x k))
    (inside : (i : Node) (k : ℕ) → k < count_at n i → BelowPower10 (f i) (value_at F fp fi f n x i k)) where
  -- the stages, with the limits of the pass
  lifts : (i : Node) (fm : ℕ) → fm ≤ max_fraction_bits → (fo : ℕ) → fo ≤ max_fraction_bits → (own a b : ℤ) → BelowPower10 fo own → BelowPower10 fm a → BelowPower10 fm b → BelowPower10 (f i) (step (fp i) (constant_of i) (F i) fm fo (f i) own a b) → Safe (stage_of (fp i) (constant_of i) (F i) fm fo (f i)) own a b
  lifts i fm p fo q own a b ho ha hb = step_safe i (F i) fm (ok.constants i) p (f i) (ok.fractions i) fo q own a b ho ha hb (fp i)

  scales : (i : Node) (fm : ℕ) → fm ≤ max_fraction_bits → (a : ℤ) → BelowPower10 fm a → BelowPower10 (f i) (scale (constant_of i) (F i) fm (f i) a) → FactorSafe (scaling_of (constant_of i) (F i) fm (f i)) a
  scales i fm p a = scale_safe i (F i) fm (ok.constants i) p (f i) (ok.fractions i) a

  -- every stage of the pass
  pub kernel_safe : SafeKernel (kernel_from F fp fi f) n x
  unfolding on_highs on_lows at_p1 at_u1 at_p2 at_u2 at_g1 at_g2
  kernel_safe =
      let p1 = first_highs_lem F fp fi f n x in
      let u1 = first_lows_lem F fp fi f n x in
      let p2 = second_highs_lem F fp fi f n x in
      let u2 = second_lows_lem F fp fi f n x in
      let low = ok.fractions in
      record {
        at_first = record {
          on_highs_lem = λ i h. lifts P1 fi ok.enters fi ok.enters _ _ _ (given _ (omega arith)) (given _ (omega arith)) (given _ (omega (arith, low_after_in n i h))) (inside P1 i h);
          on_lows_lem = λ i h. as_type (λ u. on_lows (Safe (s_u1 F fp fi f)) n (evens x) (sym p1 u) i)
              (lifts U1 (f P1) (low P1) fi ok.enters _ _ _ (given _ (omega arith)) (inside P1 _ (high_before_in n i (some_highs_lem n works) h)) (inside P1 _ (high_after_in n i (some_highs_lem n works) h)) (inside U1 i h));
        };
        at_second = record {
          on_highs_lem = λ i h. as_type (λ u. on_highs (Safe (s_p2 F fp fi f)) n (sym u1 u) (sym p1 u) i)
              (lifts P2 (f U1) (low U1) (f P1) (low P1) _ _ _ (inside P1 _ h) (inside U1 _ (omega arith)) (inside U1 _ (low_after_in n i h)) (inside P2 i h));
          on_lows_lem = λ i h. as_type (λ u. on_lows (Safe (s_u2 F fp fi f)) n (sym u1 u) (sym p2 u) i)
              (lifts U2 (f P2) (low P2) (f U1) (low U1) _ _ _ (inside U1 _ h) (inside P2 _ (high_before_in n i (some_highs_lem n works) h)) (inside P2 _ (high_after_in n i (some_highs_lem n works) h)) (inside U2 i h));
        };
        at_lows = λ i h. as_type (λ u. FactorSafe (s_g1 F fp fi f) (sym u2 u i)) (scales G1 (f U2) (low U2) _ (inside U2 i h) (inside G1 i h));
        at_highs = λ i h. as_type (λ u. FactorSafe (s_g2 F fp fi f) (sym p2 u i)) (scales G2 (f P2) (low P2) _ (inside P2 i h) (inside G2 i h));
      }

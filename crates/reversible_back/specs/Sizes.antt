-- How large the values of the inverse 5/3 pass become, and that the machine's steps therefore fit: it makes the size of a line's values at
-- most three times as large.
use Rattle.std.specs.Prelude.{ℕ, ◌+◌, ◌*◌, ◌<◌, ◌≤◌, ◌^◌, ◌≡◌, refl, ℤ, ◌+ℤ◌}
use Rattle.std.proofs.Common.{sym, arith}
use Rattle.std.proofs.Math.Path.{subst}
use Rattle.std.proofs.Math.IntN.{nat_abs}
use Rattle.numbers.specs.Abs.{abs_add, abs_sub}
use Rattle.lines.specs.Lines.{lows, highs, Liftable, low_after, high_before, high_after, on_highs, on_lows}
use Rattle.lines.specs.LineLaws.{some_highs_lem, even_place_lem, odd_place, by_parity}
use Rattle.lines.specs.Neighbours.{low_after_in, high_before_in, high_after_in}
use Rattle.lifting.specs.declared.Step.TheVariants.{InversePredict, InverseUpdate}
use Rattle.lifting.specs.declared.Pair.{Pair}
use Rattle.lifting.specs.declared.Kernel.{Kernel}
use Rattle.lifting.specs.declared.Kernel.TheVariants.{Inverse}
use Rattle.lifting.specs.Steps.{applied, Safe, half, quarter}
use Rattle.lifting.specs.Kernels.{worked, SafeKernel, lows_inverted, highs_inverted}
use Rattle.reversible.specs.Sizes.{worked_from, halved, quartered, sums, small, Grows, from_size}
use Rattle.reversible.specs.Reversible.{inverse_predict, inverse_update, low_inverse, high_inverse, inverse_long, inverse_pass}

-- ---- the kernel of the code is the inverse pass

abbrev inverse_pair : Pair
inverse_pair = record { highs = InversePredict; lows = InverseUpdate }

abbrev pub inverse_kernel : Kernel
inverse_kernel = Inverse inverse_pair

pub back_kernel : worked_from inverse_kernel ≡ inverse_pass
unfolding worked inverse_pass inverse_long low_inverse high_inverse inverse_predict inverse_update
back_kernel = refl

-- ---- steps

module _ (own x y : ℤ) (a b : ℕ) (ho : nat_abs own ≤ a) where
  module _ (hx : nat_abs x ≤ b) (hy : nat_abs y ≤ b) where
    inverse_predict_size : nat_abs (applied InversePredict own x y) ≤ a + b
    inverse_predict_size = omega (arith, abs_add own (half (x +ℤ y)), halved x y b hx hy)

    inverse_predict_safe : a + 2 * b < 2 ^ 31 → Safe InversePredict own x y
    inverse_predict_safe fits = record { sides = small _ (omega (arith, abs_add x y)); result = small _ (omega (arith, inverse_predict_size)) }

  module _ (hx : nat_abs x ≤ 2 * b) (hy : nat_abs y ≤ 2 * b) where
    inverse_update_size : nat_abs (applied InverseUpdate own x y) ≤ a + b
    inverse_update_size = omega (arith, abs_sub own (quarter (x +ℤ y)), quartered x y b hx hy)

    inverse_update_safe : a + 4 * b + 2 < 2 ^ 31 → Safe InverseUpdate own x y
    inverse_update_safe fits =
        let s = sums x y b hx hy (omega arith) in
        record { sides = s.0; more = s.1; result = small _ (omega (arith, inverse_update_size)) }

-- ---- lines of n values of size b at most, two or more

module _ (n b : ℕ) (x : ℕ → ℤ) (works : Liftable n) (le : (k : ℕ) → k < n → nat_abs (x k) ≤ b) where
  abbrev low_in : ℕ → ℤ
  low_in = lows_inverted inverse_pair n x

  abbrev high_out : ℕ → ℤ
  high_out = highs_inverted inverse_pair n x

  low_inverse_size : (i : ℕ) → i < lows n → nat_abs (low_in i) ≤ 2 * b
  unfolding on_lows
  low_inverse_size i h = omega (arith, inverse_update_size (x i) (x (lows n + high_before i)) (x (lows n + high_after n i)) b b (le i (omega arith)) (omega (arith, le (lows n + high_before i) (omega (arith, high_before_in n i (some_highs_lem n works) h)))) (omega (arith, le (lows n + high_after n i) (omega (arith, high_after_in n i (some_highs_lem n works) h)))))

  high_back_size : (i : ℕ) → i < highs n → nat_abs (high_out i) ≤ 3 * b
  unfolding on_highs
  high_back_size i h = omega (arith, inverse_predict_size (x (lows n + i)) (low_in i) (low_in (low_after n i)) b (2 * b) (le (lows n + i) (omega arith)) (low_inverse_size i (omega arith)) (low_inverse_size (low_after n i) (low_after_in n i h)))

  back_size : (k : ℕ) → k < n → nat_abs (worked inverse_kernel n x k) ≤ 3 * b
  unfolding worked
  back_size = by_parity (λ k. nat_abs (worked inverse_kernel n x k) ≤ 3 * b) n
      (λ i h. subst (λ (z : ℤ). nat_abs z ≤ 3 * b) (sym (even_place_lem low_in high_out i)) (omega (arith, low_inverse_size i h)))
      (λ i h. subst (λ (z : ℤ). nat_abs z ≤ 3 * b) (sym (odd_place low_in high_out i)) (high_back_size i h))

  pub back_safe : 5 * b + 2 < 2 ^ 31 → SafeKernel inverse_kernel n x
  unfolding on_highs on_lows
  back_safe fits = record {
    on_lows_lem = λ i h. inverse_update_safe (x i) (x (lows n + high_before i)) (x (lows n + high_after n i)) b b (le i (omega arith)) (omega (arith, le (lows n + high_before i) (omega (arith, high_before_in n i (some_highs_lem n works) h)))) (omega (arith, le (lows n + high_after n i) (omega (arith, high_after_in n i (some_highs_lem n works) h)))) (omega arith);
    on_highs_lem = λ i h. inverse_predict_safe (x (lows n + i)) (low_in i) (low_in (low_after n i)) b (2 * b) (le (lows n + i) (omega arith)) (low_inverse_size i (omega arith)) (low_inverse_size (low_after n i) (low_after_in n i h)) (omega arith);
  }

-- ---- and from one value on

pub back_grows : Grows 3 (worked_from inverse_kernel)
back_grows = from_size inverse_kernel 3 (omega arith) back_size

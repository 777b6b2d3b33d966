-- How large the values of the 5/3 pass become, and that the machine's steps therefore fit: it at most doubles the size of a line's values.
use Rattle.std.specs.Prelude.{ℕ, ◌+◌, ◌*◌, ◌<◌, ◌≤◌, ◌^◌, ◌≡◌, refl, ℤ, pos, negsuc, ◌+ℤ◌}
use Rattle.std.proofs.Common.{sym, arith, mul-le-mul_right, SFits}
use Rattle.std.proofs.Math.Path.{subst}
use Rattle.std.proofs.Math.IntN.{nat_abs}
use Rattle.std.specs.Int.Signed.{shr_z}
use Rattle.std.specs.Int.{w32}
use Rattle.numbers.specs.Abs.{abs_add, abs_sub, mag_of_abs}
use Rattle.numbers.specs.Parts.{positive_part, negative_part}
use Rattle.numbers.specs.Dif.{is_self, is_pos, is_add, is_abs}
use Rattle.lines.specs.Lines.{lows, highs, Liftable, low_after, high_before, high_after, on_highs, on_lows}
use Rattle.lines.specs.LineLaws.{some_highs_lem, first_low_lem, first_high, by_half}
use Rattle.lines.specs.Planes.{OnLine, from_one}
use Rattle.lines.specs.OneLaws.{one_single, one_long, by_one}
use Rattle.lines.specs.Neighbours.{low_after_in, high_before_in, high_after_in}
use Rattle.lifting.specs.declared.Step.TheVariants.{Predict, Update}
use Rattle.lifting.specs.declared.Kernel.{Kernel}
use Rattle.lifting.specs.declared.Kernel.TheVariants.{One}
use Rattle.lifting.specs.Steps.{applied, Safe, half, quarter}
use Rattle.lifting.specs.Passes.{evens, odds}
use Rattle.lifting.specs.Kernels.{worked, SafeKernel}
use Rattle.reversible.specs.Reversible.{predict, update, high, low, reversible_long, reversible_pass}

-- ---- the kernel of the code is the pass

-- A line by a kernel. A single value is not worked (document 02, job 6).
abbrev pub worked_from : Kernel → OnLine ℤ
worked_from k = from_one (λ v. v) (worked k)

abbrev pub forward_kernel : Kernel
forward_kernel = One (record { highs = Predict; lows = Update })

pub forward_kernel_lem : worked_from forward_kernel ≡ reversible_pass
unfolding worked reversible_pass reversible_long low high predict update
forward_kernel_lem = refl

-- ---- steps

half_small : (z : ℤ) (c : ℕ) → nat_abs z ≤ 2 * c → nat_abs (half z) ≤ c
half_small (pos a) c h = omega arith
half_small (negsuc a) c h = omega arith

quarter_small : (z : ℤ) (c : ℕ) → nat_abs z ≤ 4 * c → nat_abs (quarter z) ≤ c
quarter_small z c h = go (z +ℤ pos 2) (is_add (is_self z) (is_pos 2)).eq ((is_abs (is_self z)).0 h)
  where
    go : (y : ℤ) → positive_part y + (negative_part z + 0) ≡ negative_part y + (positive_part z + 2) → (positive_part z ≤ negative_part z + 4 * c) × (negative_part z ≤ positive_part z + 4 * c) → nat_abs (shr_z y 4) ≤ c
    go (pos a) e k = omega arith
    go (negsuc a) e k = omega arith

pub small : (z : ℤ) → nat_abs z < 2 ^ 31 → SFits w32 z
small z h = record { sfits = mag_of_abs z h }

-- half of two neighbours, and a quarter of two that are twice as large
module _ (x y : ℤ) (b : ℕ) where
  pub halved : nat_abs x ≤ b → nat_abs y ≤ b → nat_abs (half (x +ℤ y)) ≤ b
  halved hx hy = half_small (x +ℤ y) b (omega (arith, abs_add x y))

  module _ (hx : nat_abs x ≤ 2 * b) (hy : nat_abs y ≤ 2 * b) where
    pub quartered : nat_abs (quarter (x +ℤ y)) ≤ b
    quartered = quarter_small (x +ℤ y) b (omega (arith, abs_add x y))

    pub sums : 4 * b + 2 < 2 ^ 31 → SFits w32 (x +ℤ y) × SFits w32 (x +ℤ y +ℤ pos 2)
    sums fits = (small _ (omega (arith, abs_add x y)), small _ (omega (arith, abs_add x y, abs_add (x +ℤ y) (pos 2))))

module _ (own x y : ℤ) (a b : ℕ) (ho : nat_abs own ≤ a) where
  module _ (hx : nat_abs x ≤ b) (hy : nat_abs y ≤ b) where
    predict_size : nat_abs (applied Predict own x y) ≤ a + b
    predict_size = omega (arith, abs_sub own (half (x +ℤ y)), halved x y b hx hy)

    predict_safe : a + 2 * b < 2 ^ 31 → Safe Predict own x y
    predict_safe fits = record { sides = small _ (omega (arith, abs_add x y)); result = small _ (omega (arith, predict_size)) }

  module _ (hx : nat_abs x ≤ 2 * b) (hy : nat_abs y ≤ 2 * b) where
    update_size : nat_abs (applied Update own x y) ≤ a + b
    update_size = omega (arith, abs_add own (quarter (x +ℤ y)), quartered x y b hx hy)

    update_safe : a + 4 * b + 2 < 2 ^ 31 → Safe Update own x y
    update_safe fits =
        let s = sums x y b hx hy (omega arith) in
        record { sides = s.0; more = s.1; result = small _ (omega (arith, update_size)) }

-- ---- lines of n values of size b at most, two or more

module _ (n b : ℕ) (x : ℕ → ℤ) (works : Liftable n) (le : (k : ℕ) → k < n → nat_abs (x k) ≤ b) where
  abbrev high_in : ℕ → ℤ
  high_in = on_highs (applied Predict) n (evens x) (odds x)

  high_size : (i : ℕ) → i < highs n → nat_abs (high_in i) ≤ 2 * b
  unfolding on_highs
  high_size i h = omega (arith, predict_size (odds x i) (evens x i) (evens x (low_after n i)) b b (le (2 * i + 1) (omega arith)) (le (2 * i) (omega arith)) (le (2 * low_after n i) (omega (arith, low_after_in n i h))))

  low_size : (i : ℕ) → i < lows n → nat_abs (on_lows (applied Update) n (evens x) high_in i) ≤ 2 * b
  unfolding on_lows
  low_size i h = omega (arith, update_size (evens x i) (high_in (high_before i)) (high_in (high_after n i)) b b (le (2 * i) (omega arith)) (high_size (high_before i) (high_before_in n i (some_highs_lem n works) h)) (high_size (high_after n i) (high_after_in n i (some_highs_lem n works) h)))

  forward_size : (k : ℕ) → k < n → nat_abs (worked forward_kernel n x k) ≤ 2 * b
  unfolding worked
  forward_size = by_half (λ k. nat_abs (worked forward_kernel n x k) ≤ 2 * b) n
      (λ i h. subst (λ (z : ℤ). nat_abs z ≤ 2 * b) (sym (first_low_lem n (on_lows (applied Update) n (evens x) high_in) high_in i h)) (low_size i h))
      (λ i h. subst (λ (z : ℤ). nat_abs z ≤ 2 * b) (sym (first_high n (on_lows (applied Update) n (evens x) high_in) high_in i)) (high_size i h))

  pub forward_safe : 5 * b + 2 < 2 ^ 31 → SafeKernel forward_kernel n x
  unfolding on_highs on_lows
  forward_safe fits = record {
    on_highs_lem = λ i h. predict_safe (odds x i) (evens x i) (evens x (low_after n i)) b b (le (2 * i + 1) (omega arith)) (le (2 * i) (omega arith)) (le (2 * low_after n i) (omega (arith, low_after_in n i h))) (omega arith);
    on_lows_lem = λ i h. update_safe (evens x i) (high_in (high_before i)) (high_in (high_after n i)) b b (le (2 * i) (omega arith)) (high_size (high_before i) (high_before_in n i (some_highs_lem n works) h)) (high_size (high_after n i) (high_after_in n i (some_highs_lem n works) h)) (omega arith);
  }

-- ---- and from one value on: a pass makes values at most m times as large

abbrev pub Grows : ℕ → OnLine ℤ → Type 0
Grows m pass = (n b : ℕ) (x : ℕ → ℤ) → ((k : ℕ) → k < n → nat_abs (x k) ≤ b) → (k : ℕ) → k < n → nat_abs (pass n x k) ≤ m * b

module _ (k : Kernel) (m : ℕ) (some : 1 ≤ m) (grows : (n b : ℕ) (x : ℕ → ℤ) → Liftable n → ((k : ℕ) → k < n → nat_abs (x k) ≤ b) → (i : ℕ) → i < n → nat_abs (worked k n x i) ≤ m * b) where
  pub from_size : Grows m (worked_from k)
  from_size n b x le i h = by_one (nat_abs (worked_from k n x i) ≤ m * b) n
      (λ one. subst (λ (z : ℤ). nat_abs z ≤ m * b) (sym (one_single (λ v. v) (worked k) n x i one)) (omega (arith, le i h, mul-le-mul_right b some)))
      (λ works. subst (λ (z : ℤ). nat_abs z ≤ m * b) (sym (one_long (λ v. v) (worked k) n x i works)) (grows n b x works le i h))

pub forward_grows : Grows 2 (worked_from forward_kernel)
forward_grows = from_size forward_kernel 2 (omega arith) forward_size

-- Sizes of gains, of what is carried, and of what cuts lose.
use Rattle.std.specs.Prelude.{ℕ, zero, suc, ◌+◌, ◌*◌, ◌-◌, ◌/◌, ◌%◌, ◌^◌, ◌≤◌, Bool, true, false, List, [], ◌∷◌, ◌≡◌, T, ltb, leb, get_or}
use Rattle.std.proofs.Common.{ap, arith, mul-le-mul_left, mul-le-mul_right, le_trans, leb→le, le→leb, lit≤, pow_mono}
use Rattle.numbers.specs.Tests.{every, both}
use Rattle.numbers.specs.Ceiling.{up_div, up_most}
use Rattle.stages.specs.Stages.{Product, uncut, cut_to}
use Rattle.stages.specs.Rule.{times_gain, loss, product_loss}
use Rattle.bounds_rule.specs.Carried.{gain_in, carried_to}

-- ---- products by a gain

pub times_most : (x g : ℕ) → times_gain x g * 65536 ≤ x * g + 65535
unfolding times_gain up_div
times_most x g = omega arith

-- the wholes of 2^16 and the rest apart
pub times_split : (x g : ℕ) → x / 65536 * g + (x % 65536 * g + 65535) / 65536 ≡ times_gain x g
unfolding times_gain up_div
times_split x g = omega (arith, ap (λ (y : ℕ). y * g) e)
  where
    e : x ≡ 65536 * (x / 65536) + x % 65536
    e = omega arith

pub product_most : (m most x g : ℕ) → x ≤ m → g ≤ most → x * g ≤ m * most
product_most m most x g h k = le_trans (mul-le-mul_right g h) (mul-le-mul_left m k)

-- ---- a table of gains

-- what holds of each entry and of what stands for a missing one
at_any : {A : Type 0} (test : A → Bool) (d : A) → T (test d) → (l : List A) → T (every test l) → (k : ℕ) → T (test (get_or l k d))
unfolding every
at_any test d h [] e k = h
at_any test d h (x ∷ xs) e zero = (both (test x) (every test xs) e).0
at_any test d h (x ∷ xs) e (suc k) = at_any test d h xs (both (test x) (every test xs) e).1 k

-- no gain of the table is above the most
abbrev pub gains_within : ℕ → List (List ℕ) → Bool
gains_within most gains = every (every (λ g. leb g most)) gains

pub gain_within : (most : ℕ) (gains : List (List ℕ)) → T (gains_within most gains) → (i j : ℕ) → gain_in gains i j ≤ most
unfolding every
gain_within most gains h i j = leb→le _ _ (at_any (λ g. leb g most) 0 (le→leb 0 most (omega arith)) (get_or gains i []) (at_any (every (λ g. leb g most)) [] tt gains h i) j)

-- where one product is small, so is their sum
pub carried_within : (gains : List (List ℕ)) (x : List ℕ) (j most : ℕ) → ((i : ℕ) → times_gain (get_or x i 0) (gain_in gains i j) ≤ most) → (n : ℕ) → carried_to gains x j n ≤ n * most
unfolding carried_to
carried_within gains x j most h zero = omega arith
carried_within gains x j most h (suc n) = omega (arith, carried_within gains x j most h n, h n)

-- ---- what is cut off

pub loss_most : (f full : ℕ) → loss f full ≤ 2 ^ 32
unfolding loss
loss_most f full = go (ltb f full)
  where
    go : (t : Bool) → elim t [ true ↦ 2 ^ (32 - f) | false ↦ 0 ] ≤ 2 ^ 32
    go true = pow_mono {i = 32 - f} {j = 32} (omega arith)
    go false = lit≤ tt

pub product_loss_most : (p : Product) (full : ℕ) → product_loss p full ≤ 2 ^ 32
unfolding product_loss
product_loss_most uncut full = lit≤ tt
product_loss_most (cut_to fp) full = go (ltb fp full)
  where
    go : (t : Bool) → elim t [ true ↦ up_div (2 ^ 32) (2 ^ fp) | false ↦ 0 ] ≤ 2 ^ 32
    go true = up_most (2 ^ 32) fp
    go false = lit≤ tt

-- What the program computes of a pass fits in 64 bits, and what a pass gives on grows by no more than what is stored (`gives_most`).
use Prim.Native.Nat.{ℕ, zero, suc, ◌+◌, ◌*◌, ◌^◌, ◌<◌, ◌≤◌}
use Rattle.std.specs.Prelude.{Bool, true, false, List, [], ◌∷◌, ◌≡◌, eqb, ltb, get_or, set}
use Rattle.std.proofs.Common.{sym, ◌∙◌, mul-le-mul_right, le_trans, lit≤, lit<}
use Rattle.std.proofs.Math.Path.{ap, subst}
use native.Mathlib.Omega.{arith}
use Rattle.std.proofs.Math.ListN.{replicate}
use Rattle.numbers.specs.Tests.{every}
use Rattle.numbers.specs.Ceiling.{up_div}
use Rattle.inverse_lifting.specs.Fixed.{node_bits, inverse_bits}
use Rattle.stages.specs.GainTable.{inverse_gains}
use Rattle.stages.specs.Rule.{Bound, times_gain, loss, product_loss, own_lift, own_scale}
use Rattle.stages.specs.Stages.{uncut}
use Rattle.bounds_rule.specs.Carried.{most_gain, carried_to}
use Rattle.bounds_rule.specs.CarriedLaws.{times_most, product_most, gain_within, carried_within}
use Rattle.view_precision.specs.Bounds.{larger, odd, inverse_bound, pass_gives}
use Rattle.view_precision.specs.Odd.{odd_larger}
use Rattle.view_precision.specs.Places.{stages, sources, scalings, even_stage, gain_at, bound_from, node_from, total, total_from, inverse_own_error, own_at, owns_below, AtMostStored, most_fed, largest, SmallFed, AllSmall, most_total}
use Rattle.view_precision.specs.PlaceLaws.{own_is, total_is, owns_again, node_is}

-- ---- products by a gain

-- the largest gain of the inverse
gain_most : (i j : ℕ) → gain_at i j ≤ 207898
unfolding every
gain_most = gain_within 207898 inverse_gains tt

pub times_small : (x i j : ℕ) → x ≤ largest → times_gain x (gain_at i j) ≤ 4 * largest
times_small x i j h = omega (arith, times_most x (gain_at i j), product_most largest 207898 x (gain_at i j) h (gain_most i j))

-- the program's multiplication takes such gains
pub gain_taken : (i j : ℕ) → gain_at i j ≤ most_gain
gain_taken i j = le_trans (gain_most i j) (lit≤ tt)

-- ---- a pass, where what enters is small

pub carried_small : (own : List ℕ) (j : ℕ) → AllSmall own → (n : ℕ) → carried_to inverse_gains own j n ≤ n * (4 * largest)
carried_small own j h = carried_within inverse_gains own j (4 * largest) (λ i. times_small (get_or own i 0) i j (h i))

pub node_small : (a b : Bound) → SmallFed a → SmallFed b → (own : List ℕ) → AllSmall own → (j : ℕ) → total (node_from a b own j) ≤ most_total
unfolding larger
node_small a b sa sb own s j = go (eqb j even_stage)
  where
    range : times_gain a.range (gain_at 0 j) + times_gain b.range (gain_at 1 j) ≤ 8 * largest
    range = omega (arith, times_small a.range 0 j sa.range, times_small b.range 1 j sb.range)

    go : (t : Bool) → total (elim t [ true ↦ larger (bound_from a.range b.range own j) a | false ↦ bound_from a.range b.range own j ]) ≤ most_total
    go true = omega (arith, sa.range, sa.error, range, carried_small own j s sources)
    go false = omega (arith, range, carried_small own j s sources)

own_small : (j r : ℕ) → r ≤ most_total → inverse_own_error j r ≤ 2 ^ 32
unfolding inverse_own_error own_lift own_scale product_loss loss up_div
own_small j r h = go (ltb j scalings)
  where
    go : (t : Bool) → elim t [ true ↦ own_scale inverse_bits 0 node_bits r | false ↦ own_lift uncut inverse_bits node_bits node_bits node_bits r ] ≤ 2 ^ 32
    go true = omega arith
    go false = omega arith

cons_small : (x : ℕ) (l : List ℕ) → x ≤ largest → AllSmall l → AllSmall (x ∷ l)
cons_small x l h k zero = h
cons_small x l h k (suc i) = k i

nil_small : AllSmall []
nil_small i = lit≤ tt

zeros : (n : ℕ) → AllSmall (replicate n 0)
zeros zero = nil_small
zeros (suc n) = cons_small 0 (replicate n 0) (lit≤ tt) (zeros n)

set_small : (l : List ℕ) (k x : ℕ) → AllSmall l → x ≤ largest → AllSmall (set l k x)
set_small [] k x h i = h
set_small (y ∷ l) zero x h i = cons_small x l i (λ j. h (suc j))
set_small (y ∷ l) (suc k) x h i = cons_small y (set l k x) (h 0) (set_small l k x (λ j. h (suc j)) i)

module _ (a b : Bound) (sa : SmallFed a) (sb : SmallFed b) where
  pub total_small : (own : List ℕ) → AllSmall own → (j : ℕ) → total_from a b own j ≤ most_total
  total_small own s zero = omega (arith, sa.range, sa.error)
  total_small own s (suc zero) = omega (arith, sb.range, sb.error)
  total_small own s (suc (suc j)) = node_small a b sa sb own s (suc j)

  pub owns_small : (j : ℕ) → j ≤ stages → AllSmall (owns_below a b (j + 2))
  unfolding owns_below own_at
  owns_small zero h = cons_small a.error (b.error ∷ replicate 6 0) sa.error (cons_small b.error (replicate 6 0) sb.error (zeros 6))
  owns_small (suc j) h =
      let s = owns_small j (omega arith) in
      let e : j + 3 ≡ suc j + 2 = omega arith in
      subst AllSmall (owns_again a b j h ∙ ap (owns_below a b) e) (set_small (owns_below a b (j + 2)) (j + 2) _ s (le_trans (own_small j _ (total_small _ s j)) (lit≤ tt)))

  stage_small : (j : ℕ) → j < stages → own_at a b (j + 2) ≤ 2 ^ 32
  stage_small j h = subst (λ (x : ℕ). x ≤ 2 ^ 32) (sym (own_is a b j h)) (own_small j _ (subst (λ (x : ℕ). x ≤ most_total) (total_is a b j h) (total_small _ (owns_small j (omega arith)) j)))

odd_most : (a b : Bound) (n m : ℕ) → 1 ≤ m → n ≤ most_fed → m ≤ most_fed → AtMostStored n a → AtMostStored m b → AtMostStored (n + 2 * m) (odd a b)
unfolding inverse_bound carried_to owns_below own_at
odd_most a b n m one hn hm wa wb =
    subst (AtMostStored (n + 2 * m)) (node_is a b 5 (lit< tt)) (record {
      range = omega (arith, wa.range, wb.range, times_most a.range (gain_at 0 5), times_most b.range (gain_at 1 5));
      error = omega (
        arith,
        wa.error,
        wb.error,
        times_most a.error (gain_at 0 5),
        times_most b.error (gain_at 1 5),
        own 0 (lit< tt),
        own 1 (lit< tt),
        own 2 (lit< tt),
        own 3 (lit< tt),
        own 4 (lit< tt),
        own 5 (lit< tt),
      );
    })
  where
    sa : SmallFed a
    sa = record { range = omega (arith, wa.range); error = omega (arith, wa.error) }

    sb : SmallFed b
    sb = record { range = omega (arith, wb.range); error = omega (arith, wb.error) }

    own : (j : ℕ) → j < stages → times_gain (own_at a b (j + 2)) (gain_at (j + 2) 5) * 65536 ≤ 2 ^ 32 * gain_at (j + 2) 5 + 65535
    own j h = le_trans (times_most (own_at a b (j + 2)) (gain_at (j + 2) 5)) (omega (arith, mul-le-mul_right (gain_at (j + 2) 5) (stage_small a b sa sb j h)))

-- What a pass gives on.
pub gives_most : (a b : Bound) (n m : ℕ) → 1 ≤ m → n ≤ most_fed → m ≤ most_fed → AtMostStored n a → AtMostStored m b → AtMostStored (n + 2 * m) (pass_gives a b)
unfolding larger
gives_most a b n m one hn hm wa wb =
    let w = odd_most a b n m one hn hm wa wb in
    subst (AtMostStored (n + 2 * m)) (sym (odd_larger a b)) (record {
      range = omega (arith, w.range, wa.range);
      error = omega (arith, w.error, wa.error);
    })

-- On lines of two values or more the odd output is the larger one, in range and in error, whatever feeds a pass. So what a pass gives on
-- is the larger of the odd output and the low input (`odd_larger`). 13 judges the same whether the two inputs of a pass count as nodes or
-- not (`low_below`, `high_below`).
use Prim.Native.Nat.{ℕ, ◌+◌, ◌^◌, ◌<◌, ◌≤◌, max}
use Rattle.std.specs.Prelude.{◌≡◌, [], get_or}
use Rattle.std.proofs.Common.{sym, ap, lit≤, lit<}
use Rattle.std.proofs.Math.Path.{ap₂, subst₂}
use native.Mathlib.Omega.{arith}
use Rattle.inverse_lifting.specs.Fixed.{node_bits, inverse_bits}
use Rattle.width_table.specs.Nodes.{U1, G2}
use Rattle.stages.specs.Stages.{low, high, inverse, uncut, bits}
use Rattle.stages.specs.Gains.{highs, node, gain}
use Rattle.stages.specs.GainTable.{inverse_gains, inverse_source}
use Rattle.stages.proofs.GainLaws.{inverse_gain_lem}
use Rattle.stages.specs.Rule as Rule
use Rattle.stages.specs.Rule.{Bound, times_gain, own_lift, apart, input_part}
use Rattle.stages.proofs.ValueLaws.{weighed}
use Rattle.stages.proofs.RuleLaws.{times_gain_one, up_grows, times_grows, own_at, error_sum, AtMost}
use Rattle.view_precision.specs.Bounds.{larger, bound_after, even, odd, inverse_bound, pass_gives}

-- the gains to U1 and P1
more : (i : ℕ) → i < 8 → get_or (get_or inverse_gains i []) 4 0 ≤ get_or (get_or inverse_gains i []) 5 0 → (x : ℕ) → times_gain x (gain inverse low 5 (inverse_source i)) ≤ times_gain x (gain inverse high 6 (inverse_source i))
more i j h x = times_grows x x _ _ (omega arith) (subst₂ ◌≤◌ (sym (inverse_gain_lem i 4 j (lit< tt))) (sym (inverse_gain_lem i 5 j (lit< tt))) h)

module _ (a b : Bound) where
  abbrev own : ℕ → ℕ
  own = own_at inverse (apart a b) (λ i. inverse_bits) (λ i. uncut) (λ s. 0) (λ i. node_bits)

  brought_more : (r : Bound → ℕ) → input_part inverse r (apart a b) low 5 ≤ input_part inverse r (apart a b) high 6
  unfolding input_part
  brought_more r = omega (arith, more 0 (lit< tt) (lit≤ tt) (r a), more 1 (lit< tt) (lit≤ tt) (r b))

  range_more : (bound_after a b low 5).range ≤ (bound_after a b high 6).range
  unfolding Rule.side_bound Rule.range_at
  range_more = brought_more (λ b. b.range)

  error_more : (bound_after a b low 5).error ≤ (bound_after a b high 6).error
  unfolding Rule.side_bound weighed
  error_more =
      omega (
        arith,
        error_sum inverse (apart a b) (λ i. inverse_bits) (λ i. uncut) (λ s. 0) (λ i. node_bits) low 5,
        error_sum inverse (apart a b) (λ i. inverse_bits) (λ i. uncut) (λ s. 0) (λ i. node_bits) high 6,
        brought_more (λ b. b.error),
        more 2 (lit< tt) (lit≤ tt) (own 0),
        more 3 (lit< tt) (lit≤ tt) (own 1),
        more 4 (lit< tt) (lit≤ tt) (own 2),
        more 5 (lit< tt) (lit≤ tt) (own 3),
        more 6 (lit< tt) (lit≤ tt) (own 4),
      )

  -- ---- the larger even output makes the odd one no smaller

  pub odd_range : (bound_after a b high 6).range ≤ (odd a b).range
  unfolding odd
  odd_range = omega arith

  -- the own error of inverting P1, which goes by the even output
  abbrev pub own_odd : ℕ
  own_odd = own_lift uncut inverse_bits node_bits node_bits node_bits ((even a b).range + (even a b).error)

  -- it alone differs
  pub odd_differs : (odd a b).error + times_gain (own 5) (gain inverse high 6 (node 5)) ≡ (bound_after a b high 6).error + times_gain own_odd (gain inverse high 6 (node 5))
  unfolding odd Rule.side_bound Rule.error_at Rule.owns Rule.stages_part own_at
  odd_differs = omega arith

  own_more : own 5 ≤ own_odd
  unfolding even larger own_at Rule.own_error_of Rule.side_bound own_lift bits
  own_more = omega (arith, up_grows ((bound_after a b low 5).range + (bound_after a b low 5).error) ((even a b).range + (even a b).error) (2 ^ inverse_bits) (lit< tt) (omega arith))

  pub odd_error : (bound_after a b high 6).error ≤ (odd a b).error
  odd_error = omega (arith, odd_differs, times_grows (own 5) own_odd (gain inverse high 6 (node 5)) (gain inverse high 6 (node 5)) own_more (omega arith))

  pub odd_larger : pass_gives a b ≡ larger (odd a b) a
  unfolding pass_gives even larger
  odd_larger =
      let r : max (max (bound_after a b low 5).range a.range) (odd a b).range ≡ max (odd a b).range a.range = omega (arith, range_more, odd_range) in
      let e : max (max (bound_after a b low 5).error a.error) (odd a b).error ≡ max (odd a b).error a.error = omega (arith, error_more, odd_error) in
      ap₂ (λ (r e : ℕ). record { range = r; error = e }) r e

  -- ---- no low input is above the even output, no high input above G2

  pub low_below : AtMost a (inverse_bound a b U1)
  unfolding inverse_bound even larger
  low_below = record { range = omega arith; error = omega arith }

  pub high_below : AtMost b (inverse_bound a b G2)
  unfolding inverse_bound Rule.side_bound Rule.range_at Rule.error_at input_part
  high_below = record { range = omega (arith, grows b.range); error = omega (arith, grows b.error) }
    where
      grows : (x : ℕ) → x ≤ times_gain x (gain inverse high 2 highs)
      grows x = subst₂ ◌≤◌ (times_gain_one x) (sym (ap (times_gain x) (inverse_gain_lem 1 1 (lit< tt) (lit< tt)))) (times_grows x x 65536 _ (omega arith) (lit≤ tt))

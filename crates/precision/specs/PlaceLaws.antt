-- The bounds of a pass by place numbers are those of Bounds, and are small where what enters the pass is small.
use Prim.Native.Nat.{ℕ, zero, suc, ◌+◌, ◌*◌, ◌-◌, ◌^◌, ◌<◌, ◌≤◌, max}
use Rattle.std.specs.Prelude.{Bool, true, false, List, ◌≡◌, eqb, ltb, get_or}
use Rattle.std.proofs.Math.Path.{refl, sym}
use Rattle.std.proofs.Common.{◌∙◌, ap, le_trans}
use native.Mathlib.Omega.{arith}
use Rattle.std.proofs.Math.Dec.{lit≤}
use Rattle.numbers.specs.Tests.{every}
use Rattle.numbers.specs.Ceiling.{up_div, up_half}
use Rattle.width_table.specs.Nodes.{Node, P2, G1, G2, node_number}
use Rattle.stages.specs.Stages.{low, high, stage, forward, Product, product_bits, bits}
use Rattle.bounds_rule.specs.Carried.{carried_to, most_gain}
use Rattle.bounds_rule.specs.CarriedLaws.{times_most, product_most, gain_within, carried_within, loss_most, product_loss_most}
use Rattle.stages.specs.GainTable.{forward_gains}
use Rattle.stages.proofs.ForwardLaws as Forward
use Rattle.stages.specs.Rule as Rule
use Rattle.stages.specs.Rule.{Bound, together, times_gain, loss, product_loss, own_lift, own_scale}
use Rattle.stages.proofs.ValueLaws.{weighed}
use Rattle.stages.proofs.RuleLaws as RuleLaws
use Rattle.stages.proofs.RuleLaws.{times_gain_zero, times_gain_none, times_gain_one, bound_start, bound_kept}
use Rattle.precision.specs.Bounds.{node_bound}
use Rattle.precision.specs.Places.{places, most_fitting, largest, gain_at, multiplied, other, bits_at, own_at, total_at, own_error_at, owns_below}
use Rattle.width_table.specs.Numbered.{node_of, IsNode}

-- ---- the six nodes by number

pub by_place : (P : ℕ → Type 0) → P 1 → P 2 → P 3 → P 4 → P 5 → P 6 → (k : ℕ) → IsNode k → P k
by_place P a b c d e f zero i = absurd (omega arith)
by_place P a b c d e f (suc zero) i = a
by_place P a b c d e f (suc (suc zero)) i = b
by_place P a b c d e f (suc (suc (suc zero))) i = c
by_place P a b c d e f (suc (suc (suc (suc zero)))) i = d
by_place P a b c d e f (suc (suc (suc (suc (suc zero))))) i = e
by_place P a b c d e f (suc (suc (suc (suc (suc (suc zero)))))) i = f
by_place P a b c d e f (suc (suc (suc (suc (suc (suc (suc k))))))) i = absurd (omega arith)

pub multiplied_place_lem : (k : ℕ) → IsNode k → multiplied k < places
multiplied_place_lem k h = go (eqb k (node_number G2))
  where
    go : (t : Bool) → elim t [ true ↦ node_number P2 | false ↦ k - 1 ] < places
    go true = lit≤ tt
    go false = omega arith

-- ---- products by a gain

pub gain_most : (i j : ℕ) → gain_at i j ≤ most_gain
unfolding every
gain_most = gain_within most_gain forward_gains tt

-- a product by a gain stays below 2^48
pub times_small : (x i j : ℕ) → x ≤ largest → times_gain x (gain_at i j) ≤ 2 ^ 48
times_small x i j h = omega (arith, times_most x (gain_at i j), product_most largest most_gain x (gain_at i j) h (gain_most i j))

pub carried_small : (x : List ℕ) → ((i : ℕ) → get_or x i 0 ≤ largest) → (j n : ℕ) → carried_to forward_gains x j n ≤ n * 2 ^ 48
carried_small x h j = carried_within forward_gains x j (2 ^ 48) (λ i. times_small (get_or x i 0) i j (h i))

-- ---- the bounds by number

module _ (F : Node → ℕ) (fp : Node → Product) (fi : ℕ) (b : Bound) (f : Node → ℕ) where
  -- what the input carries, and what one place more does
  pub carried_start : (j : ℕ) → carried_to forward_gains (owns_below F fp fi b f 1) j places ≡ times_gain b.error (gain_at 0 j)
  unfolding carried_to owns_below own_at
  carried_start j = simp times_gain_zero (omega arith)

  pub carried_next : (j k : ℕ) → IsNode k → carried_to forward_gains (owns_below F fp fi b f (k + 1)) j places ≡ carried_to forward_gains (owns_below F fp fi b f k) j places + times_gain (own_at F fp fi b f k) (gain_at k j)
  unfolding carried_to owns_below
  carried_next j =
      by_place _
      (simp times_gain_zero (omega arith))
      (simp times_gain_zero (omega arith))
      (simp times_gain_zero (omega arith))
      (simp times_gain_zero (omega arith))
      (simp times_gain_zero (omega arith))
      (simp times_gain_zero (omega arith))

  abbrev Fs : ℕ → ℕ
  Fs i = F (node_of (suc i))

  abbrev fps : ℕ → Product
  fps i = fp (node_of (suc i))

  abbrev fs : ℕ → ℕ
  fs i = f (node_of (suc i))

  -- the first stage multiplies the input, and G2 what P2 left
  pub own_is : (k : ℕ) → IsNode k → own_at F fp fi b f k ≡ own_error_at F fp fi b f k (total_at F fp fi b f (multiplied k))
  unfolding own_at own_error_at total_at node_bound bits RuleLaws.own_at Rule.own_error_of Rule.side_bound
  own_is =
      by_place _
      (ap (λ (x : Bound). own_lift (fps 0) (Fs 0) fi fi (fs 0) (x.range + x.error)) (bound_start forward (together b) Fs fps (λ s. fi) fs low))
      refl refl refl refl
      (ap (λ (x : Bound). own_scale (Fs 5) (fs 2) (fs 5) (x.range + x.error)) (bound_kept forward (together b) Fs fps (λ s. fi) fs 4 high refl ∙ bound_kept forward (together b) Fs fps (λ s. fi) fs 3 high refl))

  pub range_is : (k : ℕ) → IsNode k → times_gain b.range (gain_at 0 k) ≡ (node_bound F fp fi b f (node_of k)).range
  unfolding node_bound Rule.side_bound
  range_is = by_place _ (at 1 (lit≤ tt)) (at 2 (lit≤ tt)) (at 3 (lit≤ tt)) (at 4 (lit≤ tt)) (at 5 (lit≤ tt)) (at 6 (lit≤ tt))
    where
      at : (k : ℕ) → k < places → times_gain b.range (gain_at 0 k) ≡ Rule.range_at forward (together b) Fs fps (λ s. fi) fs (stage forward (k - 1)).side k
      at k h = sym (Forward.range_at_lem b Fs fps fi fs k h)

  -- the error of a node by numbers
  error_at_lem : (k : ℕ) → k < places → Rule.error_at forward (together b) Fs fps (λ s. fi) fs (stage forward (k - 1)).side k ≡ times_gain b.error (gain_at 0 k) + weighed (λ i. gain_at (suc i) k) (RuleLaws.own_at forward (together b) Fs fps (λ s. fi) fs) k
  error_at_lem = Forward.error_at_lem b Fs fps fi fs

  pub error_is : (k : ℕ) → IsNode k → carried_to forward_gains (owns_below F fp fi b f places) k places ≡ (node_bound F fp fi b f (node_of k)).error
  unfolding carried_to owns_below own_at node_bound Rule.side_bound weighed
  error_is =
      by_place _
      (simp times_gain_none (omega (arith, error_at_lem 1 (lit≤ tt))))
      (simp times_gain_none (omega (arith, error_at_lem 2 (lit≤ tt))))
      (simp times_gain_none (omega (arith, error_at_lem 3 (lit≤ tt))))
      (simp times_gain_none (omega (arith, error_at_lem 4 (lit≤ tt))))
      (simp times_gain_none (omega (arith, error_at_lem 5 (lit≤ tt), Forward.single_least b Fs fps fi fs)))
      (simp times_gain_none (omega (arith, error_at_lem 6 (lit≤ tt), times_gain_none (RuleLaws.own_at forward (together b) Fs fps (λ s. fi) fs 3), times_gain_none (RuleLaws.own_at forward (together b) Fs fps (λ s. fi) fs 4))))

  -- what the places below k carry to the place that k multiplies
  pub total_is : (k : ℕ) → IsNode k → times_gain b.range (gain_at 0 (multiplied k)) + carried_to forward_gains (owns_below F fp fi b f k) (multiplied k) places ≡ total_at F fp fi b f (multiplied k)
  unfolding carried_to owns_below own_at total_at node_bound Rule.side_bound weighed
  total_is =
      by_place _
      (simp (times_gain_zero, times_gain_one) (omega arith))
      (simp times_gain_zero (omega (arith, range_is 1 (lit≤ tt, lit≤ tt), error_at_lem 1 (lit≤ tt))))
      (simp times_gain_zero (omega (arith, range_is 2 (lit≤ tt, lit≤ tt), error_at_lem 2 (lit≤ tt))))
      (simp times_gain_zero (omega (arith, range_is 3 (lit≤ tt, lit≤ tt), error_at_lem 3 (lit≤ tt))))
      (simp times_gain_zero (omega (arith, range_is 4 (lit≤ tt, lit≤ tt), error_at_lem 4 (lit≤ tt))))
      (simp (times_gain_zero, times_gain_none) (omega (arith, range_is 3 (lit≤ tt, lit≤ tt), error_at_lem 3 (lit≤ tt))))

-- ---- sizes

pub own_half : (F : Node → ℕ) (fp : Node → Product) (fi : ℕ) (b : Bound) (f : Node → ℕ) (k r : ℕ) → 1 ≤ F (node_of k) → 2 * own_error_at F fp fi b f k r ≤ r + 1 + 4 * 2 ^ 32
unfolding own_error_at own_lift own_scale
own_half F fp fi b f k r h = go (ltb k (node_number G1))
  where
    -- of the product before its cut
    full : ℕ
    full = F (node_of k) + bits_at F fp fi b f (multiplied k)

    go : (t : Bool) → 2 * elim t [
      | true ↦ up_div r (2 ^ F (node_of k)) + product_loss (fp (node_of k)) full + loss (bits_at F fp fi b f k) (max (bits_at F fp fi b f (other k)) (product_bits (fp (node_of k)) full))
      | false ↦ up_div r (2 ^ (F (node_of k) + 1)) + loss (bits_at F fp fi b f k) full
    ] ≤ r + 1 + 4 * 2 ^ 32
    go true = omega (arith, up_half r (F (node_of k)) h, product_loss_most (fp (node_of k)) full, loss_most (bits_at F fp fi b f k) (max (bits_at F fp fi b f (other k)) (product_bits (fp (node_of k)) full)))
    go false = omega (arith, up_half r (F (node_of k) + 1) (omega arith), loss_most (bits_at F fp fi b f k) full)

-- what is carried, before its roundings
abbrev weighted : List ℕ → ℕ → ℕ → ℕ
weighted x j zero = 0
weighted x j (suc n) = weighted x j n + get_or x n 0 * gain_at n j

carried_most : (x : List ℕ) (j n : ℕ) → carried_to forward_gains x j n * 65536 ≤ weighted x j n + n * 65535
unfolding carried_to
carried_most x j zero = omega arith
carried_most x j (suc n) = omega (arith, carried_most x j n, times_most (get_or x n 0) (gain_at n j))

held : (t : Bool) {x : ℕ} → x ≤ largest → elim t [ true ↦ x | false ↦ 0 ] ≤ largest
held true h = h
held false h = lit≤ tt

module _ (F : Node → ℕ) (fp : Node → Product) (fi : ℕ) (b : Bound) (f : Node → ℕ) (small : b.range + b.error ≤ most_fitting) (positive : (n : Node) → 1 ≤ F n) where
  -- twice an own error, from what is carried to the place that is multiplied
  own_most : (k : ℕ) → IsNode k → 65536 * (2 * own_at F fp fi b f k) ≤ b.range * gain_at 0 (multiplied k) + weighted (owns_below F fp fi b f k) (multiplied k) places + 8 * 65535 + 65536 * (1 + 4 * 2 ^ 32)
  own_most k i =
      omega (arith, own_is F fp fi b f k i, own_half F fp fi b f k (total_at F fp fi b f (multiplied k)) (positive (node_of k)), total_is F fp fi b f k i, times_most b.range (gain_at 0 (multiplied k)), carried_most (owns_below F fp fi b f k) (multiplied k) places)

  own_0 : own_at F fp fi b f 0 ≤ largest
  unfolding own_at
  own_0 = omega arith

  own_1 : own_at F fp fi b f 1 ≤ 5 * 2 ^ 40
  unfolding owns_below own_at
  own_1 = omega (arith, own_most 1 (lit≤ tt, lit≤ tt))

  own_2 : own_at F fp fi b f 2 ≤ 77 * 2 ^ 38
  unfolding owns_below own_at
  own_2 = omega (arith, own_1, own_most 2 (lit≤ tt, lit≤ tt))

  own_3 : own_at F fp fi b f 3 ≤ 63 * 2 ^ 38
  unfolding owns_below own_at
  own_3 = omega (arith, own_1, own_2, own_most 3 (lit≤ tt, lit≤ tt))

  own_4 : own_at F fp fi b f 4 ≤ 9 * 2 ^ 42
  unfolding owns_below own_at
  own_4 = omega (arith, own_1, own_2, own_3, own_most 4 (lit≤ tt, lit≤ tt))

  own_5 : own_at F fp fi b f 5 ≤ largest
  unfolding owns_below own_at
  own_5 = omega (arith, own_1, own_2, own_3, own_4, own_most 5 (lit≤ tt, lit≤ tt))

  own_6 : own_at F fp fi b f 6 ≤ largest
  unfolding owns_below own_at
  own_6 = omega (arith, own_1, own_2, own_3, own_4, own_most 6 (lit≤ tt, lit≤ tt))

  pub owns_most : (k i : ℕ) → get_or (owns_below F fp fi b f k) i 0 ≤ largest
  unfolding owns_below
  owns_most k zero = held (ltb 0 k) own_0
  owns_most k (suc zero) = held (ltb 1 k) (le_trans own_1 (lit≤ tt))
  owns_most k (suc (suc zero)) = held (ltb 2 k) (le_trans own_2 (lit≤ tt))
  owns_most k (suc (suc (suc zero))) = held (ltb 3 k) (le_trans own_3 (lit≤ tt))
  owns_most k (suc (suc (suc (suc zero)))) = held (ltb 4 k) (le_trans own_4 (lit≤ tt))
  owns_most k (suc (suc (suc (suc (suc zero))))) = held (ltb 5 k) own_5
  owns_most k (suc (suc (suc (suc (suc (suc zero)))))) = held (ltb 6 k) own_6
  owns_most k (suc (suc (suc (suc (suc (suc (suc i))))))) = lit≤ tt

  pub own_small : (k : ℕ) → IsNode k → own_at F fp fi b f k ≤ largest
  own_small = by_place _ (le_trans own_1 (lit≤ tt)) (le_trans own_2 (lit≤ tt)) (le_trans own_3 (lit≤ tt)) (le_trans own_4 (lit≤ tt)) own_5 own_6

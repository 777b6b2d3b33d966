-- The bounds of the forward pass by the gains as numbers (`range_at_lem`, `error_at_lem`), and what follows of a single sample (document 02, job 6): its
-- range and its error are never above those of G1 on longer lines (`range_least`, `single_least`). The gain from the input to G1 is above 1.
-- Where f is below the input's bits, 2^-f or more is lost in G1, in U2 or in U1, whose gains to G1 are not below 1. Widths of products (job 7)
-- change nothing of that: the full precision of U1 and U2 is never below the other operand's bits.
use Rattle.std.specs.Prelude.{ℕ, suc, ◌+◌, ◌-◌, ◌^◌, ◌<◌, ◌≤◌, max, [], ◌≡◌}
use Rattle.std.proofs.Math.Path.{ap}
use native.Mathlib.Omega.{arith}
use Rattle.std.proofs.Math.Decide.{dec_lt}
use Rattle.std.proofs.Common.{lit≤, pow_mono}
use Rattle.std.proofs.Math.ListN.{get_or}
use Rattle.stages.specs.Stages.{low, stage, forward, Product, product_bits, bits}
use Rattle.stages.specs.Gains.{node, gain}
use Rattle.stages.specs.GainTable.{forward_gains}
use Rattle.stages.proofs.GainLaws.{forward_gain_lem}
use Rattle.stages.specs.Rule.{Bound, together, times_gain, input_part, loss, single_error, own_lift, own_scale, range_at, own_error_of, error_at}
use Rattle.stages.proofs.ValueLaws.{weighed}
use Rattle.stages.proofs.RuleLaws.{times_least, loss_below, loss_none, weighed_ext, own_at, error_sum}

-- 2^-f is lost in G1, or more of it in U2, or in U1
losses : (f fi u1 u2 m1 m2 F : ℕ) → f < fi → 2 ^ (32 - f) ≤ loss u1 (max fi m1) + loss u2 (max u1 m2) + loss f (F + u2)
losses f fi u1 u2 m1 m2 F h = go (dec_lt f (F + u2)) (dec_lt u2 (max u1 m2))
  where
    more : (u : ℕ) → u ≤ f → 2 ^ (32 - f) ≤ 2 ^ (32 - u)
    more u i = pow_mono {i = 32 - f} {j = 32 - u} (omega arith)

    go : Dec (f < F + u2) → Dec (u2 < max u1 m2) → 2 ^ (32 - f) ≤ loss u1 (max fi m1) + loss u2 (max u1 m2) + loss f (F + u2)
    go (yes i) j = omega (arith, loss_below f (F + u2) i)
    go (no i) (yes j) = omega (arith, loss_below u2 (max u1 m2) j, more u2 (omega arith))
    go (no i) (no j) = omega (arith, loss_below u1 (max fi m1) (omega arith), more u1 (omega arith))

-- One pass, as in Rule, whose input is one node of fi bits. Stages 0 to 5 leave P1, U1, P2, U2, G1, G2.
module _ (b : Bound) (F : ℕ → ℕ) (fp : ℕ → Product) (fi : ℕ) (f : ℕ → ℕ) where
  -- of the input (k = 0), or of what stage k - 1 leaves
  pub range_at_lem : (k : ℕ) → k < 7 → range_at forward (together b) F fp (λ s. fi) f (stage forward (k - 1)).side k ≡ times_gain b.range (get_or (get_or forward_gains 0 []) k 0)
  unfolding range_at input_part
  range_at_lem k h = ap (times_gain b.range) (forward_gain_lem 0 k (lit≤ tt) h)

  -- the own error of stage i
  abbrev own : ℕ → ℕ
  own = own_at forward (together b) F fp (λ s. fi) f

  pub error_at_lem : (k : ℕ) → k < 7
      → error_at forward (together b) F fp (λ s. fi) f (stage forward (k - 1)).side k
      ≡ times_gain b.error (get_or (get_or forward_gains 0 []) k 0) + weighed (λ i. get_or (get_or forward_gains (suc i) []) k 0) own k
  unfolding input_part
  error_at_lem k h =
      omega (
        arith,
        error_sum forward (together b) F fp (λ s. fi) f (stage forward (k - 1)).side k,
        ap (times_gain b.error) (forward_gain_lem 0 k (lit≤ tt) h),
        weighed_ext (λ i. gain forward (stage forward (k - 1)).side k (node i)) (λ i. get_or (get_or forward_gains (suc i) []) k 0) own k (λ i l. forward_gain_lem (suc i) k (omega arith) h),
      )

  -- ---- a single sample, which G1 alone holds

  -- its range is not above that of G1 on a line of two or more
  pub range_least : b.range ≤ range_at forward (together b) F fp (λ s. fi) f low 5
  range_least = omega (arith, range_at_lem 5 (lit≤ tt), times_least b.range 127934 (lit≤ tt))

  -- what is lost in U1, U2 and G1
  own_U1 : loss (f 1) (max fi (product_bits (fp 1) (F 1 + f 0))) ≤ own 1
  unfolding own_at own_error_of own_lift bits
  own_U1 = omega arith

  own_U2 : loss (f 3) (max (f 1) (product_bits (fp 3) (F 3 + f 2))) ≤ own 3
  unfolding own_at own_error_of own_lift bits
  own_U2 = omega arith

  own_G1 : loss (f 4) (F 4 + f 3) ≤ own 4
  unfolding own_at own_error_of own_scale bits
  own_G1 = omega arith

  carried : b.error + own 1 + own 3 + own 4 ≤ error_at forward (together b) F fp (λ s. fi) f low 5
  unfolding weighed
  carried = omega (arith, error_at_lem 5 (lit≤ tt), times_least b.error 127934 (lit≤ tt), times_least (own 1) 193347 (lit≤ tt), times_least (own 3) 75341 (lit≤ tt), times_least (own 4) 65536 (lit≤ tt))

  -- nor its error
  pub single_least : single_error fi b (f 4) ≤ error_at forward (together b) F fp (λ s. fi) f low 5
  single_least = go (dec_lt (f 4) fi)
    where
      go : Dec (f 4 < fi) → single_error fi b (f 4) ≤ error_at forward (together b) F fp (λ s. fi) f low 5
      go (yes i) = omega (arith, carried, own_U1, own_U2, own_G1, loss_below (f 4) fi i, losses (f 4) fi (f 1) (f 3) (product_bits (fp 1) (F 1 + f 0)) (product_bits (fp 3) (F 3 + f 2)) (F 4) i)
      go (no i) = omega (arith, carried, loss_none (f 4) fi (omega arith))

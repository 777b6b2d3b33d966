-- Range and error bounds of the inverse (document 02, jobs 1 and 6), by the judge's rule for any pass (Rule of the crate stages). No product
-- of the inverse is cut.
use Rattle.std.specs.Prelude.{ℕ, zero, suc, ◌+◌, ◌*◌, ◌-◌, ◌^◌, max, Bool, true, ◌&&◌, [], ◌∷◌, leb, ltb}
use Rattle.numbers.specs.Tests.{every}
use Rattle.refusals.specs.Answers.{Answer, passed, asks, ◌then◌}
use Rattle.stages.specs.Stages.{Side, low, high, inverse, uncut}
use Rattle.stages.specs.Rule as Rule
use Rattle.stages.specs.Rule.{Bound, apart, own_lift, input_part}
use Rattle.inverse_lifting.specs.Fixed.{node_bits, inverse_bits, max_value}
use Rattle.width_table.specs.Nodes.{Node, P1, U1, P2, U2, G1, G2, Pass, Rows, LowColumns, HighColumns}
use Rattle.width_table.specs.declared.WidthTable.{WidthTable}
use Rattle.width_table.specs.Table.{integer_bits, fraction_bits}
use Rattle.precision.specs.Verdict.{verdict}

-- the larger of two bounds, range and error each by itself
unfoldable pub larger : Bound → Bound → Bound
larger x y = record { range = max x.range y.range; error = max x.error y.error }

-- One pass, fed lows with bound a and highs with bound b: every node has 20 bits, every constant 24. (The bits of what is fed do not
-- matter, since 20 are below 24 and any more, and 0 stand for them: `bound_free`, Pass of the crate viewing.)
module _ (a b : Bound) where
  -- of a side after m stages, on lines of two values or more
  abbrev pub bound_after : Side → ℕ → Bound
  bound_after = Rule.side_bound inverse (apart a b) (λ i. inverse_bits) (λ i. uncut) (λ s. 0) (λ i. node_bits)

  -- The even output, which U1 inverted leaves, on lines from one value (document 02, job 6): the larger of that and the low input.
  unfoldable pub even : Bound
  even = larger (bound_after low 5) a

  -- The odd output, which P1 inverted leaves. Its own error goes by the even output, which it multiplies.
  unfoldable pub odd : Bound
  odd =
      let own = own_lift uncut inverse_bits node_bits node_bits node_bits (even.range + even.error) in
      let earlier = Rule.owns inverse (apart a b) (λ i. inverse_bits) (λ i. uncut) (λ s. 0) (λ i. node_bits) 5 in
      record {
        range = (bound_after high 6).range;
        error = input_part inverse (λ x. x.error) (apart a b) high 6 + Rule.stages_part inverse (apart a b) (λ i. inverse_bits) (λ i. uncut) (λ s. 0) (λ i. node_bits) 6 (own ∷ earlier) high 6;
      }

  -- a node is named by the stage that is inverted there
  unfoldable pub inverse_bound : Node → Bound
  inverse_bound G1 = bound_after low 1
  inverse_bound G2 = bound_after high 2
  inverse_bound U2 = bound_after low 3
  inverse_bound P2 = bound_after high 4
  inverse_bound U1 = even
  inverse_bound P1 = odd

  -- What a pass gives on: the larger of the even and the odd output.
  unfoldable pub pass_gives : Bound
  pass_gives = larger even odd

-- A stored coefficient: range 2^(IB-1), and an error of so many of its steps, which are 2^-f: none in viewing (document 02, job 1).
unfoldable pub stored : WidthTable → ℕ → ℕ → Pass → Node → Bound
stored t steps l p n = record { range = 2 ^ (integer_bits t l p n - 1) * 2 ^ 32; error = steps * 2 ^ (32 - fraction_bits t l p n) }

-- The passes of level l, whose low-low has bound b: the columns take it and stored coefficients, the rows what the columns give.
module _ (t : WidthTable) (steps l : ℕ) (b : Bound) where
  -- what feeds the rows as lows and as highs
  unfoldable pub from_low : Bound
  from_low = pass_gives b (stored t steps l LowColumns G2)

  unfoldable pub from_high : Bound
  from_high = pass_gives (stored t steps l HighColumns G1) (stored t steps l HighColumns G2)

  unfoldable pub pass_bound : Pass → Node → Bound
  pass_bound LowColumns = inverse_bound b (stored t steps l LowColumns G2)
  pass_bound HighColumns = inverse_bound (stored t steps l HighColumns G1) (stored t steps l HighColumns G2)
  pass_bound Rows = inverse_bound from_low from_high

  -- what the level gives to the next finer one, or as pixels
  unfoldable pub level_gives : Bound
  level_gives = pass_gives from_low from_high

-- levels k to 1, where b bounds the low-low that level k takes
unfoldable pub gives_from : WidthTable → ℕ → ℕ → Bound → Bound
gives_from t steps zero b = b
gives_from t steps (suc k) b = gives_from t steps k (level_gives t steps (suc k) b)

-- the low-low of level L is stored
abbrev pub start_bound : WidthTable → ℕ → Bound
start_bound t steps = stored t steps t.levels LowColumns G1

-- the bound of a pixel before rounding, in whole numbers of 2^-32
unfoldable pub pixel_bound : WidthTable → ℕ
pixel_bound t = (gives_from t 0 t.levels (start_bound t 0)).error

-- the error that demand 3 of document 01 allows a stored coefficient, in its steps
abbrev pub steps_allowed : ℕ
steps_allowed = 2

-- From scan to view: the same bound where each stored coefficient starts at that error.
unfoldable pub view_distance : WidthTable → ℕ
view_distance t = (gives_from t steps_allowed t.levels (start_bound t steps_allowed)).error

-- ---- 13

-- range plus error is at most 2^15
abbrev pub within_max : Bound → Bool
within_max b = leb (b.range + b.error) (max_value * 2 ^ 32)

abbrev pub pass_right : (Node → Bound) → Bool
pass_right b = every (λ n. within_max (b n)) (G1 ∷ G2 ∷ U2 ∷ P2 ∷ U1 ∷ P1 ∷ [])

-- every node of levels k to 1
unfoldable pub nodes_right : WidthTable → ℕ → Bound → Bool
nodes_right t zero b = true
nodes_right t (suc k) b =
    pass_right (pass_bound t 0 (suc k) b LowColumns) && pass_right (pass_bound t 0 (suc k) b HighColumns) && pass_right (pass_bound t 0 (suc k) b Rows)
    && nodes_right t k (level_gives t 0 (suc k) b)

-- No node's range plus error is above 2^15, and the pixel bound is below half a grey, 2^-(B+1).
unfoldable pub viewable : WidthTable → Bool
viewable t = nodes_right t t.levels (start_bound t 0) && ltb (pixel_bound t) (2 ^ (32 - (t.depth + 1)))

-- 4, 6 and 7 as one step, 13
unfoldable pub view_verdict : WidthTable → Answer Unit
view_verdict t = verdict t then asks (viewable t) 13 passed

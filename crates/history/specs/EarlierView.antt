-- The judge of viewing before document 02, job 6, to compare with: lines of one value were refused, so every pass had the bounds of lines of
-- two values or more.
use Rattle.std.specs.Prelude.{ℕ, zero, suc, ◌+◌, ◌-◌, ◌^◌, Bool, true, ◌&&◌, ltb}
use Rattle.refusals.specs.Answers.{Answer, passed, asks, ◌then◌}
use Rattle.stages.specs.Rule.{Bound}
use Rattle.width_table.specs.Nodes.{Node, G1, G2, Pass, Rows, LowColumns, HighColumns}
use Rattle.width_table.specs.declared.WidthTable.{WidthTable}
use Rattle.precision.specs.Verdict.{verdict}
use Rattle.view_precision.specs.Bounds.{stored, start_bound, steps_allowed, pass_right}
use Rattle.view_precision.specs.LongLines.{long_inverse_bound, long_gives}

module _ (t : WidthTable) (steps l : ℕ) (b : Bound) where
  unfoldable pub from_low_before : Bound
  from_low_before = long_gives b (stored t steps l LowColumns G2)

  unfoldable pub from_high_before : Bound
  from_high_before = long_gives (stored t steps l HighColumns G1) (stored t steps l HighColumns G2)

  unfoldable pub pass_bound_before : Pass → Node → Bound
  pass_bound_before LowColumns = long_inverse_bound b (stored t steps l LowColumns G2)
  pass_bound_before HighColumns = long_inverse_bound (stored t steps l HighColumns G1) (stored t steps l HighColumns G2)
  pass_bound_before Rows = long_inverse_bound from_low_before from_high_before

  unfoldable pub level_gives_before : Bound
  level_gives_before = long_gives from_low_before from_high_before

unfoldable pub gives_from_before : WidthTable → ℕ → ℕ → Bound → Bound
gives_from_before t steps zero b = b
gives_from_before t steps (suc k) b = gives_from_before t steps k (level_gives_before t steps (suc k) b)

unfoldable pub pixel_bound_before : WidthTable → ℕ
pixel_bound_before t = (gives_from_before t 0 t.levels (start_bound t 0)).error

unfoldable pub view_distance_before : WidthTable → ℕ
view_distance_before t = (gives_from_before t steps_allowed t.levels (start_bound t steps_allowed)).error

unfoldable pub nodes_right_before : WidthTable → ℕ → Bound → Bool
nodes_right_before t zero b = true
nodes_right_before t (suc k) b =
    pass_right (pass_bound_before t 0 (suc k) b LowColumns) && pass_right (pass_bound_before t 0 (suc k) b HighColumns) && pass_right (pass_bound_before t 0 (suc k) b Rows)
    && nodes_right_before t k (level_gives_before t 0 (suc k) b)

unfoldable pub viewable_before : WidthTable → Bool
viewable_before t = nodes_right_before t t.levels (start_bound t 0) && ltb (pixel_bound_before t) (2 ^ (32 - (t.depth + 1)))

unfoldable pub view_verdict_before : WidthTable → Answer Unit
view_verdict_before t = verdict t then asks (viewable_before t) 13 passed

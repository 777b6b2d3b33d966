-- The precision analysis before document 02: with G1's error as on lines of two samples or more (job 6), and by the rule in which no product
-- is cut (job 7).
use Rattle.std.specs.Prelude.{ℕ, suc, max, ◌≡◌}
use Rattle.refusals.specs.Answers.{Answer}
use Rattle.stages.specs.Stages.{low, high, Side, forward}
use Rattle.stages.specs.Rule as Rule
use Rattle.stages.specs.Rule.{Bound, single_error, together}
use Rattle.width_table.specs.Nodes.{Node, P1, U1, P2, U2, G1, G2, TableNode}
use Rattle.width_table.specs.Numbered.{node_of}
use Rattle.width_table.specs.declared.WidthTable.{WidthTable}
use Rattle.precision.specs.Bounds.{by_rule, bound_of_by}
use Rattle.precision.specs.Verdict.{verdict_with, verdict}
use Rattle.history.specs.EarlierRule.{old_bound_at}
use Rattle.precision.specs.BoundCalls.{bound_answer_with}
use Rattle.precision.specs.LongLines.{long_bound}

-- ---- before job 6

-- of all nodes, and the verdict, by the same steps as today (Bounds, Verdict)
unfoldable pub bound_before : WidthTable → TableNode → Bound
bound_before t = bound_of_by (by_rule long_bound t)

unfoldable pub verdict_before : WidthTable → Answer Unit
verdict_before t = verdict_with t (bound_before t)

-- what job 6 promises of every table, and not of those of right form alone: its verdict
abbrev pub SameVerdict : Type 0
SameVerdict = (t : WidthTable) → verdict t ≡ verdict_before t

-- ---- before job 7

-- the bound of each node; no argument is a product's width
module _ (F : Node → ℕ) (fi : ℕ) (b : Bound) (f : Node → ℕ) where
  abbrev pub old_after : Side → ℕ → Bound
  old_after = old_bound_at forward (together b) (λ i. F (node_of (suc i))) (λ s. fi) (λ i. f (node_of (suc i)))

  unfoldable pub old_at : Node → Bound
  old_at P1 = old_after high 1
  old_at U1 = old_after low 2
  old_at P2 = old_after high 3
  old_at U2 = old_after low 4
  old_at G1 = record { range = (old_after low 5).range; error = max (old_after low 5).error (single_error fi b (f G1)) }
  old_at G2 = old_after high 6

-- and of all nodes, and the verdict, by the same steps as today (Bounds, Verdict)
unfoldable pub old_bound_of : WidthTable → TableNode → Bound
old_bound_of t = bound_of_by (by_rule (λ F fp. old_at F) t)

unfoldable pub old_verdict : WidthTable → Answer Unit
old_verdict t = verdict_with t (old_bound_of t)

-- the call that tells a bound
unfoldable pub old_bound_answer : WidthTable → ℕ → ℕ → ℕ → Answer Unit
old_bound_answer t = bound_answer_with t (old_bound_of t)

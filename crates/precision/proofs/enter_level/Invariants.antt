use Prim.Native.Nat.{◌+◌, ◌≤◌}
use mathlib.Core.Path.{◌≡◌}
use Rattle.refusals.specs.Answers.{passed}
use Rattle.width_table.specs.Nodes.{table_order}
use Rattle.precision.specs.Bounds.{entering}
use Rattle.precision.specs.Verdict.{first_refusal}
use Rattle.precision.specs.Places.{most_fitting}
use Rattle.bounds_rule.specs.Carried.{as_held}
use Rattle.precision.proofs.enter_level.Given as goal

abbrev pub invariant-loop-before : goal.invariant-loop-before
invariant-loop-before l = (l.before ≤ l.done) × (l.input ≡ as_held (entering l.table (l.before + 1))) × (l.input.range + l.input.error ≤ most_fitting) × (first_refusal l.table (table_order l.before) ≡ passed)

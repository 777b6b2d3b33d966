use Prim.Native.Nat.{◌+◌, ◌-◌, ◌≤◌}
use mathlib.Core.Path.{◌≡◌}
use lib.ListN.{take}
use Rattle.refusals.specs.Answers.{passed}
use Rattle.width_table.specs.Nodes.{pass_nodes}
use Rattle.width_table.specs.Numbered.{pass_of}
use Rattle.precision.specs.Verdict.{first_refusal}
use Rattle.precision.proofs.PassAt.judge_nodes.Given as goal

abbrev pub invariant-loop-node : goal.invariant-loop-node
invariant-loop-node l = (l.node ≤ l.count + 1) × (first_refusal l.self.table.now (take (l.node - 1) (pass_nodes l.self.level (pass_of l.self.pass))) ≡ passed)

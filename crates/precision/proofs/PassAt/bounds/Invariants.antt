use Prim.Native.Nat.{◌≤◌}
use Rattle.precision.specs.Places.{places}
use Rattle.precision.specs.JudgeLaws.{Errors}
use Rattle.precision.proofs.PassAt.bounds.Given as goal

abbrev pub invariant-loop-node : goal.invariant-loop-node
invariant-loop-node l = (1 ≤ l.node) × (l.node ≤ places) × Errors l.self.table.now l.self.level l.self.pass l.node l.errors

use Rattle.std.specs.Prelude.{ℕ, ◌+◌, ◌<◌}
use Rattle.slices.specs.Patch.{at}
use Rattle.lifting.proofs.runs.map_run.Given as goal

abbrev pub invariant-loop-j : goal.invariant-loop-j
invariant-loop-j g l = (k : ℕ) → k < l.j → goal.F-post g l.f (at l.src (l.from + k)) (at l.x-items k)

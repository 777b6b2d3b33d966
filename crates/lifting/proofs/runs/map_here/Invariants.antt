use Prim.Native.Nat.{◌+◌, ◌≤◌}
use Rattle.slices.specs.Patch.{at}
use Rattle.lifting.specs.Made.{Made}
use Rattle.lifting.proofs.runs.map_here.Given as goal

abbrev pub invariant-loop-j : goal.invariant-loop-j
invariant-loop-j g l =
    (l.j ≤ l.n) × Made (λ j. goal.F-post g l.f (at l.initial.buf (l.from + j))) l.from l.j l.initial.buf l.buf

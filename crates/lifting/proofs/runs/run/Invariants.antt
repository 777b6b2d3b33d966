use Prim.Native.Nat.{◌+◌, ◌≤◌}
use Rattle.slices.specs.Patch.{at}
use Rattle.lifting.specs.Made.{Made}
use Rattle.lifting.proofs.runs.run.Given as goal

abbrev pub invariant-loop-j : goal.invariant-loop-j
invariant-loop-j g l =
    (l.j ≤ l.n) × Made (λ j. goal.F-post g l.f (at l.initial.buf (l.t + j)) (at l.initial.buf (l.a + j)) (at l.initial.buf (l.b + j))) l.t l.j l.initial.buf l.buf

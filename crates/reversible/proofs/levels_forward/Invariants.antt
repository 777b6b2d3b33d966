use Prim.Native.Nat.{ℕ}
use lib.IntN.{ℤ}
use Rattle.slices.specs.Patch.{at}
use Rattle.reversible.specs.LoopLaws.{ForwardDone}
use Rattle.reversible.proofs.levels_forward.Given as goal

abbrev pub invariant-loop-k : goal.invariant-loop-k
invariant-loop-k l = (x : ℕ → ℤ) → ForwardDone l.w l.h 1 x (at l.initial.plane) → ForwardDone l.w l.h l.k x (at l.plane)

use mathlib.Core.Path.{◌≡◌}
use Prim.Native.Nat.{◌+◌}
use Rattle.lifting.specs.declared.Step.TheVariants.{Update}
use Rattle.lifting.specs.Steps.{applied}
use Rattle.slices.specs.Patch.{at, patch}
use Rattle.slices.specs.Pixels.{pixel_line}
use Rattle.reversible.proofs.low_line.Given as goal

abbrev pub invariant-loop-j : goal.invariant-loop-j
invariant-loop-j l =
    at l.plane ≡ patch l.to l.j (λ k. applied Update (pixel_line l.pixels l.middle l.own k) (at l.initial.plane (l.before + k)) (at l.initial.plane (l.after + k))) (at l.initial.plane)

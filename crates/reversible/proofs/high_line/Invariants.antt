use Rattle.std.specs.Prelude.{◌≡◌, ℕ, ◌<◌}
use Rattle.lifting.specs.declared.Step.TheVariants.{Predict}
use Rattle.lifting.specs.Steps.{applied}
use Rattle.slices.specs.Patch.{at}
use Rattle.slices.specs.Pixels.{pixel_line}
use Rattle.reversible.proofs.high_line.Given as goal

abbrev pub invariant-loop-j : goal.invariant-loop-j
invariant-loop-j l = (k : ℕ) → k < l.j → at l.x-items k ≡ applied Predict (pixel_line l.pixels l.middle l.own k) (pixel_line l.pixels l.middle l.before k) (pixel_line l.pixels l.middle l.after k)

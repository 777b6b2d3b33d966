use mathlib.Core.Path.{◌≡◌}
use Prim.Native.Nat.{◌-◌, ◌^◌}
use lib.IntN.{pos, nat_abs, ◌+ℤ◌}
use lib.ListN.{get_or}
use Rattle.slices.specs.Patch.{at, patch}
use Rattle.reversible_back.proofs.write_pixels.Given as goal

abbrev pub invariant-loop-i : goal.invariant-loop-i
invariant-loop-i l =
    ((λ k. get_or l.pixels k 0) ≡ patch 0 l.i (λ k. nat_abs (at l.initial.values k +ℤ pos (2 ^ (l.depth - 1)))) (λ k. get_or l.initial.pixels k 0))
    × (at l.values ≡ patch 0 l.i (λ k. pos 0) (at l.initial.values))

use Prim.Native.Nat.{ℕ, ◌+◌, ◌<◌, ◌≤◌}
use mathlib.Core.List.{List}
use mathlib.Core.Path.{◌≡◌}
use lib.ListN.{length, get_or}
use Rattle.stages.specs.Rule.{times_gain}
use Rattle.precision.specs.Places.{places, gain_at}
use Rattle.precision.proofs.carry.Given as goal

-- the first k places have f more than at first, the others what they had
abbrev pub Added : (ℕ → ℕ) → List ℕ → List ℕ → ℕ → Type 0
Added f l m k = ((i : ℕ) → i < k → get_or m i 0 ≡ get_or l i 0 + f i) × ((i : ℕ) → k ≤ i → get_or m i 0 ≡ get_or l i 0)

abbrev pub invariant-loop-to : goal.invariant-loop-to
invariant-loop-to l = (l.to ≤ places) × (length l.sum-items ≡ places) × Added (λ i. times_gain l.x (gain_at l.from i)) l.initial.sum-items l.sum-items l.to

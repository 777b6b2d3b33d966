use Rattle.std.proofs.Common.{◌≡◌, ◌+◌, ◌≤◌, length, get_or}
use Rattle.slices.specs.Patch.{patch}
use Rattle.slices.proofs.copy_run.Given as goal

abbrev pub invariant-loop-j : goal.invariant-loop-j
invariant-loop-j g l =
    (l.j ≤ l.n) × (length l.dst ≡ length l.initial.dst) × ((d : _) → (λ k. get_or l.dst k d) ≡ patch l.to l.j (λ i. get_or l.src (l.from + i) d) (λ k. get_or l.initial.dst k d))

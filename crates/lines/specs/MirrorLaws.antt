-- The neighbours of Lines are the mirrored samples (Mirror).
use Rattle.std.specs.Prelude.{ℕ, suc, ◌+◌, ◌*◌, ◌-◌, ◌<◌, ◌≤◌, true, false, ◌≡◌, refl, pos}
use Rattle.std.proofs.Common.{arith}
use Rattle.numbers.specs.Tests.{by_ltb}
use Rattle.lines.specs.Lines.{lows, highs, low_after, high_before, high_after}
use Rattle.lines.specs.Mirror.{mirror}

-- high i is sample 2 i + 1; its neighbours are samples 2 i and 2 i + 2
pub low_after_lem : (n i : ℕ) → i < highs n → 2 * low_after n i ≡ mirror n (pos (2 * i + 2))
unfolding low_after
low_after_lem n i h = by_ltb (λ q. 2 * low_after n i ≡ elim q [ true ↦ 2 * i + 2 | false ↦ 2 * (n - 1) - (2 * i + 2) ]) (2 * i + 2) n (λ j. omega arith) (λ j. omega arith)

-- low i is sample 2 i; its neighbours are samples 2 i - 1 (at the first low the mirrored one, 1) and 2 i + 1
pub high_after_lem : (n i : ℕ) → 2 ≤ n → i < lows n → 2 * high_after n i + 1 ≡ mirror n (pos (2 * i + 1))
unfolding high_after
high_after_lem n i big h = by_ltb (λ q. 2 * high_after n i + 1 ≡ elim q [ true ↦ 2 * i + 1 | false ↦ 2 * (n - 1) - (2 * i + 1) ]) (2 * i + 1) n (λ j. omega arith) (λ j. omega arith)

pub high_before_first : 2 * high_before 0 + 1 ≡ 1
unfolding high_before
high_before_first = refl

pub high_before_lem : (i : ℕ) → 2 * high_before (suc i) + 1 ≡ 2 * suc i - 1
unfolding high_before
high_before_lem i = omega arith

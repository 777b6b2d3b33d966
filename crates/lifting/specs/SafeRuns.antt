-- A step at each place of a run, where every number on the way fits.
use Rattle.std.specs.Prelude.{ℕ, ℤ, ◌≡◌, List, ◌+◌, ◌<◌, ◌^◌, set}
use Rattle.slices.specs.Runs.{SafeBy, Runs}
use Rattle.lifting.specs.declared.Step.{Step}
use Rattle.lifting.specs.Steps.{Safe, applied}
use Rattle.std.specs.Int.Signed.{mag}
use Rattle.std.specs.Int.{w32}
use mir.Val.{hbits}
use Rattle.slices.specs.Patch.{at}
use Rattle.slices.specs.SignedRuns.{back, Running, turn_safe, turn_done}

abbrev pub SafeRun : Step → ℕ → ℕ → ℕ → ℕ → (ℕ → ℤ) → Type 0
SafeRun s = SafeBy (Safe s)

-- a turn of such a run: what the step asks, and what it gives
module _ (s : Step) {t a b n j : ℕ} {before now : List ℤ} (runs : Runs before t a b n) (h : Running (applied s) t a b n before now j) (some : j < n)
    (fo : mag (at now (t + j)) < 2 ^ hbits w32) (fx : mag (at now (a + j)) < 2 ^ hbits w32) (fy : mag (at now (b + j)) < 2 ^ hbits w32) where
  pub step_asks : SafeRun s t a b n (at before) → Safe s (back w32 (at now (t + j))) (back w32 (at now (a + j))) (back w32 (at now (b + j)))
  step_asks = turn_safe w32 (applied s) (Safe s) runs h some fo fx fy

  pub step_done : {r : ℤ} → mag r < 2 ^ hbits w32 → r ≡ applied s (back w32 (at now (t + j))) (back w32 (at now (a + j))) (back w32 (at now (b + j))) → Running (applied s) t a b n before (set now (t + j) (back w32 r)) (j + 1)
  step_done = turn_done w32 (applied s) (Safe s) runs h some fo fx fy

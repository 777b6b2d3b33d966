-- The levels one after another in memory: what the loops of the code carry from level to level.
use Prim.Native.Nat.{ℕ, zero, suc, ◌*◌, ◌≤◌, ◌^◌}
use Rattle.std.specs.Prelude.{◌≡◌, ℤ}
use Rattle.std.proofs.Common.{arith}
use Rattle.pictures.specs.MemoryLaws.{Stands}
use Rattle.reversible.specs.Reversible.{columns_first, forward}
use Rattle.reversible.specs.LevelLaws.{plane_at}
use Rattle.width_table.specs.Table.{max_levels}

-- 4^k for at most five levels
pub four_pow : (k : ℕ) → k ≤ max_levels → 4 ^ k ≤ 1024
four_pow zero h = omega arith
four_pow (suc zero) h = omega arith
four_pow (suc (suc zero)) h = omega arith
four_pow (suc (suc (suc zero))) h = omega arith
four_pow (suc (suc (suc (suc zero)))) h = omega arith
four_pow (suc (suc (suc (suc (suc zero))))) h = omega arith
four_pow (suc (suc (suc (suc (suc (suc k)))))) h = absurd (omega arith)

-- forward: k levels of what stood in memory as x are done
pub record ForwardDone (w h k : ℕ) (x y : ℕ → ℤ) : Type 0 where
  pub stands : Stands w h y (forward columns_first k w h (plane_at w x))
  pub beyond : (q : ℕ) → w * h ≤ q → y q ≡ x q

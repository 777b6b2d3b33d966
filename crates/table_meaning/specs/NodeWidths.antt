-- The width of a node: what its integer and fractional bits hold (document 01: the lifting, fixed point).
use Rattle.std.specs.Prelude.{ℕ, ◌+◌, ◌-◌, ◌^◌, ℤ, pos, neg_ℤ, ◌≤ℤ◌, ◌<ℤ◌}

-- v from -2^(IB+f-1) to 2^(IB+f-1) - 1
unfoldable pub InNodeWidth : ℕ → ℕ → ℤ → Type 0
InNodeWidth IB f v = (neg_ℤ (pos (2 ^ (IB + f - 1))) ≤ℤ v) × (v <ℤ pos (2 ^ (IB + f - 1)))

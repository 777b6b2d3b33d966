-- Rows of a plane in memory with the lifting inverted (document 02, job 1), and what keeps the machine's numbers in 64 bits.
use Rattle.std.specs.Prelude.{ℕ, ◌<◌, ◌≤◌, ℤ, nat_abs}
use Rattle.slices.specs.Parts.{rows_by}
use Rattle.inverse_lifting.specs.Fixed.{node_bits, fixed_inverse, Small, limit}

-- what enters a line of n values, and every value on the way, is at most 2^15 in magnitude at the bits of a node
pub record Safe (fl fh n : ℕ) (y : ℕ → ℤ) : Type 0 where
  pub enters : (k : ℕ) → k < n → nat_abs (y k) ≤ limit
  pub small : Small fl fh n y

-- the first w values of h rows; lows and highs have the bits of a node
abbrev pub rows_inverse : ℕ → ℕ → ℕ → (ℕ → ℤ) → ℕ → ℤ
rows_inverse = rows_by (fixed_inverse node_bits node_bits)

-- When a pass can be worked in memory: the limits of its bits, values below a power of 2 in magnitude, and a line whose pass is safe.
use Rattle.std.specs.Prelude.{ℕ, ◌+◌, ◌^◌, ◌<◌, ◌≤◌, ◌≡◌, ℤ, nat_abs}
use Rattle.lines.specs.Lines.{Liftable}
use Rattle.width_table.specs.Nodes.{Node, G1, Pass}
use Rattle.width_table.specs.declared.WidthTable.{WidthTable}
use Rattle.width_table.specs.Table.{max_fraction_bits, constant_bits, fraction_bits, input_bits}
use Rattle.table_meaning.specs.Products.{product_of}
use Rattle.lifting.specs.Steps.{FactorSafe}
use Rattle.lifting.specs.Kernels.{SafeKernel}
use Rattle.fixed_stages.specs.Fixed.{value_at, count_at, fixed_line}
use Rattle.fixed_stages.specs.Constants.{ConstantBits}
use Rattle.fixed_stages.specs.Kernels.{kernel_of, single_for}

-- limits of the bits of a pass: constants, nodes and input
pub record Limits (F : Node → ℕ) (fi : ℕ) (f : Node → ℕ) : Type 0 where
  pub constants : (i : Node) → ConstantBits (F i)
  pub fractions : (i : Node) → f i ≤ max_fraction_bits
  pub enters : fi ≤ max_fraction_bits

-- the bits of a level are within their limits
abbrev pub BitsRight : WidthTable → ℕ → Type 0
BitsRight t l = (p : Pass) → Limits (constant_bits t) (input_bits t l p) (fraction_bits t l p)

-- v at f fractional bits is below 2^e in magnitude
abbrev pub BelowPower : ℕ → ℕ → ℤ → Type 0
BelowPower e f v = nat_abs v < 2 ^ (e + f)

-- each value that a pass of level l over n samples v leaves: two samples or more in every node, a single one in G1 alone
pub record LineBelowPower (e : ℕ) (t : WidthTable) (l : ℕ) (p : Pass) (n : ℕ) (v : ℕ → ℤ) : Type 0 where
  pub long : Liftable n → (i : Node) (k : ℕ) → k < count_at n i
      → BelowPower e (fraction_bits t l p i) (value_at (constant_bits t) (product_of t l p) (input_bits t l p) (fraction_bits t l p) n v i k)
  pub single : n ≡ 1 → BelowPower e (fraction_bits t l p G1) (fixed_line t l p n v 0)

-- below 2^10: each value on the way of every accepted table is
abbrev pub BelowPower10 : ℕ → ℤ → Type 0
BelowPower10 = BelowPower 10

abbrev pub LineBelowPower10 : WidthTable → ℕ → Pass → ℕ → (ℕ → ℤ) → Type 0
LineBelowPower10 = LineBelowPower 10

-- a pass can be worked in memory: over two samples or more its kernel is safe, over a single one the cut
pub record LineSafe (t : WidthTable) (l : ℕ) (p : Pass) (n : ℕ) (x : ℕ → ℤ) : Type 0 where
  pub long : Liftable n → SafeKernel (kernel_of t l p) n x
  pub single : n < 2 → (k : ℕ) → k < n → FactorSafe (single_for t l p) (x k)

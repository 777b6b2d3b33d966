-- A pass as a kernel of the lifting crate, and a single sample as a scaling (document 02, job 6).
use Rattle.std.specs.Prelude.{ℕ}
use Rattle.exact.specs.Exact.{alpha, beta, gamma, delta, zeta, zeta_inverse}
use Rattle.width_table.specs.Nodes.{Node, P1, U1, P2, U2, G1, G2, Pass}
use Rattle.width_table.specs.declared.WidthTable.{WidthTable}
use Rattle.width_table.specs.Table.{constant_bits, fraction_bits, input_bits}
use Rattle.stages.specs.Stages.{Product}
use Rattle.table_meaning.specs.Products.{product_of}
use Rattle.lifting.specs.declared.Step.{Step}
use Rattle.lifting.specs.declared.Factor.{Factor}
use Rattle.lifting.specs.declared.Pair.{Pair}
use Rattle.lifting.specs.declared.TwoPairs.{TwoPairs}
use Rattle.lifting.specs.declared.Kernel.{Kernel}
use Rattle.lifting.specs.declared.Kernel.TheVariants.{Two}
use Rattle.lifting.specs.Steps.{SameFactor}
use Rattle.lifting.specs.Kernels.{SamePair}
use Rattle.fixed_stages.specs.Steps.{stage_of, scaling_of, single_of}

-- One pass: F the bits of the constants, fp the widths of the products, fi the bits of the input, f those of the nodes.
module _ (F : Node → ℕ) (fp : Node → Product) (fi : ℕ) (f : Node → ℕ) where
  -- its stages
  abbrev pub s_p1 : Step
  s_p1 = stage_of (fp P1) alpha (F P1) fi fi (f P1)

  abbrev pub s_u1 : Step
  s_u1 = stage_of (fp U1) beta (F U1) (f P1) fi (f U1)

  abbrev pub s_p2 : Step
  s_p2 = stage_of (fp P2) gamma (F P2) (f U1) (f P1) (f P2)

  abbrev pub s_u2 : Step
  s_u2 = stage_of (fp U2) delta (F U2) (f P2) (f U1) (f U2)

  abbrev pub s_g1 : Factor
  s_g1 = scaling_of zeta (F G1) (f U2) (f G1)

  abbrev pub s_g2 : Factor
  s_g2 = scaling_of zeta_inverse (F G2) (f P2) (f G2)

  -- its pairs
  abbrev pub first_pair : Pair
  first_pair = record { highs = s_p1; lows = s_u1 }

  abbrev pub second_pair : Pair
  second_pair = record { highs = s_p2; lows = s_u2 }

  abbrev pub kernel_from : Kernel
  kernel_from = Two (record { first = first_pair; second = second_pair; low = s_g1; high = s_g2 })

-- the kernel of a pass of level l
unfoldable pub kernel_of : WidthTable → ℕ → Pass → Kernel
kernel_of t l p = kernel_from (constant_bits t) (product_of t l p) (input_bits t l p) (fraction_bits t l p)

-- the cut of a single sample of a pass of level l
abbrev pub single_for : WidthTable → ℕ → Pass → Factor
single_for t l p = single_of (input_bits t l p) (fraction_bits t l p G1)

-- the stages that the code hands over, in whatever form they are run, do what those of the pass do, wherever these may be taken
pub record AsStages (t : WidthTable) (l : ℕ) (p : Pass) (s : TwoPairs) : Type 0 where
  pub first : SamePair (first_pair (constant_bits t) (product_of t l p) (input_bits t l p) (fraction_bits t l p)) s.first
  pub second : SamePair (second_pair (constant_bits t) (product_of t l p) (input_bits t l p) (fraction_bits t l p)) s.second
  pub low : SameFactor (s_g1 (constant_bits t) (product_of t l p) (input_bits t l p) (fraction_bits t l p)) s.low
  pub high : SameFactor (s_g2 (constant_bits t) (product_of t l p) (input_bits t l p) (fraction_bits t l p)) s.high

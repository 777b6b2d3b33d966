-- The stages as steps and scalings of the lifting crate: the sum is formed at so many bits that its one cut is a shift right alone. A product that
-- is cut to a width (document 02, job 7) is shifted right by itself first, unless its cut changes nothing beside the one of the sum.
use Rattle.std.specs.Prelude.{ℕ, ◌+◌, ◌-◌, ◌^◌, max, Bool, true, false, ◌&&◌, ◌||◌, leb, ℤ, pos, ◌*ℤ◌}
use Rattle.exact.specs.Fractions.{Frac}
use Rattle.stages.specs.Stages.{Product, uncut, cut_to}
use Rattle.stages.specs.Fixed.{nearest}
use Rattle.width_table.specs.Table.{max_product_bits}
use Rattle.lifting.specs.declared.Step.{Step}
use Rattle.lifting.specs.declared.Step.TheVariants.{Scaled, Cut}
use Rattle.lifting.specs.declared.Factor.{Factor}
use Rattle.lifting.specs.declared.Factor.TheVariants.{Plain}

-- the bits at which a stage forms its sum: those of its operands and of its node
abbrev pub step_top : ℕ → ℕ → ℕ → ℕ → ℕ
step_top F fm fo f = max (max fo (F + fm)) f

-- a stage P1, U1, P2, U2, whose constant at F bits is k: the product is not cut by itself
unfoldable pub once_of : ℤ → ℕ → ℕ → ℕ → ℕ → Step
once_of k F fm fo f = let top = step_top F fm fo f in Scaled (top - fo) (k *ℤ pos (2 ^ (top - (F + fm)))) (top - f)

-- the same where the product is cut to fp bits first, fewer than it has and than own value or node have
unfoldable pub cut_of : ℕ → ℤ → ℕ → ℕ → ℕ → ℕ → Step
cut_of fp k F fm fo f = let top = max fo f in Cut (top - fo) k (F + fm - fp) (top - fp) (top - f)

-- The cut of a product that has `full` bits changes nothing beside the one of the sum: no bit of it is cut, or own value and node have no
-- more bits than it leaves.
abbrev pub cut_together : Product → ℕ → ℕ → ℕ → Bool
cut_together uncut full fo f = true
cut_together (cut_to fp) full fo f = leb full fp || (leb fo fp && leb f fp)

-- a stage whose product has a width or none
unfoldable pub step_of : Product → ℤ → ℕ → ℕ → ℕ → ℕ → Step
step_of uncut k F fm fo f = once_of k F fm fo f
step_of (cut_to fp) k F fm fo f = elim (cut_together (cut_to fp) (F + fm) fo f) [ true ↦ once_of k F fm fo f | false ↦ cut_of fp k F fm fo f ]

-- a stage G1, G2
unfoldable pub factor_of : ℤ → ℕ → ℕ → ℕ → Factor
factor_of k F fm f = let top = max (F + fm) f in Plain (k *ℤ pos (2 ^ (top - (F + fm)))) (top - f)

-- A single sample of fi bits, cut to f bits (document 02, job 6), as a scaling by a power of 2.
unfoldable pub single_of : ℕ → ℕ → Factor
single_of fi f = let top = max fi f in Plain (pos (2 ^ (top - fi))) (top - f)

-- a stage with its constant at F bits
abbrev pub stage_of : Product → Frac → ℕ → ℕ → ℕ → ℕ → Step
stage_of p c F fm fo f = step_of p (nearest c F) F fm fo f

-- a scaling likewise
abbrev pub scaling_of : Frac → ℕ → ℕ → ℕ → Factor
scaling_of c F fm f = factor_of (nearest c F) F fm f

-- the bits that a product is cut to: its width where the table has tag 5, else the limit
abbrev pub cut_bits : Bool → ℕ → ℕ
cut_bits true fp = fp
cut_bits false fp = max_product_bits

-- `viewing::part_fits` meets its contract: a look over the values' bits.
use Prim.Native.Nat.{ℕ, ◌+◌, ◌-◌, ◌≤◌, ◌<◌}
use mathlib.Core.Path.{◌≡◌, ◌∙◌, ap₂, subst}
use native.Mathlib.Omega.{arith}
use Rattle.precision.specs.Promise.{promise}
use Rattle.width_table.specs.Limits.{integer_read, fraction_read}
use Rattle.width_table.specs.Numbered.{node_of, pass_of, IsPass, IsNode}
use Rattle.width_table.specs.declared.WidthTable.{WidthTable}
use Rattle.width_table.specs.Readers.{integer_bits_at, fraction_bits_at}
use Rattle.precision.specs.Verdict.{IsLevel}
use Rattle.width_table.specs.Table.{max_integer_bits, max_fraction_bits, integer_bits, fraction_bits}
use Rattle.slices.specs.Patch.{at}
use Rattle.slices.specs.Parts.{row_of}
use Rattle.pictures.specs.RangeChecks.{Tells, OfBits}
use Rattle.viewing.specs.WidthLaws.{tells_fits}
use Rattle.viewing.proofs.part_fits.Goals as goal

-- the bits of the width, within their limits
record Bits (t : WidthTable) (l p n integer_here fraction_here : ℕ) : Type 0 where
  integer : integer_here ≡ integer_bits t l (pass_of p) (node_of n)
  fraction : fraction_here ≡ fraction_bits t l (pass_of p) (node_of n)
  some : 1 ≤ integer_here
  few : integer_here ≤ max_integer_bits
  short : fraction_here ≤ max_fraction_bits

bits : (t : WidthTable) (l p n : ℕ) {integer_here fraction_here : ℕ} → IsLevel t l × IsPass p × IsNode n → integer_here ≡ integer_bits_at t l p n → fraction_here ≡ fraction_bits_at t l p n → Bits t l p n integer_here fraction_here
bits t l p n there ie fe =
    let level = there.0 in
    let form = (promise t level.accepted).form in
    let i = integer_read t form l level.least level.most p n there.1 there.2 in
    let f = fraction_read t form l level.least level.most p n there.1 there.2 in
    record { integer = ie ∙ i.0; fraction = fe ∙ f.0; some = omega arith; few = omega arith; short = omega arith }

pub returns : goal.returns
returns c =
    let a = c.args in
    let b = bits a.table a.level a.band.pass a.band.node c.requires.level c.integer_bits.ensures c.fraction_bits.ensures in
    let sum = ap₂ ◌+◌ b.integer b.fraction in
    tells_fits a.table a.level (pass_of a.band.pass) (node_of a.band.node) (at a.plane.now) _ _ _ _ _
    (subst (λ (n : ℕ). Tells ((i : ℕ) → i < a.band.part.h → (j : ℕ) → j < a.band.part.w → OfBits (n - 1) (row_of a.band.part.stride a.band.part.from (at a.plane.now) i j)) c.part_of_bits.result) sum c.part_of_bits.ensures)

pub overflow_add-bits : goal.overflow_add-bits
overflow_add-bits c =
    let b = bits c.args.table c.args.level c.args.band.pass c.args.band.node c.requires.level c.integer_bits.ensures c.fraction_bits.ensures in
    omega (arith, b.few, b.short)

pub overflow_sub-bits : goal.overflow_sub-bits
overflow_sub-bits c =
    let b = bits c.args.table c.args.level c.args.band.pass c.args.band.node c.requires.level c.integer_bits.ensures c.fraction_bits.ensures in
    omega (arith, b.some)

pub part_of_bits-requires : goal.part_of_bits-requires
part_of_bits-requires c =
    let b = bits c.args.table c.args.level c.args.band.pass c.args.band.node c.requires.level c.integer_bits.ensures c.fraction_bits.ensures in
    (omega (arith, b.few, b.short), c.requires.by_index)

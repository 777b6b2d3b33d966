use Prim.Native.Nat.{ℕ, ◌*◌, ◌-◌, ◌^◌, ◌≤◌}
use mathlib.Core.Path.{◌≡◌, sym, ◌∙◌, ap, ap₂, subst}
use native.Mathlib.Omega.{arith}
use Rattle.width_table.specs.Numbered.{node_of, pass_of, IsNode}
use Rattle.width_table.specs.declared.WidthTable.{WidthTable}
use Rattle.width_table.specs.Readers.{integer_bits_at, fraction_bits_at}
use Rattle.precision.specs.Places.{At}
use Rattle.width_table.specs.Table.{max_integer_bits, max_fraction_bits, integer_bits, fraction_bits}
use Rattle.width_table.specs.Limits.{integer_read, fraction_read}
use Rattle.stages.specs.Rule.{Bound}
use Rattle.view_precision.specs.Bounds.{stored, steps_allowed}
use Rattle.view_precision.specs.Places.{AtMostStored}
use Rattle.view_precision.specs.LevelLaws.{stored_within}
use Rattle.view_precision.proofs.Stored.bound.Goals as goal

-- the bits that are read
integer : {t : WidthTable} {l p : ℕ} (n : ℕ) → At t l p → IsNode n → (integer_bits_at t l p n ≡ integer_bits t l (pass_of p) (node_of n)) × (1 ≤ integer_bits_at t l p n) × (integer_bits_at t l p n ≤ max_integer_bits)
integer {t} {l} {p} n at node = integer_read t at.form l at.level_from at.level_to p n at.pass node

fraction : {t : WidthTable} {l p : ℕ} (n : ℕ) → At t l p → IsNode n → (fraction_bits_at t l p n ≡ fraction_bits t l (pass_of p) (node_of n)) × (fraction_bits_at t l p n ≤ max_fraction_bits)
fraction {t} {l} {p} n at node = fraction_read t at.form l at.level_from at.level_to p n at.pass node

within : {t : WidthTable} {steps l p : ℕ} (n : ℕ) → At t l p → steps ≤ steps_allowed → AtMostStored 1 (stored t steps l (pass_of p) (node_of n))
within {t} {steps} {l} {p} n at few = stored_within t at.form steps few l at.level_from at.level_to (pass_of p) (node_of n)

-- range and error as the definition has them
pub returns : goal.returns
unfolding stored
returns c =
    let a = c.args.self.now in
    let q = c.requires in
    let range = ap (λ (x : ℕ). x * 2 ^ 32) (c.power.ensures ∙ ap (λ (n : ℕ). 2 ^ (n - 1)) (c.integer_bits-integer.ensures ∙ (integer c.args.node q.at q.node).0)) in
    let error = ap (λ (x : ℕ). a.steps * x) (c.power-2.ensures ∙ ap (λ (n : ℕ). 2 ^ (32 - n)) (c.fraction_bits-fraction.ensures ∙ (fraction c.args.node q.at q.node).0)) in
    let e = ap₂ {C = Bound} (λ (r e : ℕ). record { range = r; error = e }) range error in
    (e, subst (AtMostStored 1) (sym e) (within c.args.node q.at c.args.self.now.few))

pub overflow_sub-integer : goal.overflow_sub-integer
overflow_sub-integer c = omega (arith, c.integer_bits-integer.ensures, integer c.args.node c.requires.at c.requires.node)

pub overflow_cast-integer : goal.overflow_cast-integer
overflow_cast-integer c = omega (arith, c.integer_bits-integer.ensures, integer c.args.node c.requires.at c.requires.node)

pub power-requires : goal.power-requires
power-requires c = omega (arith, c.integer_bits-integer.ensures, integer c.args.node c.requires.at c.requires.node)

pub overflow_mul-result : goal.overflow_mul-result
unfolding stored
overflow_mul-result c =
    let q = c.requires in
    let range = ap (λ (x : ℕ). x * 2 ^ 32) (c.power.ensures ∙ ap (λ (n : ℕ). 2 ^ (n - 1)) (c.integer_bits-integer.ensures ∙ (integer c.args.node q.at q.node).0)) in
    omega (arith, range, (within c.args.node q.at c.args.self.now.few).range)

pub overflow_sub-fraction : goal.overflow_sub-fraction
overflow_sub-fraction c = omega (arith, c.fraction_bits-fraction.ensures, fraction c.args.node c.requires.at c.requires.node)

pub overflow_mul-result-2 : goal.overflow_mul-result-2
unfolding stored
overflow_mul-result-2 c =
    let q = c.requires in
    let error = ap (λ (x : ℕ). c.args.self.now.steps * x) (c.power-2.ensures ∙ ap (λ (n : ℕ). 2 ^ (32 - n)) (c.fraction_bits-fraction.ensures ∙ (fraction c.args.node q.at q.node).0)) in
    omega (arith, error, (within c.args.node q.at c.args.self.now.few).error)

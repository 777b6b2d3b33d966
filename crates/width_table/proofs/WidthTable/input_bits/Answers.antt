use Prim.Native.Nat.{ℕ, ◌≤◌}
use mathlib.Core.Path.{◌≡◌, sym, ◌∙◌}
use native.Mathlib.Omega.{arith}
use Rattle.width_table.specs.Numbered.{IsPass}
use Rattle.width_table.specs.Table.{max_levels}
use Rattle.width_table.specs.FormLaws.{pass_in}
use Rattle.width_table.specs.Readers.{input_none, input_low, input_high, input_first, input_later}
use Rattle.width_table.proofs.WidthTable.input_bits.Goals as goal

pub returns-then-not-has_pass : goal.returns-then-not-has_pass
returns-then-not-has_pass c =
    let a = c.args in
    sym (input_none a.self a.level a.pass (sym c.has_pass.ensures ∙ c.if-not-has_pass.true))

rows : (k : ℕ) → IsPass k → (k ≡ 2 → ⊥) → (k ≡ 3 → ⊥) → k ≡ 1
rows k h x y = omega arith

pub returns-then-pass-eq-LOW_COLUMNS : goal.returns-then-pass-eq-LOW_COLUMNS
returns-then-pass-eq-LOW_COLUMNS c =
    -- a level and a pass that there are
    let within : ((1 ≤ c.args.level) × (c.args.level ≤ max_levels)) × IsPass c.args.pass =
    pass_in max_levels c.args.level c.args.pass (sym c.has_pass.ensures ∙ c.if-not-has_pass.false) in
    let a = c.args in
    c.fraction_bits.ensures ∙ sym (input_low a.self a.level a.pass within.0.0 within.0.1 c.if-pass-eq-LOW_COLUMNS.true)

pub returns-then-pass-eq-HIGH_COLUMNS : goal.returns-then-pass-eq-HIGH_COLUMNS
returns-then-pass-eq-HIGH_COLUMNS c =
    let within : ((1 ≤ c.args.level) × (c.args.level ≤ max_levels)) × IsPass c.args.pass =
    pass_in max_levels c.args.level c.args.pass (sym c.has_pass.ensures ∙ c.if-not-has_pass.false) in
    let a = c.args in
    c.fraction_bits-then-pass-eq-HIGH_COLUMNS.ensures ∙ sym (input_high a.self a.level a.pass within.0.0 within.0.1 c.if-pass-eq-HIGH_COLUMNS.true)

pub returns-then-level-eq1 : goal.returns-then-level-eq1
returns-then-level-eq1 c =
    let within : ((1 ≤ c.args.level) × (c.args.level ≤ max_levels)) × IsPass c.args.pass =
    pass_in max_levels c.args.level c.args.pass (sym c.has_pass.ensures ∙ c.if-not-has_pass.false) in
    let first : c.args.pass ≡ 1 =
    rows _ within.1 c.if-pass-eq-LOW_COLUMNS.false c.if-pass-eq-HIGH_COLUMNS.false in
    let a = c.args in
    sym (input_first a.self a.level a.pass within.0.0 within.0.1 first c.if-level-eq1.true)

pub returns : goal.returns
returns c =
    let within : ((1 ≤ c.args.level) × (c.args.level ≤ max_levels)) × IsPass c.args.pass =
    pass_in max_levels c.args.level c.args.pass (sym c.has_pass.ensures ∙ c.if-not-has_pass.false) in
    let first : c.args.pass ≡ 1 =
    rows _ within.1 c.if-pass-eq-LOW_COLUMNS.false c.if-pass-eq-HIGH_COLUMNS.false in
    let a = c.args in
    c.fraction_bits-2.ensures ∙ sym (input_later a.self a.level a.pass within.0.0 within.0.1 first c.if-level-eq1.false)

pub overflow_sub-level : goal.overflow_sub-level
overflow_sub-level c =
    let within : ((1 ≤ c.args.level) × (c.args.level ≤ max_levels)) × IsPass c.args.pass =
    pass_in max_levels c.args.level c.args.pass (sym c.has_pass.ensures ∙ c.if-not-has_pass.false) in
    omega (arith, within)

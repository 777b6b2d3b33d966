use mathlib.Core.Path.{◌∙◌}
use native.Mathlib.Omega.{arith}
use Rattle.lifting.specs.Steps.{SameFactor}
use Rattle.slices.specs.Runs.{as_type}
use Rattle.fixed_stages.specs.Steps.{single_of}
use Rattle.fixed_stages.specs.LevelBits.{fraction_is, input_is}
use Rattle.fixed_stages.proofs.single_of.Goals as goal

-- the bits that enter the pass, and those of G1
pub single_factor-requires : goal.single_factor-requires
single_factor-requires c =
    let a = c.args in
    let enters = input_is a.table a.level c.requires.0 a.pass c.requires.1 c.input_bits-enters.ensures in
    let kept = fraction_is a.table a.level c.requires.0 a.pass c.requires.1 5 (omega arith) c.fraction_bits-kept.ensures in
    (enters.1, kept.1)

pub returns : goal.returns
returns c =
    let a = c.args in
    let enters = input_is a.table a.level c.requires.0 a.pass c.requires.1 c.input_bits-enters.ensures in
    let kept = fraction_is a.table a.level c.requires.0 a.pass c.requires.1 5 (omega arith) c.fraction_bits-kept.ensures in
    as_type (λ u. SameFactor ((c.single_factor.ensures ∙ (λ v. single_of (enters.0 v) (kept.0 v))) u) c.fastest_factor.result) c.fastest_factor.ensures

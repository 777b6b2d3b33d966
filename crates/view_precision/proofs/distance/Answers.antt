use mathlib.Core.Path.{◌≡◌, sym, ◌∙◌}
use native.Mathlib.Omega.{arith}
use Rattle.std.proofs.Common.{rules}
use Rattle.refusals.specs.Answers.{passed, refused, ◌then◌}
use Rattle.refusals.specs.Told.{told, told_refusal}
use Rattle.view_precision.specs.LevelLaws.{accepted_form, viewable_accepted, distance_told}
use Rattle.view_precision.proofs.distance.Goals as goal

pub returns-in_err-judge-clause-outcome : goal.returns-in_err-judge-clause-outcome
returns-in_err-judge-clause-outcome c =
    let e : told c.from_residual.result then passed ≡ refused (told_refusal c.in_err-judge.field-0.0) = search rules in
    e ∙ c.in_err-judge.ensures

pub invariant_of-work_levels : goal.invariant_of-work_levels
invariant_of-work_levels c = record { form = accepted_form c.args.table (viewable_accepted c.args.table (sym c.in_ok-judge.ensures)); few = omega arith }

pub returns-clause-distance : goal.returns-clause-distance
returns-clause-distance c = distance_told c.args.table _ c.work_levels-pixels.ensures.bound

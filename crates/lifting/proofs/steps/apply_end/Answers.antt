-- `lifting::steps::apply_end` meets its contract: in each arm the step is the one that the arm takes, or the one that this stands for.
use mathlib.Core.Path.{ap, ◌∙◌}
use native.Mathlib.Omega.{arith}
use borrow.Author.Rules.{rules}
use mir.Syntax.{w32, w64}
use Rattle.lifting.specs.Steps.{Safe}
use Rattle.slices.specs.Runs.{as_type}
use Rattle.slices.specs.SignedRuns.{got}
use Rattle.lifting.specs.Ends.{unbiased, unbiased_is, unbiased_safe}
use Rattle.lifting.proofs.Read.{safe_back, ended_back, scaled_as, scaled_back, cut_as, cut_back}
use Rattle.lifting.proofs.steps.apply_end.Goals as goal

pub predicted_end-requires : goal.predicted_end-requires
predicted_end-requires c = safe_back w32 c.ranges.own c.ranges.x c.ranges.x c.in-Predict.is c.requires

pub updated_end-requires : goal.updated_end-requires
updated_end-requires c = safe_back w32 c.ranges.own c.ranges.x c.ranges.x c.in-Update.is c.requires

pub inverse_predicted_end-requires : goal.inverse_predicted_end-requires
inverse_predicted_end-requires c = safe_back w32 c.ranges.own c.ranges.x c.ranges.x c.in-InversePredict.is c.requires

pub inverse_updated_end-requires : goal.inverse_updated_end-requires
inverse_updated_end-requires c = safe_back w32 c.ranges.own c.ranges.x c.ranges.x c.in-InverseUpdate.is c.requires

pub scaled_end-requires : goal.scaled_end-requires
scaled_end-requires c = safe_back w32 c.ranges.own c.ranges.x c.ranges.x (scaled_back (search rules) c.in-Scaled.is) c.requires

pub overflow_add-cut : goal.overflow_add-cut
overflow_add-cut c =
    let h = as_type (λ u. Safe (c.in-Separate.is u) c.args.own c.args.x c.args.x) c.requires in
    omega (arith, h.short, h.steep)

pub scaled_end-requires-in-Separate : goal.scaled_end-requires-in-Separate
scaled_end-requires-in-Separate c =
    safe_back w32 c.ranges.own c.ranges.x c.ranges.x (scaled_as (got w64 c.signed_of.type_inv c.signed_of.ensures) (ap unbiased c.in-Separate.is))
    (unbiased_safe c.args.step c.args.own c.args.x c.args.x c.ranges.own c.requires)

pub scaled_end-requires-in-Combined : goal.scaled_end-requires-in-Combined
scaled_end-requires-in-Combined c =
    safe_back w32 c.ranges.own c.ranges.x c.ranges.x (scaled_as (got w64 c.signed_of-in-Combined.type_inv c.signed_of-in-Combined.ensures) (ap unbiased c.in-Combined.is))
    (unbiased_safe c.args.step c.args.own c.args.x c.args.x c.ranges.own c.requires)

pub cut_end-requires : goal.cut_end-requires
cut_end-requires c = safe_back w32 c.ranges.own c.ranges.x c.ranges.x (cut_back (search rules) c.in-Cut.is) c.requires

pub cut_end-requires-in-BiasedCut : goal.cut_end-requires-in-BiasedCut
cut_end-requires-in-BiasedCut c =
    safe_back w32 c.ranges.own c.ranges.x c.ranges.x (cut_as (got w64 c.signed_of-in-BiasedCut.type_inv c.signed_of-in-BiasedCut.ensures) (ap unbiased c.in-BiasedCut.is))
    (unbiased_safe c.args.step c.args.own c.args.x c.args.x c.ranges.own c.requires)

pub returns-in-Predict : goal.returns-in-Predict
returns-in-Predict c = ended_back w32 c.ranges.own c.ranges.x c.in-Predict.is c.predicted_end.type_inv c.predicted_end.ensures

pub returns-in-Update : goal.returns-in-Update
returns-in-Update c = ended_back w32 c.ranges.own c.ranges.x c.in-Update.is c.updated_end.type_inv c.updated_end.ensures

pub returns-in-InversePredict : goal.returns-in-InversePredict
returns-in-InversePredict c = ended_back w32 c.ranges.own c.ranges.x c.in-InversePredict.is c.inverse_predicted_end.type_inv c.inverse_predicted_end.ensures

pub returns-in-InverseUpdate : goal.returns-in-InverseUpdate
returns-in-InverseUpdate c = ended_back w32 c.ranges.own c.ranges.x c.in-InverseUpdate.is c.inverse_updated_end.type_inv c.inverse_updated_end.ensures

pub returns-in-Scaled : goal.returns-in-Scaled
returns-in-Scaled c = ended_back w32 c.ranges.own c.ranges.x (scaled_back (search rules) c.in-Scaled.is) c.scaled_end.type_inv c.scaled_end.ensures

pub returns-in-Separate : goal.returns-in-Separate
returns-in-Separate c =
    ended_back w32 c.ranges.own c.ranges.x (scaled_as (got w64 c.signed_of.type_inv c.signed_of.ensures) (ap unbiased c.in-Separate.is)) c.scaled_end-in-Separate.type_inv c.scaled_end-in-Separate.ensures
    ∙ unbiased_is c.args.step c.args.own c.args.x

pub returns-in-Combined : goal.returns-in-Combined
returns-in-Combined c =
    ended_back w32 c.ranges.own c.ranges.x (scaled_as (got w64 c.signed_of-in-Combined.type_inv c.signed_of-in-Combined.ensures) (ap unbiased c.in-Combined.is)) c.scaled_end-in-Combined.type_inv c.scaled_end-in-Combined.ensures
    ∙ unbiased_is c.args.step c.args.own c.args.x

pub returns-in-Cut : goal.returns-in-Cut
returns-in-Cut c = ended_back w32 c.ranges.own c.ranges.x (cut_back (search rules) c.in-Cut.is) c.cut_end.type_inv c.cut_end.ensures

pub returns-in-BiasedCut : goal.returns-in-BiasedCut
returns-in-BiasedCut c =
    ended_back w32 c.ranges.own c.ranges.x (cut_as (got w64 c.signed_of-in-BiasedCut.type_inv c.signed_of-in-BiasedCut.ensures) (ap unbiased c.in-BiasedCut.is)) c.cut_end-in-BiasedCut.type_inv c.cut_end-in-BiasedCut.ensures
    ∙ unbiased_is c.args.step c.args.own c.args.x

use mathlib.Core.Path.{◌≡◌, sym, ◌∙◌}
use Rattle.std.proofs.Common.{rules}
use Rattle.refusals.specs.Answers.{passed, refused, ◌then◌}
use Rattle.refusals.specs.Told.{told, told_refusal}
use Rattle.precision.specs.OrderLaws.{level_refuses, pass_refuses, node_answers}
use Rattle.precision.proofs.bound_in.Goals as goal

pub returns-in_err-entering-clause-outcome : goal.returns-in_err-entering-clause-outcome
returns-in_err-entering-clause-outcome c =
    let e : told c.from_residual.result then passed ≡ refused (told_refusal c.in_err-entering.field-0.0) = search rules in
    e ∙ sym (level_refuses c.requires.at c.args.node c.requires.node _ (sym c.in_err-entering.ensures.outcome))

pub returns-in_err-input-clause-outcome : goal.returns-in_err-input-clause-outcome
returns-in_err-input-clause-outcome c =
    let e : told c.from_residual-in_err-input.result then passed ≡ refused (told_refusal c.in_err-input.field-0.0) = search rules in
    e ∙ sym (pass_refuses c.requires.at c.args.node c.requires.node (sym c.in_ok-entering.ensures.outcome) _ (sym c.in_err-input.ensures.outcome))

pub returns-in_err-judge_nodes-clause-outcome : goal.returns-in_err-judge_nodes-clause-outcome
returns-in_err-judge_nodes-clause-outcome c =
    let e : told c.from_residual-in_err-judge_nodes.result then passed ≡ refused (told_refusal c.in_err-judge_nodes.field-0.0) = search rules in
    e ∙ sym (node_answers c.requires.at c.args.node c.requires.node (sym c.in_ok-entering.ensures.outcome) _ (sym c.in_ok-input.ensures.outcome) (sym c.in_err-judge_nodes.ensures))

pub returns-clause-outcome : goal.returns-clause-outcome
returns-clause-outcome c = sym (node_answers c.requires.at c.args.node c.requires.node (sym c.in_ok-entering.ensures.outcome) _ (sym c.in_ok-input.ensures.outcome) (sym c.in_ok-judge_nodes.ensures))

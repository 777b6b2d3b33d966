use Rattle.std.proofs.Common.{rules, ◌≡◌, refl, sym, ◌∙◌}
use Rattle.std.proofs.lemmas.Result.{IfOk-at_ok}
use Rattle.stages.specs.Rule.{Bound}
use Rattle.refusals.specs.Answers.{Answer, refused}
use Rattle.refusals.specs.AnswerLaws.{answered_refused}
use Rattle.refusals.specs.Told.{told_refusal, told}
use Rattle.width_table.specs.declared.WidthTable.{WidthTable}
use Rattle.precision.specs.BoundCalls.{bound_answer, bound_numbered, range_told, error_told}
use Rattle.bounds_rule.specs.declared.Bound.{Bound as CodeBound}
use Rattle.table_calls.specs.CallLaws.{unread, unread_if_done, read, read_if_done}
use Rattle.engine.specs.AnswerLaws.{own_refused, own_done}
use Rattle.engine.specs.Answers.{table_bound_answer, range_after, error_after}
use Rattle.engine.proofs.bound_written.Goals as goal

pub returns-in_err-read : goal.returns-in_err-read
unfolding table_bound_answer range_after error_after
returns-in_err-read c =
    let told_is : told c.from_residual.result ≡ refused (told_refusal c.in_err-read.field-0.0) = search rules in
    let r = c.read.ensures in
    let e = c.in_err-read.was in
    record { answer = told_is ∙ unread _ (r.outcome, r.table) e _; range = unread_if_done _ (r.outcome, r.table) e _ _ _; error = unread_if_done _ (r.outcome, r.table) e _ _ _ }

pub returns-in_err-bound : goal.returns-in_err-bound
unfolding table_bound_answer range_after error_after
returns-in_err-bound c =
    let told_is : told c.from_residual-in_err-bound.result ≡ refused (told_refusal c.in_err-bound.field-0.0) = search rules in
    let a = c.args in
    let r = c.read.ensures in
    let none = read _ (r.outcome, r.table) c.in_ok-read.was (λ (t : WidthTable). bound_answer t a.level a.pass a.node) (own_refused c.bound_of.ensures.outcome c.in_err-bound.was) in
    record { answer = told_is ∙ none; range = sym (answered_refused _ _ (sym none)); error = sym (answered_refused _ _ (sym none)) }

pub returns : goal.returns
unfolding table_bound_answer range_after error_after
returns c =
    let a = c.args in
    let r = c.read.ensures in
    let e = c.in_ok-read.was in
    let b = c.bound_of.ensures in
    let own : WidthTable → Answer Unit = λ t. bound_answer t a.level a.pass a.node in
    let bound : WidthTable → Bound = λ t. bound_numbered t a.level a.pass a.node in
    let done = own_done b.outcome c.in_ok-bound.was in
    record {
      answer = read _ (r.outcome, r.table) e own done;
      range = read_if_done _ (r.outcome, r.table) e own (λ (t : WidthTable). (bound t).range) 0 _ done (IfOk-at_ok (λ (b : CodeBound). b.range ≡ range_told _ a.level a.pass a.node) c.in_ok-bound.was b.range) refl;
      error = read_if_done _ (r.outcome, r.table) e own (λ (t : WidthTable). (bound t).error) 0 _ done (IfOk-at_ok (λ (b : CodeBound). b.error ≡ error_told _ a.level a.pass a.node) c.in_ok-bound.was b.error) refl;
    }

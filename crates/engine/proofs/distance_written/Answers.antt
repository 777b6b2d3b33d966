use Rattle.std.proofs.Common.{rules, ◌≡◌, sym, ◌∙◌, ap, ℕ}
use Rattle.std.proofs.lemmas.Result.{IfOk-at_ok}
use Rattle.refusals.specs.Answers.{refused}
use Rattle.refusals.specs.AnswerLaws.{answered_done, answered_refused}
use Rattle.refusals.specs.Told.{told_refusal, told}
use Rattle.view_precision.specs.Bounds.{view_verdict, view_distance}
use Rattle.table_calls.specs.CallLaws.{unread, unread_if_done, table_held, read}
use Rattle.engine.specs.AnswerLaws.{own_refused, own_done}
use Rattle.engine.specs.Answers.{view_check_answer, distance_after}
use Rattle.engine.proofs.distance_written.Goals as goal

pub returns-in_err-read : goal.returns-in_err-read
unfolding view_check_answer distance_after
returns-in_err-read c =
    let told_is : told c.from_residual.result ≡ refused (told_refusal c.in_err-read.field-0.0) = search rules in
    let r = c.read.ensures in
    let e = c.in_err-read.was in
    record { answer = told_is ∙ unread _ (r.outcome, r.table) e _; distance = unread_if_done _ (r.outcome, r.table) e _ _ _ }

pub returns-in_err-distance : goal.returns-in_err-distance
unfolding view_check_answer distance_after
returns-in_err-distance c =
    let told_is : told c.from_residual-in_err-distance.result ≡ refused (told_refusal c.in_err-distance.field-0.0) = search rules in
    let r = c.read.ensures in
    let none = read _ (r.outcome, r.table) c.in_ok-read.was view_verdict (own_refused c.distance.ensures.outcome c.in_err-distance.was) in
    record { answer = told_is ∙ none; distance = sym (answered_refused _ _ (sym none)) }

pub returns : goal.returns
unfolding view_check_answer distance_after
returns c =
    let r = c.read.ensures in
    let e = c.in_ok-read.was in
    let done = read _ (r.outcome, r.table) e view_verdict (own_done c.distance.ensures.outcome c.in_ok-distance.was) in
    record {
      answer = done;
      distance =
          IfOk-at_ok (λ (d : ℕ). d ≡ view_distance _) c.in_ok-distance.was c.distance.ensures.distance
          ∙ ap view_distance (table_held _ (r.outcome, r.table) e)
          ∙ sym (answered_done _ _ (sym done));
    }

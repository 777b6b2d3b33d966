use Rattle.std.proofs.Common.{rules, ◌≡◌, ◌∙◌, ap, of_calls}
use Rattle.std.specs.Prelude.{Err}
use Rattle.std.specs.Result.{MatchResult}
use Rattle.refusals.specs.Answers.{code}
use Rattle.refusals.specs.Told.{told}
use Rattle.view_precision.specs.Bounds.{view_verdict}
use Rattle.engine.specs.AnswerLaws.{read_then}
use Rattle.engine.specs.Answers.{view_check_answer}
use Rattle.engine.proofs.suz_table_view.Goals as goal

pub returns : goal.returns
unfolding view_check_answer
returns c =
    let r = c.read.ensures in
    let e : MatchResult c.read.result (λ t. told c.and_then.result ≡ view_verdict t) (λ why. c.and_then.result ≡ Err why) = search (rules, of_calls) in
    c.code.ensures ∙ ap code (read_then _ _ (r.outcome, r.table) view_verdict _ e)

use Rattle.std.proofs.Common.{rules, ◌≡◌, sym, ◌∙◌, ap}
use Rattle.refusals.specs.Answers.{refused}
use Rattle.refusals.specs.Told.{told_refusal, told}
use Rattle.engine.specs.AnswerLaws.{write_done, write_refused}
use Rattle.engine.proofs.table_written.Goals as goal

pub returns-in_err-write-clause-answer : goal.returns-in_err-write-clause-answer
returns-in_err-write-clause-answer c =
    let a = c.args in
    let e : told c.from_residual.result ≡ refused (told_refusal c.in_err-write.field-0.0) = search rules in
    e ∙ sym (write_refused a.table a.out.now _ (sym c.write.ensures.answer ∙ ap told c.in_err-write.was))

pub returns-clause-answer : goal.returns-clause-answer
returns-clause-answer c =
    let a = c.args in
    sym (write_done a.table a.out.now _ (sym c.write.ensures.answer ∙ ap told c.in_ok-write.was))

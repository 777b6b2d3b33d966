use Rattle.std.proofs.Common.{◌≡◌, ◌∙◌, sym, arith, rules}
use Rattle.std.proofs.lemmas.Grind.{common_steps}
use Rattle.refusals.specs.Answers.{passed, refused}
use Rattle.refusals.specs.AnswerLaws.{answered_done, answered_refused}
use Rattle.refusals.specs.Told.{told_refusal}
use Rattle.width_table.specs.Changes.{constant_answer, with_constant, table_after_constant}
use Rattle.width_table.specs.Told.{table_back}
use Rattle.width_table.proofs.WidthTable.with_constant.Goals as goal

pub returns-in_err-takes-clause-outcome : goal.returns-in_err-takes-clause-outcome
unfolding constant_answer
returns-in_err-takes-clause-outcome c = grind (arith, common_steps)

pub returns-in_err-takes-clause-table : goal.returns-in_err-takes-clause-table
unfolding constant_answer table_after_constant
returns-in_err-takes-clause-table c =
    let a = c.args in
    let not_taken : constant_answer a.self a.node a.bits ≡ refused (told_refusal c.in_err-takes.field-0.0.why) = grind (arith, common_steps) in
    let back : table_back c.from_residual.result ≡ a.self = search rules in
    back ∙ sym (answered_refused (with_constant a.self a.node a.bits) a.self not_taken)

pub returns-clause-outcome : goal.returns-clause-outcome
unfolding constant_answer
returns-clause-outcome c = grind (arith, common_steps)

pub returns-clause-table : goal.returns-clause-table
unfolding constant_answer table_after_constant
returns-clause-table c =
    let a = c.args in
    let taken : constant_answer a.self a.node a.bits ≡ passed = grind (arith, common_steps) in
    sym (answered_done (with_constant a.self a.node a.bits) a.self taken)

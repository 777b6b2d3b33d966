-- `rolling::end` meets its contract: the answer, and then the work.
use Rattle.std.proofs.Common.{sym, ◌∙◌, ap}
use Rattle.refusals.specs.Told.{told}
use Rattle.rolling.specs.AnswerLaws.{end_right, end_worked}
use Rattle.rolling.proofs.end.Goals as goal

pub work_end-lines-requires : goal.work_end-lines-requires
work_end-lines-requires c =
    let a = c.args in
    end_right a.scan.now a.held.now a.out.now (sym c.end_answer.ensures ∙ ap told c.in_ok-end_answer.was)

pub returns : goal.returns
returns c =
    let a = c.args in
    end_worked a.scan.now a.held.now a.out.now (sym c.end_answer.ensures ∙ ap told c.in_ok-end_answer.was)
    c.work_end-lines.ensures.count c.work_end-lines.ensures.work

-- `rolling::line` meets its contract: the answer, and then the work.
use Rattle.std.proofs.Common.{sym, ◌∙◌, ap}
use Rattle.refusals.specs.Told.{told}
use Rattle.rolling.specs.AnswerLaws.{line_right, line_worked}
use Rattle.rolling.proofs.line.Goals as goal

pub work_line-lines-requires : goal.work_line-lines-requires
work_line-lines-requires c =
    let a = c.args in
    line_right a.scan.now a.pixels.now a.w a.held.now a.out.now (sym c.line_answer.ensures ∙ ap told c.in_ok-line_answer.was)

pub returns : goal.returns
returns c =
    let a = c.args in
    line_worked a.scan.now a.pixels.now a.w a.held.now a.out.now (sym c.line_answer.ensures ∙ ap told c.in_ok-line_answer.was)
    c.work_line-lines.ensures.count c.next-scan.ensures c.work_line-lines.ensures.work

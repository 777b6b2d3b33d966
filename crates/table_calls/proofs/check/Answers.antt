use Rattle.std.proofs.Common.{rules}
use Rattle.precision.specs.Verdict.{verdict}
use Rattle.table_bytes.specs.Bytes.{table_in}
use Rattle.table_calls.specs.Calls.{check_answer}
use Rattle.table_calls.specs.CallLaws.{unread, read}
use Rattle.table_calls.proofs.check.Goals as goal

pub returns-in_err-read : goal.returns-in_err-read
unfolding check_answer
returns-in_err-read c =
    let v = c.read.ensures in
    let r = unread _ (v.outcome, v.table) c.in_err-read.was (verdict (table_in c.args.table.now)) in
    search rules

pub returns : goal.returns
unfolding check_answer
returns c =
    let v = c.read.ensures in
    read _ (v.outcome, v.table) c.in_ok-read.was verdict c.judge.ensures

use Rattle.std.proofs.Common.{rules, ◌≡◌, sym, ◌∙◌, ap, arith}
use Rattle.std.proofs.lemmas.Result.{IfOk-at_ok}
use Rattle.refusals.specs.Answers.{refused}
use Rattle.refusals.specs.Told.{told_refusal, told}
use Rattle.rolling.specs.declared.Scan.{Scan}
use Rattle.rolling.specs.Calls.{begin_answer, scan_of}
use Rattle.scan_bytes.specs.ScanBytes.{state_after}
use Rattle.table_calls.specs.CallLaws.{unread, table_held, read}
use Rattle.engine.specs.AnswerLaws.{own_refused, own_done}
use Rattle.engine.specs.ScanAnswers.{begins, scan_begin_answer, scan_begin_state}
use Rattle.engine.specs.ScanLaws.{roomy, not_roomy, is_roomy, begin_refused, begin_done}
use Rattle.engine.proofs.scan_begun.Goals.{In_ok-scan}
use Rattle.engine.proofs.scan_begun.Goals as goal

pub returns-in_err-read : goal.returns-in_err-read
unfolding begins
returns-in_err-read c =
    let told_is : told c.from_residual.result ≡ refused (told_refusal c.in_err-read.field-0.0) = search rules in
    let a = c.args in
    let r = c.read.ensures in
    let none = begin_refused a.table.now a.state.now (sym (unread _ (r.outcome, r.table) c.in_err-read.was _)) in
    record { answer = told_is ∙ sym none.0; state = sym none.1 }

pub returns-in_err-scan : goal.returns-in_err-scan
unfolding begins
returns-in_err-scan c =
    let told_is : told c.from_residual-in_err-scan.result ≡ refused (told_refusal c.in_err-scan.field-0.0) = search rules in
    let a = c.args in
    let r = c.read.ensures in
    let none = begin_refused a.table.now a.state.now (sym (read _ (r.outcome, r.table) c.in_ok-read.was begin_answer (own_refused c.begin.ensures.outcome c.in_err-scan.was))) in
    record { answer = told_is ∙ sym none.0; state = sym none.1 }

-- what a scan that begins leaves, whether there is room for it or not
begun : (c : In_ok-scan) → (scan_begin_answer c.args.table.now c.args.state.now ≡ roomy c.args.state.now) × (state_after c.in_ok-scan.scan c.args.state.now ≡ scan_begin_state c.args.table.now c.args.state.now)
unfolding begins
begun c =
    let r = c.read.ensures in
    let b = c.begin.ensures in
    let e = c.in_ok-read.was in
    let was = c.in_ok-scan.was in
    begin_done _ _ (sym (read _ (r.outcome, r.table) e begin_answer (own_done b.outcome was))) (IfOk-at_ok (λ (s : Scan). s ≡ scan_of _) was b.scan ∙ ap scan_of (table_held _ (r.outcome, r.table) e))

pub returns-then-state-lt-SCAN_LENGTH : goal.returns-then-state-lt-SCAN_LENGTH
returns-then-state-lt-SCAN_LENGTH c =
    let b = begun (goal.at.returns-then-state-lt-SCAN_LENGTH c).In_ok-scan in
    record { answer = sym (b.0 ∙ not_roomy c.args.state.now (omega (arith, c.if-state-lt-SCAN_LENGTH.true))); state = c.write.ensures ∙ b.1 }

pub returns : goal.returns
returns c =
    let b = begun (goal.at.returns c).In_ok-scan in
    record { answer = sym (b.0 ∙ is_roomy c.args.state.now (omega (arith, c.if-state-lt-SCAN_LENGTH.false))); state = c.write.ensures ∙ b.1 }

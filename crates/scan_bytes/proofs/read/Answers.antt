-- `scan_bytes::read` meets its contract.
use Rattle.std.proofs.Common.{rules, tests, ◌≡◌, ◌-◌, List, ℕ, arith, sym, ap, ◌∙◌, take, drop, true, false}
use Rattle.std.proofs.Math.Dec.{eqb}
use Rattle.std.proofs.lemmas.Iterator.{YieldsList-from_slice}
use Rattle.std.proofs.lemmas.Iterator.Search.{all_from_yields_List}
use Rattle.numbers.specs.Tests.{every}
use Rattle.refusals.specs.Answers.{done, passed}
use Rattle.width_table.specs.declared.WidthTable.{WidthTable}
use Rattle.table_bytes.specs.Bytes.{form, table_read}
use Rattle.table_bytes.specs.ReadLaws.{table_read_lem}
use Rattle.rolling.specs.declared.Scan.{Scan}
use Rattle.scan_bytes.specs.ScanBytes.{table_room, table_end, held_with, scan_held}
use Rattle.scan_bytes.specs.ByteLaws.{left_looked, not_padded, found, scan_read_lem, all_zeros}
use Rattle.scan_bytes.proofs.read.Goals as goal

pub returns-then-not-all-clause-answer : goal.returns-then-not-all-clause-answer
returns-then-not-all-clause-answer c =
    let b = c.args.state.now in
    let looked : c.all.result ≡ every (eqb 0) (drop (table_end b) (take table_room b)) =
    all_from_yields_List (λ n. eqb n 0) _ _ c.all.result c.all.ensures.ran (YieldsList-from_slice (take (table_room - c.table_end-end.result) (drop c.table_end-end.result b)) c.iter.ensures.rest) (λ x r q k. search (rules, tests)) ∙ all_zeros _ ∙ left_looked b _ c.table_end-end.ensures (omega arith) in
    sym (not_padded b (omega arith) (sym looked ∙ c.if-not-all.true))

-- the table that is read is the one in the bytes
module _ (b : List ℕ) (n : ℕ) (ends : n ≡ table_end b) where
  right_lem : passed ≡ form (take n b) → form (take (table_end b) b) ≡ passed
  right_lem e = ap (λ (n : ℕ). form (take n b)) (sym ends) ∙ sym e

  table_lem : {t : WidthTable} → form (take (table_end b) b) ≡ passed → t ≡ table_read (take n b) → {s : Scan} → s ≡ held_with t b → s ≡ scan_held b
  table_lem right e is = is ∙ ap (λ (t : WidthTable). held_with t b) (e ∙ ap (λ (n : ℕ). table_read (take n b)) ends ∙ table_read_lem (take (table_end b) b) right)

pub returns-clause-answer : goal.returns-clause-answer
returns-clause-answer c =
    let b = c.args.state.now in
    let looked : c.all.result ≡ every (eqb 0) (drop (table_end b) (take table_room b)) =
    all_from_yields_List (λ n. eqb n 0) _ _ c.all.result c.all.ensures.ran (YieldsList-from_slice (take (table_room - c.table_end-end.result) (drop c.table_end-end.result b)) c.iter.ensures.rest) (λ x r q k. search (rules, tests)) ∙ all_zeros _ ∙ left_looked b _ c.table_end-end.ensures (omega arith) in
    let right = right_lem b _ c.table_end-end.ensures c.in-Ok.ensures.outcome in
    ap done (table_lem b _ c.table_end-end.ensures right c.in-Ok.ensures.table c.scan_held.ensures) ∙ sym (found b (omega arith) (omega arith) (omega arith) (sym looked ∙ c.if-not-all.false) right)

pub returns-clause-scan : goal.returns-clause-scan
returns-clause-scan c =
    let b = c.args.state.now in
    let looked : c.all.result ≡ every (eqb 0) (drop (table_end b) (take table_room b)) =
    all_from_yields_List (λ n. eqb n 0) _ _ c.all.result c.all.ensures.ran (YieldsList-from_slice (take (table_room - c.table_end-end.result) (drop c.table_end-end.result b)) c.iter.ensures.rest) (λ x r q k. search (rules, tests)) ∙ all_zeros _ ∙ left_looked b _ c.table_end-end.ensures (omega arith) in
    let right = right_lem b _ c.table_end-end.ensures c.in-Ok.ensures.outcome in
    table_lem b _ c.table_end-end.ensures right c.in-Ok.ensures.table c.scan_held.ensures ∙ sym (scan_read_lem b (found b (omega arith) (omega arith) (omega arith) (sym looked ∙ c.if-not-all.false) right))

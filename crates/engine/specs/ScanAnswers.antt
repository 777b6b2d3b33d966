-- The calls of a rolling scan in the C interface (document 02, job 5): the scan is bytes of the caller. Answers, and each lent slice
-- afterwards.
use Rattle.std.specs.Prelude.{ℕ, List, leb, length, ℤ}
use Rattle.numbers.specs.Lists.{over}
use Rattle.refusals.specs.Answers.{Answer, done, refused, passed, asks, ◌then◌, answered}
use Rattle.table_bytes.specs.Bytes.{table_in}
use Rattle.rolling.specs.Calls.{begin_answer, scan_of, line_answer, given_by_line, scan_after, LineLeft, end_answer, given_by_end, scan_ended, EndLeft}
use Rattle.scan_bytes.specs.ScanBytes.{scan_length, state_bytes, scan_held, scan_in}
use Rattle.table_calls.specs.Calls.{form_then}

-- ---- begin

-- 1 to 5 of the table's bytes, 14, 6 and 7
unfoldable pub begins : List ℕ → Answer Unit
begins bytes = form_then bytes begin_answer

-- and 9 for the state
unfoldable pub scan_begin_answer : List ℕ → List ℕ → Answer Unit
scan_begin_answer bytes state = begins bytes then asks (leb scan_length (length state)) 9 passed

-- the scan's bytes over the front of the state where it begins; a refusal leaves the state as it was
unfoldable pub scan_begin_state : List ℕ → List ℕ → List ℕ
scan_begin_state bytes state = answered (scan_begin_answer bytes state) (over (state_bytes (scan_of (table_in bytes))) state) state

-- ---- a line

-- A call is one on the scan that the state holds (`scan_held`), where it holds one: 9 for a state too short for a scan, 14 for bytes that are
-- not those of a scan.
module _ (state pixels : List ℕ) (w : ℕ) (held out : List ℤ) where
  -- 9 and 14 for the state, then 14, 8, 9, 10
  unfoldable pub scan_line_answer : Answer Unit
  scan_line_answer = scan_in state then line_answer (scan_held state) pixels w held out

  -- the bytes of the scan after the line over the front of the state where it is accepted; a refusal leaves the state as it was
  unfoldable pub scan_line_state : List ℕ
  scan_line_state = answered scan_line_answer (over (state_bytes (scan_after (scan_held state) pixels w held out)) state) state

  -- the number of lines given where it is accepted; a refusal leaves the number as it was
  unfoldable pub scan_line_given : ℕ → ℕ
  scan_line_given given = answered scan_line_answer (length (given_by_line (scan_held state) pixels w held out)) given

  -- held lines and output afterwards
  abbrev pub ScanLineLeft : List ℤ → List ℤ → Type 0
  ScanLineLeft held' out' = LineLeft (scan_held state) pixels w held out scan_line_answer held' out'

-- ---- the end

module _ (state : List ℕ) (held out : List ℤ) where
  -- 9 and 14 for the state, then 14, 9
  unfoldable pub scan_end_answer : Answer Unit
  scan_end_answer = scan_in state then end_answer (scan_held state) held out

  -- the bytes of the scan that has ended over the front of the state where the end is accepted; a refusal leaves the state as it was
  unfoldable pub scan_end_state : List ℕ
  scan_end_state = answered scan_end_answer (over (state_bytes (scan_ended (scan_held state) held out)) state) state

  -- the number of lines given where it is accepted; a refusal leaves the number as it was
  unfoldable pub scan_end_given : ℕ → ℕ
  scan_end_given given = answered scan_end_answer (length (given_by_end (scan_held state) held out)) given

  -- held lines and output afterwards
  abbrev pub ScanEndLeft : List ℤ → List ℤ → Type 0
  ScanEndLeft held' out' = EndLeft (scan_held state) held out scan_end_answer held' out'

-- ---- for the code

-- the number of lines given, written where a call is done
abbrev pub given_after : Answer ℕ → ℕ → ℕ
given_after (done m) old = m
given_after (refused r) old = old

-- Histories of calls of a rolling scan in the C interface (document 02, jobs 5 and 6): from suz_scan_begin on, with state and held memory
-- handed on as left.
use Rattle.std.specs.Prelude.{ℕ, suc, ◌*◌, true, List, [], ◌++◌, ◌≡◌, take, ℤ}
use Rattle.refusals.specs.Answers.{code}
use Rattle.rolling_claims.specs.Claims.{HandedOn}
use Rattle.scan_bytes.specs.ScanBytes.{scan_length, scan_held}
use Rattle.engine.specs.ScanAnswers.{scan_begin_answer, scan_begin_state, scan_line_answer, scan_line_state, scan_line_given, ScanLineLeft, scan_end_answer, scan_end_state, scan_end_given, ScanEndLeft}

-- A state handed on as left: its own bytes are the same. What else the slice has, and which memory it is, is the caller's.
abbrev pub StateHandedOn : List ℕ → List ℕ → Type 0
StateHandedOn left now = take scan_length now ≡ take scan_length left

-- Held memory handed on as left: the seven lines, of the width that the state holds, hold the same.
abbrev pub HeldHandedOn : List ℕ → List ℤ → List ℤ → Type 0
HeldHandedOn state left lent = HandedOn (scan_held state) left lent

-- The calls of one scan under a table's bytes, any of them refused: the state and the held memory as left, the number of lines accepted,
-- their pixels row by row, and all that was given out. A refused call may be lent any held memory. The state has the width of the lines.
pub data ByteCalls (bytes : List ℕ) : List ℕ → List ℤ → ℕ → List ℕ → List ℤ → Type 0 where
  c_begun : (state : List ℕ) (held : List ℤ) → code (scan_begin_answer bytes state) ≡ 0 → ByteCalls bytes (scan_begin_state bytes state) held 0 [] []
  c_line : {state : List ℕ} {held held' : List ℤ} {n : ℕ} {strip : List ℕ} {all out' : List ℤ} (now pixels : List ℕ) (w : ℕ) (lent out : List ℤ) (given : ℕ)
      → ByteCalls bytes state held n strip all → StateHandedOn state now → HeldHandedOn state held lent
      → code (scan_line_answer now pixels w lent out) ≡ 0 → ScanLineLeft now pixels w lent out held' out'
      → ByteCalls bytes (scan_line_state now pixels w lent out) held' (suc n) (strip ++ take w pixels) (all ++ take (scan_line_given now pixels w lent out given * w) out')
  c_line_refused : {state : List ℕ} {held : List ℤ} {n : ℕ} {strip : List ℕ} {all : List ℤ} (now pixels : List ℕ) (w : ℕ) (other out : List ℤ)
      → ByteCalls bytes state held n strip all → StateHandedOn state now
      → ¬ (code (scan_line_answer now pixels w other out) ≡ 0)
      → ByteCalls bytes (scan_line_state now pixels w other out) held n strip all
  c_end : {state : List ℕ} {held held' : List ℤ} {n : ℕ} {strip : List ℕ} {all out' : List ℤ} (now : List ℕ) (lent out : List ℤ) (given : ℕ)
      → ByteCalls bytes state held n strip all → StateHandedOn state now → HeldHandedOn state held lent
      → code (scan_end_answer now lent out) ≡ 0 → ScanEndLeft now lent out held' out'
      → ByteCalls bytes (scan_end_state now lent out) held' n strip (all ++ take (scan_end_given now lent out given * (scan_held state).width) out')
  c_end_refused : {state : List ℕ} {held : List ℤ} {n : ℕ} {strip : List ℕ} {all : List ℤ} (now : List ℕ) (other out : List ℤ)
      → ByteCalls bytes state held n strip all → StateHandedOn state now
      → ¬ (code (scan_end_answer now other out) ≡ 0)
      → ByteCalls bytes (scan_end_state now other out) held n strip all

-- a state that calls left
pub record LeftState (state : List ℕ) : Type 0 where
  pub table : List ℕ
  pub held : List ℤ
  pub lines : ℕ
  pub strip : List ℕ
  pub all : List ℤ
  pub calls : ByteCalls table state held lines strip all

-- n lines accepted, and then the end
pub record FinishedByteScan (bytes : List ℕ) (n : ℕ) (strip : List ℕ) : Type 0 where
  pub state : List ℕ
  pub held : List ℤ
  pub all : List ℤ
  pub calls : ByteCalls bytes state held n strip all
  pub ended : (scan_held state).ended ≡ true

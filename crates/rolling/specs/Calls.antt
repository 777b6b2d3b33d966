-- The calls of a rolling scan (document 02, job 5): the answer, the scan and each lent slice afterwards.
use Rattle.std.specs.Prelude.{ℕ, ◌*◌, Bool, true, false, not, ◌&&◌, ◌||◌, cond, List, ◌≡◌, T, eqb, length, ℤ}
use Rattle.refusals.specs.Answers.{Reason, Answer, done, refused, passed, asks, ◌then◌, answered}
use Rattle.width_table.specs.Nodes.{Rows}
use Rattle.width_table.specs.declared.WidthTable.{WidthTable}
use Rattle.pictures.specs.Pictures.{side_right, length_answer, pixel_answer, sample}
use Rattle.precision.specs.Verdict.{verdict}
use Rattle.fixed_stages.specs.Fixed.{fixed_line}
use Rattle.rolling_lines.specs.declared.Taken.{Taken}
use Rattle.rolling_lines.specs.declared.Taken.TheVariants.{Zero}
use Rattle.rolling.specs.declared.Scan.{Scan}
use Rattle.rolling_lines.specs.LentLines.{held_lines, out_lines, held_in, Sound, SameHeld, KeptFrom, out_after}
use Rattle.rolling_lines.specs.Schedule.{Line, next, any_taken, even_taken, held_after, line_gives, end_gives}

-- ---- begin

-- 14 for a table that is not of one level, then 4, then 6 and 7
unfoldable pub begin_answer : WidthTable → Answer Unit
begin_answer t = asks (eqb t.levels 1) 14 (verdict t)

-- the scan that begins; one that is refused counts as ended
unfoldable pub scan_of : WidthTable → Scan
scan_of t = record { table = t; width = 0; taken = Zero; ended = answered (begin_answer t) false true }

-- The width of a scan: 0 before the first line, then that of the lines, which is admitted.
unfoldable pub line_width_right : Taken → ℕ → Bool
line_width_right k w = cond (any_taken k) (side_right w) (eqb w 0)

-- A scan that goes on: it began and has not ended. (Whatever else is handed over counts as ended: a table with which no scan begins, a
-- width that no scan has after so many lines.)
unfoldable pub goes_on : Scan → Bool
goes_on s = answered (begin_answer s.table) true false && not s.ended && line_width_right s.taken s.width

-- ---- a line

-- The answer reads of held lines and output only their lengths: 14 after the end, or for another width than the first accepted line's; 8;
-- 9; 10.
unfoldable pub line_answer_of : Scan → List ℕ → ℕ → ℕ → ℕ → Answer Unit
line_answer_of s pixels w held out =
    asks (goes_on s && (not (any_taken s.taken) || eqb w s.width)) 14
    (asks (side_right w) 8
    (length_answer w (length pixels) then length_answer (held_lines * w) held then length_answer (out_lines * w) out then
    pixel_answer s.table.depth w 1 pixels))

module _ (s : Scan) (pixels : List ℕ) (w : ℕ) (held out : List ℤ) where
  abbrev pub line_answer : Answer Unit
  line_answer = line_answer_of s pixels w (length held) (length out)

  -- the line worked along its row
  unfoldable pub worked_row : Line
  worked_row = fixed_line s.table 1 Rows w (sample pixels s.table.depth w 0)

  -- the lines that it gives
  unfoldable pub given_by_line : List Line
  given_by_line = line_gives s.table w s.taken (held_in w held) worked_row

  -- the scan after it
  unfoldable pub scan_after : Scan
  scan_after = record { table = s.table; width = w; taken = next s.taken; ended = s.ended }

  -- Held lines and output after a line that is answered so. A refusal leaves both as they were. Else all stays past the seven held lines
  -- and past the lines given; the lines given and held are promised where what the line reads is sound: a low line reads what is held.
  -- Free are the other two of the seven, and where that is not sound, what is held and given.
  pub record LineLeft (answer : Answer Unit) (held' out' : List ℤ) : Type 0 where
    pub refused_kept : (r : Reason) → answer ≡ refused r → (held' ≡ held) × (out' ≡ out)
    pub past_kept : answer ≡ passed → KeptFrom (held_lines * w) held held' × KeptFrom (length given_by_line * w) out out'
    pub works : answer ≡ passed → (T (even_taken s.taken) → Sound s.table w (held_in w held))
        → SameHeld w (held_in w held') (held_after s.table w s.taken (held_in w held) worked_row) × (out' ≡ out_after w given_by_line out)

  -- What a line leaves. The answer counts the lines given.
  pub record LineCall (answer : Answer ℕ) (s' : Scan) (held' out' : List ℤ) : Type 0 where
    pub answer_is : answer ≡ line_answer then done (length given_by_line)
    pub scan_is : s' ≡ answered line_answer scan_after s
    pub left : LineLeft line_answer held' out'

-- ---- the end

-- by the lengths of held lines and output: 14 after the end, or before the first line; 9
unfoldable pub end_answer_of : Scan → ℕ → ℕ → Answer Unit
end_answer_of s held out =
    asks (goes_on s && any_taken s.taken) 14
    (length_answer (held_lines * s.width) held then length_answer (out_lines * s.width) out)

module _ (s : Scan) (held out : List ℤ) where
  abbrev pub end_answer : Answer Unit
  end_answer = end_answer_of s (length held) (length out)

  -- the lines that it gives
  unfoldable pub given_by_end : List Line
  given_by_end = end_gives s.table s.width s.taken (held_in s.width held)

  -- the scan after it
  unfoldable pub scan_ended : Scan
  scan_ended = record { table = s.table; width = s.width; taken = s.taken; ended = true }

  -- Held lines and output after an end that is answered so. A refusal leaves both as they were. Else all stays past the seven held lines
  -- and past the lines given; the lines given are promised where what is held is sound. Free are the seven held lines, and where what was
  -- held is not sound, the lines given.
  pub record EndLeft (answer : Answer Unit) (held' out' : List ℤ) : Type 0 where
    pub refused_kept : (r : Reason) → answer ≡ refused r → (held' ≡ held) × (out' ≡ out)
    pub past_kept : answer ≡ passed → KeptFrom (held_lines * s.width) held held' × KeptFrom (length given_by_end * s.width) out out'
    pub works : answer ≡ passed → Sound s.table s.width (held_in s.width held) → out' ≡ out_after s.width given_by_end out

  -- What an end leaves. The answer counts the lines given.
  pub record EndCall (answer : Answer ℕ) (s' : Scan) (held' out' : List ℤ) : Type 0 where
    pub answer_is : answer ≡ end_answer then done (length given_by_end)
    pub scan_is : s' ≡ answered end_answer scan_ended s
    pub left : EndLeft end_answer held' out'

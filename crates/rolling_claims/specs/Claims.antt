-- The claim over calls of a rolling scan (document 02, job 5): from the start, with scan and held memory handed on as left.
use Rattle.std.specs.Prelude.{ℕ, suc, ◌+◌, ◌*◌, ◌-◌, ◌/◌, ◌^◌, ◌<◌, ◌≤◌, Bool, true, false, ◌&&◌, List, [], ◌++◌, ◌↔◌, ◌⊎◌, ◌≡◌, T, ltb, length, get_or, take, ℤ, pos}
use Rattle.refusals.specs.Answers.{Reason, done, refused, passed}
use Rattle.lines.specs.Lines.{lows, high_before, interleaved}
use Rattle.lines.specs.Planes.{Plane, row_by_row}
use Rattle.width_table.specs.declared.WidthTable.{WidthTable}
use Rattle.width_table.specs.Table.{integer_bits, fraction_bits}
use Rattle.pictures.specs.Pictures.{sample}
use Rattle.irreversible.specs.Transforms.{fixed_plane}
use Rattle.exact.specs.Picture.{exact_plane}
use Rattle.table_meaning.specs.Subbands.{kept_node, bits_plane}
use Rattle.irreversible.specs.Claims.{Near, LevelInWidth}
use Rattle.table_meaning.specs.NodeWidths.{InNodeWidth}
use Rattle.rolling.specs.declared.Scan.{Scan}
use Rattle.rolling.specs.Calls.{begin_answer, scan_of, line_answer, LineCall, end_answer, EndCall}
use Rattle.rolling_lines.specs.LentLines.{held_lines, held_in, Sound}

-- ---- histories

-- Held memory handed on as left: the seven lines hold the same. What else the slice has, and which memory it is, is the caller's.
-- (Before the first accepted line there is no width, and nothing is asked.)
abbrev pub HandedOn : Scan → List ℤ → List ℤ → Type 0
HandedOn s left lent = take (held_lines * s.width) lent ≡ take (held_lines * s.width) left

-- The calls of one scan under the table t, any of them refused: the scan and the held memory as left, the number of lines accepted,
-- their pixels row by row, and all that was given out. A refused call may be lent any memory.
pub data Calls (t : WidthTable) : Scan → List ℤ → ℕ → List ℕ → List ℤ → Type 0 where
  begun : (held : List ℤ) → begin_answer t ≡ passed → Calls t (scan_of t) held 0 [] []
  line : {s s' : Scan} {held lent held' : List ℤ} {n : ℕ} {strip : List ℕ} {given : List ℤ} {pixels : List ℕ} {w m : ℕ} {out out' : List ℤ}
      → Calls t s held n strip given → HandedOn s held lent → LineCall s pixels w lent out (done m) s' held' out'
      → Calls t s' held' (suc n) (strip ++ take w pixels) (given ++ take (m * w) out')
  line_refused : {s s' : Scan} {held : List ℤ} {n : ℕ} {strip : List ℕ} {given : List ℤ} {pixels : List ℕ} {w : ℕ} {other other' out out' : List ℤ} {r : Reason}
      → Calls t s held n strip given → LineCall s pixels w other out (refused r) s' other' out'
      → Calls t s' held n strip given
  end : {s s' : Scan} {held lent held' : List ℤ} {n : ℕ} {strip : List ℕ} {given : List ℤ} {m : ℕ} {out out' : List ℤ}
      → Calls t s held n strip given → HandedOn s held lent → EndCall s lent out (done m) s' held' out'
      → Calls t s' held' n strip (given ++ take (m * s.width) out')
  end_refused : {s s' : Scan} {held : List ℤ} {n : ℕ} {strip : List ℕ} {given : List ℤ} {other other' out out' : List ℤ} {r : Reason}
      → Calls t s held n strip given → EndCall s other out (refused r) s' other' out'
      → Calls t s' held n strip given

-- a scan that calls left
pub record LeftByCalls (s : Scan) : Type 0 where
  pub held : List ℤ
  pub lines : ℕ
  pub strip : List ℕ
  pub given : List ℤ
  pub calls : Calls s.table s held lines strip given

-- ---- which lines are ready

-- A value of a stage is ready once its own value and its two neighbours are there; n lines have come, and the end was not announced.
module _ (n : ℕ) where
  unfoldable pub ready_p1 : ℕ → Bool
  ready_p1 i = ltb (2 * i + 1) n && ltb (2 * i) n && ltb (2 * i + 2) n

  unfoldable pub ready_u1 : ℕ → Bool
  ready_u1 i = ltb (2 * i) n && ready_p1 (high_before i) && ready_p1 i

  unfoldable pub ready_p2 : ℕ → Bool
  ready_p2 i = ready_p1 i && ready_u1 i && ready_u1 (i + 1)

  unfoldable pub ready_u2 : ℕ → Bool
  ready_u2 i = ready_u1 i && ready_p2 (high_before i) && ready_p2 i

  -- line k of low 0, high 0, low 1, high 1, .. : low i is ready with U2, high i with P2
  unfoldable pub line_ready : ℕ → Bool
  line_ready = interleaved ready_u2 ready_p2

-- how many lines are ready after n lines
abbrev pub ready : ℕ → ℕ
ready n = 2 * ((n - 3) / 2)

-- these and no others
abbrev pub ReadyLines : Type 0
ReadyLines = (n k : ℕ) → (k < ready n) ↔ T (line_ready n k)

-- ---- claims

-- the rows of a one-level plane of h rows in the order low 0, high 0, low 1, high 1, .. (high i is row lows h + i)
unfoldable pub in_turn : {A : Type 0} → ℕ → Plane A → Plane A
in_turn h p = interleaved p (λ i. p (lows h + i))

-- the first k lines, in this order, of the one-level transform of a strip of h lines of w pixels
abbrev pub first_lines : WidthTable → List ℕ → ℕ → ℕ → ℕ → List ℤ
first_lines t strip w h k = row_by_row w k (in_turn h (fixed_plane t strip w h))

-- Before the end, what came out is each line that is ready, and it is the transform's whatever lines follow.
abbrev pub BeforeEnd : Type 0
BeforeEnd =
    (t : WidthTable) (s : Scan) (held : List ℤ) (n : ℕ) (strip : List ℕ) (given : List ℤ) → Calls t s held n strip given → s.ended ≡ false
    → (more : List ℕ) (h : ℕ) → n ≤ h
    → given ≡ first_lines t (strip ++ more) s.width h (ready n)

-- After the end, what came out is the whole transform, for any number of lines from 1 (document 02, job 6).
abbrev pub AfterEnd : Type 0
AfterEnd =
    (t : WidthTable) (s : Scan) (held : List ℤ) (h : ℕ) (strip : List ℕ) (given : List ℤ) → Calls t s held h strip given → s.ended ≡ true
    → (1 ≤ h) × (given ≡ first_lines t strip s.width h h)

-- A line gives what it makes ready, an end what is left; neither gives more than four. (So it is whatever memory they are lent.)
abbrev pub Counts : Type 0
Counts =
    (t : WidthTable) (s : Scan) (held : List ℤ) (n : ℕ) (strip : List ℕ) (given : List ℤ) → Calls t s held n strip given
    → ((pixels : List ℕ) (w m : ℕ) (lent out : List ℤ) (s' : Scan) (lent' out' : List ℤ) → LineCall s pixels w lent out (done m) s' lent' out' → (ready n + m ≡ ready (suc n)) × (m ≤ 4))
    × ((m : ℕ) (lent out : List ℤ) (s' : Scan) (lent' out' : List ℤ) → EndCall s lent out (done m) s' lent' out' → (ready n + m ≡ n) × (m ≤ 4))

-- The first accepted line's width is the scan's, and each later one has it.
abbrev pub OneWidth : Type 0
OneWidth =
    (t : WidthTable) (s : Scan) (held : List ℤ) (n : ℕ) (strip : List ℕ) (given : List ℤ) → Calls t s held n strip given
    → (length strip ≡ n * s.width)
    × ((pixels : List ℕ) (w m : ℕ) (lent out : List ℤ) (s' : Scan) (lent' out' : List ℤ) → LineCall s pixels w lent out (done m) s' lent' out' → (s'.width ≡ w) × (1 ≤ n → w ≡ s.width))

-- 14 comes at the start for a table that is not of one level, and for no other.
abbrev pub BeginFourteen : Type 0
BeginFourteen = (t : WidthTable) → (begin_answer t ≡ refused (14, [])) ↔ ¬ (t.levels ≡ 1)

-- 14 comes for a line after the end or of another width than the first accepted one, for an end after the end or before the first
-- line, and for no other. (n is the true number of lines.)
abbrev pub Fourteen : Type 0
Fourteen =
    (t : WidthTable) (s : Scan) (held : List ℤ) (n : ℕ) (strip : List ℕ) (given : List ℤ) → Calls t s held n strip given
    → ((pixels : List ℕ) (w : ℕ) (other out : List ℤ) → (line_answer s pixels w other out ≡ refused (14, [])) ↔ (T s.ended ⊎ ((1 ≤ n) × ¬ (w ≡ s.width))))
    × ((other out : List ℤ) → (end_answer s other out ≡ refused (14, [])) ↔ (T s.ended ⊎ (n ≡ 0)))

-- A scan that no calls left is answered 14, whatever is lent with it.
abbrev pub ForeignRefused : Type 0
ForeignRefused =
    (s : Scan) → ¬ (LeftByCalls s)
    → ((pixels : List ℕ) (w : ℕ) (held out : List ℤ) → line_answer s pixels w held out ≡ refused (14, []))
    × ((held out : List ℤ) → end_answer s held out ≡ refused (14, []))

-- A refused call changes nothing: scan, held lines and output stay.
abbrev pub RefusedKeeps : Type 0
RefusedKeeps =
    (s : Scan) (held out : List ℤ) (r : Reason) (s' : Scan) (held' out' : List ℤ)
    → ((pixels : List ℕ) (w : ℕ) → LineCall s pixels w held out (refused r) s' held' out' → (s' ≡ s) × (held' ≡ held) × (out' ≡ out))
    × (EndCall s held out (refused r) s' held' out' → (s' ≡ s) × (held' ≡ held) × (out' ≡ out))

-- What a scan left is sound, in whatever memory it is handed on, so that the next call works with it.
abbrev pub SoundLeft : Type 0
SoundLeft =
    (t : WidthTable) (s : Scan) (held : List ℤ) (n : ℕ) (strip : List ℕ) (given : List ℤ) → Calls t s held n strip given → s.ended ≡ false → 1 ≤ n
    → (lent : List ℤ) → HandedOn s held lent
    → Sound t s.width (held_in s.width lent)

-- No value on the way leaves its width, for any number of lines: demand 3's second half.
abbrev pub InWidths : Type 0
InWidths =
    (t : WidthTable) (s : Scan) (held : List ℤ) (n : ℕ) (strip : List ℕ) (given : List ℤ) → Calls t s held n strip given → 1 ≤ n
    → LevelInWidth t 1 s.width n (sample strip t.depth s.width)

-- Demand 3 of lines that came out, the first k of a strip of h lines of w pixels in the order low 0, high 0, low 1, ..: there are k lines,
-- each value lies less than two of its own steps from the exact coefficient, and it is in the width of its kept node.
pub record LinesNear (t : WidthTable) (strip : List ℕ) (w h k : ℕ) (given : List ℤ) : Type 0 where
  pub size : length given ≡ k * w
  pub near : (i c : ℕ) → i < k → c < w
      → Near (get_or given (i * w + c) (pos 0)) (in_turn h (bits_plane t w h) i c) (in_turn h (exact_plane strip t.depth t.levels w h) i c)
  pub in_width_lem : (i c : ℕ) → i < k → c < w
      → let p = in_turn h (kept_node t.levels w h) i c in
      InNodeWidth (integer_bits t p.level p.pass p.node) (fraction_bits t p.level p.pass p.node) (get_or given (i * w + c) (pos 0))

-- Before the end, demand 3 holds of all that came out, whatever lines of the table's depth follow, for any number of them.
abbrev pub NearBeforeEnd : Type 0
NearBeforeEnd =
    (t : WidthTable) (s : Scan) (held : List ℤ) (n : ℕ) (strip : List ℕ) (given : List ℤ) → Calls t s held n strip given → s.ended ≡ false
    → (more : List ℕ) → ((k : ℕ) → get_or more k 0 < 2 ^ t.depth) → (h : ℕ) → n ≤ h
    → LinesNear t (strip ++ more) s.width h (ready n) given

-- After the end, it holds of all that came out, for any number of lines.
abbrev pub NearAfterEnd : Type 0
NearAfterEnd =
    (t : WidthTable) (s : Scan) (held : List ℤ) (h : ℕ) (strip : List ℕ) (given : List ℤ) → Calls t s held h strip given → s.ended ≡ true
    → LinesNear t strip s.width h h given

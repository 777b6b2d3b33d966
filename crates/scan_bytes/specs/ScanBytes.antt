-- A rolling scan as bytes of the caller: its table's bytes, of one level, and zeros to where one with tag 5 ends; the width of its lines,
-- high byte first; the number of lines taken; whether it has ended.
use Rattle.std.specs.Prelude.{ℕ, ◌+◌, ◌*◌, ◌-◌, ◌/◌, ◌%◌, Bool, true, false, ◌&&◌, List, [], ◌∷◌, ◌++◌, leb, ltb, eqb, length, get_or, take, drop, replicate}
use Rattle.numbers.specs.Lists.{over}
use Rattle.numbers.specs.Tests.{every}
use Rattle.refusals.specs.Answers.{Answer, done, asks, answered}
use Rattle.width_table.specs.declared.WidthTable.{WidthTable}
use Rattle.width_table.specs.Table.{form_right}
use Rattle.table_bytes.specs.Fields.{products_tag, table_size}
use Rattle.table_bytes.specs.Bytes.{form, table_in, empty_table, bytes_of_table}
use Rattle.rolling_lines.specs.declared.Taken.{Taken}
use Rattle.rolling_lines.specs.declared.Taken.TheVariants.{Zero, One, Two, Three, Four, OddMany, EvenMany}
use Rattle.rolling.specs.declared.Scan.{Scan}

-- room for a table of one level, with tag 5 or without it: 71 bytes; a scan has 75
abbrev pub table_room : ℕ
table_room = table_size true 1

abbrev pub scan_length : ℕ
scan_length = table_room + 4

-- ---- the bytes of a scan

-- lines taken: 0 to 4, 5 for an odd number above four, 6 for an even one
abbrev pub taken_number : Taken → ℕ
taken_number Zero = 0
taken_number One = 1
taken_number Two = 2
taken_number Three = 3
taken_number Four = 4
taken_number OddMany = 5
taken_number EvenMany = 6

-- 1 once it has ended
abbrev pub ended_number : Bool → ℕ
ended_number true = 1
ended_number false = 0

-- the width, high byte first; lines taken; whether it has ended
abbrev pub numbers_of : ℕ → Taken → Bool → List ℕ
numbers_of w k ended = w / 256 ∷ w % 256 ∷ taken_number k ∷ ended_number ended ∷ []

abbrev pub number_bytes : Scan → List ℕ
number_bytes s = numbers_of s.width s.taken s.ended

-- a table's bytes, with zeros in the room that they leave
unfoldable pub room_bytes : WidthTable → List ℕ
room_bytes t = bytes_of_table t ++ replicate (table_room - table_size t.has_products 1) 0

-- all bytes of a scan
unfoldable pub state_bytes : Scan → List ℕ
state_bytes s = room_bytes s.table ++ number_bytes s

-- a scan that bytes can hold: its table has a right form and one level, its width has two bytes
unfoldable pub keepable : Scan → Bool
keepable s = form_right s.table && eqb s.table.levels 1 && ltb s.width 65536

-- ---- the scan that bytes hold

-- lines taken, by their number
abbrev pub taken_of : ℕ → Taken
taken_of n = get_or (Zero ∷ One ∷ Two ∷ Three ∷ Four ∷ OddMany ∷ EvenMany ∷ []) n Zero

-- the scan with a table and the numbers that follow a table's bytes
abbrev pub held_with : WidthTable → List ℕ → Scan
held_with t bytes = record {
  table = t;
  width = get_or bytes table_room 0 * 256 + get_or bytes (table_room + 1) 0;
  taken = taken_of (get_or bytes (table_room + 2) 0);
  ended = eqb (get_or bytes (table_room + 3) 0) 1;
}

-- where a table of one level ends: with tag 5 where a byte 5 follows the fourth field
abbrev pub table_end : List ℕ → ℕ
table_end bytes = table_size (eqb (get_or bytes (table_size false 1) 0) products_tag) 1

-- the scan that right bytes hold
abbrev pub scan_held : List ℕ → Scan
scan_held bytes = held_with (table_in (take (table_end bytes) bytes)) bytes

-- bytes of a scan: those of a table, which has one level as no other has as many bytes; zeros; a number of lines; 0 or 1
unfoldable pub scan_right : List ℕ → Bool
scan_right bytes =
    answered (form (take (table_end bytes) bytes)) true false
    && every (eqb 0) (drop (table_end bytes) (take table_room bytes))
    && leb (get_or bytes (table_room + 2) 0) 6
    && leb (get_or bytes (table_room + 3) 0) 1

-- 9 for fewer bytes than a scan has, 14 for bytes that are not those of a scan
unfoldable pub scan_in : List ℕ → Answer Scan
scan_in bytes = asks (leb scan_length (length bytes)) 9 (asks (scan_right bytes) 14 (done (scan_held bytes)))

-- what comes back where there is no scan: an empty one that has ended
abbrev pub ended_scan : Scan
ended_scan = record {
  table = empty_table;
  width = 0;
  taken = Zero;
  ended = true;
}

-- The scan that the call of reading gives; its answer is that of `scan_in`.
unfoldable pub scan_read : List ℕ → Scan
scan_read bytes = answered (scan_in bytes) (scan_held bytes) ended_scan

-- ---- the caller's bytes afterwards

-- a scan that bytes can hold is written over the front of those that have room for one; others stay
unfoldable pub state_after : Scan → List ℕ → List ℕ
state_after s old = elim (keepable s && leb scan_length (length old)) [ true ↦ over (state_bytes s) old | false ↦ old ]

-- other numbers after a table's bytes, in bytes that have room for a scan, where two bytes hold the width
unfoldable pub numbers_after : ℕ → Taken → Bool → List ℕ → List ℕ
numbers_after w k ended old = elim (leb scan_length (length old) && ltb w 65536) [ true ↦ take table_room old ++ numbers_of w k ended ++ drop scan_length old | false ↦ old ]

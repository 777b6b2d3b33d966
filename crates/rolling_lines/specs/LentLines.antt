-- The lines lent to a rolling scan (document 02, job 5): how many, what they hold and when that is sound, and what a call leaves in them.
use Rattle.std.specs.Prelude.{ℕ, ◌<◌, List, ◌≡◌, length, drop, ℤ}
use Rattle.numbers.specs.Lists.{over}
use Rattle.lines.specs.Planes.{row_by_row}
use Rattle.width_table.specs.Nodes.{P1, U1, P2}
use Rattle.width_table.specs.declared.WidthTable.{WidthTable}
use Rattle.width_table.specs.Table.{fraction_bits, input_bits}
use Rattle.pictures.specs.Pictures.{plane_of}
use Rattle.table_meaning.specs.NodeWidths.{InNodeWidth}
use Rattle.rolling_lines.specs.Schedule.{Line, Held, column_pass_at, stacked}

-- lines lent to hold, and lines lent for output
abbrev pub held_lines : ℕ
held_lines = 7

abbrev pub out_lines : ℕ
out_lines = 4

-- What the seven lines hold is the library's own: the first five are what is held; the other two are free.
unfoldable pub held_in : ℕ → List ℤ → Held
held_in w held = record { low = plane_of w held 0; high = plane_of w held 1; p1 = plane_of w held 2; u1 = plane_of w held 3; p2 = plane_of w held 4 }

-- Five integer bits hold each value on the way of a one-level transform under every accepted table (`row_five`, `column_five` of FiveBits).
-- Held memory is sound where each value in its lines is one of five integer bits; what a scan left is (`sound_left` of rolling_claims,
-- Theorems).
unfoldable pub FiveBits : ℕ → ℤ → Type 0
FiveBits f v = InNodeWidth 5 f v

pub record Sound (t : WidthTable) (w : ℕ) (h : Held) : Type 0 where
  pub low : (c : ℕ) → c < w → FiveBits (input_bits t 1 (column_pass_at w c)) (h.low c)
  pub high : (c : ℕ) → c < w → FiveBits (input_bits t 1 (column_pass_at w c)) (h.high c)
  pub p1 : (c : ℕ) → c < w → FiveBits (fraction_bits t 1 (column_pass_at w c) P1) (h.p1 c)
  pub u1 : (c : ℕ) → c < w → FiveBits (fraction_bits t 1 (column_pass_at w c) U1) (h.u1 c)
  pub p2 : (c : ℕ) → c < w → FiveBits (fraction_bits t 1 (column_pass_at w c) P2) (h.p2 c)

-- equal in w columns
abbrev pub SameLine : ℕ → Line → Line → Type 0
SameLine w a b = (c : ℕ) → c < w → a c ≡ b c

-- equal in each line that is held
pub record SameHeld (w : ℕ) (a b : Held) : Type 0 where
  pub low : SameLine w a.low b.low
  pub high : SameLine w a.high b.high
  pub p1 : SameLine w a.p1 b.p1
  pub u1 : SameLine w a.u1 b.u1
  pub p2 : SameLine w a.p2 b.p2

-- nothing from place n on changes
pub record KeptFrom (n : ℕ) (old new : List ℤ) : Type 0 where
  pub length_kept : length new ≡ length old
  pub past_kept : drop n new ≡ drop n old

-- lines given stand first in the output, and the rest of it stays
abbrev pub out_after : ℕ → List Line → List ℤ → List ℤ
out_after w lines out = over (row_by_row w (length lines) (stacked lines)) out

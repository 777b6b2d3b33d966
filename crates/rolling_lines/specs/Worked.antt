-- For the code: what is left of held lines and output by a line that is accepted, and by an end.
use Rattle.std.specs.Prelude.{ℕ, ◌*◌, List, ◌≡◌, T, length, ℤ}
use Rattle.width_table.specs.declared.WidthTable.{WidthTable}
use Rattle.slices.specs.Patch.{at}
use Rattle.rolling_lines.specs.declared.Taken.{Taken}
use Rattle.rolling_lines.specs.declared.Taken.TheVariants.{Four, EvenMany}
use Rattle.rolling_lines.specs.Schedule.{Line, even_taken, held_after, line_gives, end_gives}
use Rattle.rolling_lines.specs.LentLines.{held_lines, held_in, Sound, SameHeld, KeptFrom, out_after}
use Rattle.rolling_lines.specs.Memory.{line_in, set_line}
use Rattle.rolling_lines.specs.Program.{HeldFits, Enters}

-- a low line after four lines or more: lines taken, and the line in which the P2 before stands (after four lines it is the new one)
pub data Later : Taken → ℕ → Type 0 where
  fifth : Later Four 2
  later : Later EvenMany 4

pub later_even : {k : Taken} {before : ℕ} → Later k before → T (even_taken k)
later_even fifth = tt
later_even later = tt

module _ (t : WidthTable) (w : ℕ) where
  -- what the next line needs is sound
  abbrev pub SoundFor : Taken → List ℤ → Type 0
  SoundFor k held = T (even_taken k) → Sound t w (held_in w held)

  -- the held lines after a line
  pub record HeldWorked (k : Taken) (row : Line) (held held' : List ℤ) : Type 0 where
    pub past : KeptFrom (held_lines * w) held held'
    pub works : SoundFor k held → SameHeld w (held_in w held') (held_after t w k (held_in w held) row)

  -- the output after a line
  pub record OutWorked (k : Taken) (row : Line) (held out out' : List ℤ) : Type 0 where
    pub past : KeptFrom (length (line_gives t w k (held_in w held) row) * w) out out'
    pub works : SoundFor k held → out' ≡ out_after w (line_gives t w k (held_in w held) row) out

  abbrev pub LineWorked : Taken → Line → List ℤ → List ℤ → List ℤ → List ℤ → Type 0
  LineWorked k row held out held' out' = HeldWorked k row held held' × OutWorked k row held out out'

  -- a low line in line 5: the five lines fit, and are what was held if that was sound
  pub record LowReady (row : Line) (held held' : List ℤ) : Type 0 where
    pub past : KeptFrom (held_lines * w) held held'
    pub fits : HeldFits t w (at held')
    pub enters : Enters t w (line_in w (at held') 5)
    pub same : Sound t w (held_in w held) → at held' ≡ set_line w 5 row (at held)

  -- held lines and output after an end
  pub record EndWorked (k : Taken) (held out held' out' : List ℤ) : Type 0 where
    pub held_past : KeptFrom (held_lines * w) held held'
    pub out_past : KeptFrom (length (end_gives t w k (held_in w held)) * w) out out'
    pub works : Sound t w (held_in w held) → out' ≡ out_after w (end_gives t w k (held_in w held)) out

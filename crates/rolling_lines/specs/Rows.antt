-- For the code: an accepted line, and what the row pass makes of it.
use Rattle.std.specs.Prelude.{ℕ, ◌+◌, ◌*◌, ◌-◌, ◌^◌, ◌<◌, ◌≤◌, List, ◌≡◌, pos, ◌-ℤ◌, length, get_or}
use Rattle.std.proofs.Common.{arith}
use Rattle.slices.specs.Pixels.{pixel_line}
use Rattle.width_table.specs.Nodes.{Rows}
use Rattle.width_table.specs.declared.WidthTable.{WidthTable}
use Rattle.pictures.specs.Pictures.{Admitted, sample}
use Rattle.precision.specs.Verdict.{Accepted}
use Rattle.fixed_stages.specs.Fixed.{fixed_line}
use Rattle.rolling_lines.specs.Schedule.{Line}

-- a line of admitted width and of the table's depth, under an accepted table of one level
pub record LineRight (t : WidthTable) (pixels : List ℕ) (w : ℕ) : Type 0 where
  pub accepted : Accepted t
  pub one : t.levels ≡ 1
  pub side : Admitted w
  pub long : w ≤ length pixels
  pub below : (k : ℕ) → k < w → get_or pixels k 0 < 2 ^ t.depth

-- the line worked along its row
abbrev pub row_of : WidthTable → List ℕ → ℕ → Line
row_of t pixels w = fixed_line t 1 Rows w (sample pixels t.depth w 0)

-- pixels less the middle of their range are its samples
pub pixels_sampled : (t : WidthTable) (pixels : List ℕ) (w middle : ℕ) → middle ≡ 2 ^ (t.depth - 1) → pixel_line pixels middle 0 ≡ sample pixels t.depth w 0
unfolding sample
pixels_sampled t pixels w middle e = λ u k. pos (get_or pixels (same k u) 0) -ℤ pos (e u)
  where
    same : (k : ℕ) → 0 + k ≡ 0 * w + k
    same k = omega arith

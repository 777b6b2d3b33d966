-- The 9/7 call (document 01: why a strip or book comes back): the answer, and each lent slice afterwards.
use Rattle.std.specs.Prelude.{ℕ, ◌*◌, List, length, ℤ}
use Rattle.numbers.specs.Lists.{over}
use Rattle.refusals.specs.Answers.{Answer, ◌then◌, answered}
use Rattle.lines.specs.Planes.{row_by_row}
use Rattle.width_table.specs.declared.WidthTable.{WidthTable}
use Rattle.pictures.specs.Pictures.{side_answer, length_answer, pixel_answer}
use Rattle.slices.specs.Fronts.{zeroed}
use Rattle.precision.specs.Verdict.{verdict}
use Rattle.irreversible.specs.Transforms.{fixed_plane}

-- by the lengths of plane and work area: 4, 6 and 7 as one step, 8, 9, 10
unfoldable pub fixed_answer_of : WidthTable → ℕ → ℕ → List ℕ → ℕ → ℕ → Answer Unit
fixed_answer_of t w h pixels plane work =
    verdict t
    then side_answer w h
    then length_answer (w * h) (length pixels)
    then length_answer (w * h) plane
    then length_answer (w * h) work
    then pixel_answer t.depth w h pixels

module _ (t : WidthTable) (w h : ℕ) (pixels : List ℕ) (plane work : List ℤ) where
  abbrev pub fixed_answer : Answer Unit
  fixed_answer = fixed_answer_of t w h pixels (length plane) (length work)

  unfoldable pub fixed_plane_after : List ℤ
  fixed_plane_after = answered fixed_answer (over (row_by_row w h (fixed_plane t pixels w h)) plane) plane

  unfoldable pub fixed_work : List ℤ
  fixed_work = answered fixed_answer (zeroed (w * h) work) work

-- The viewing call (document 02, job 1): the answer, and each lent slice afterwards. The plane is only read.
use Rattle.std.specs.Prelude.{ℕ, ◌+◌, ◌*◌, ◌-◌, ◌^◌, Bool, ◌&&◌, List, length, ℤ, pos, neg_ℤ}
use Rattle.std.specs.Int.Signed.{le_z, lt_z}
use Rattle.numbers.specs.Lists.{over}
use Rattle.numbers.specs.Tests.{every}
use Rattle.refusals.specs.Answers.{Answer, passed, asks, ◌then◌, answered}
use Rattle.lines.specs.Planes.{Plane, row_by_row}
use Rattle.width_table.specs.declared.WidthTable.{WidthTable}
use Rattle.width_table.specs.Table.{integer_bits, fraction_bits}
use Rattle.pictures.specs.Pictures.{side_answer, length_answer, plane_of}
use Rattle.slices.specs.Fronts.{zeroed}
use Rattle.table_meaning.specs.Subbands.{kept_node}
use Rattle.view_precision.specs.Bounds.{view_verdict}
use Rattle.viewing.specs.View.{view_picture}

-- v from -2^(IB+f-1) to 2^(IB+f-1) - 1
abbrev pub fits_width : ℕ → ℕ → ℤ → Bool
fits_width IB f v = le_z (neg_ℤ (pos (2 ^ (IB + f - 1)))) v && lt_z v (pos (2 ^ (IB + f - 1)))

-- the coefficient at row r, column c is in the width of its kept node
unfoldable pub in_width : WidthTable → ℕ → ℕ → Plane ℤ → Plane Bool
in_width t w h p r c =
    let k = kept_node t.levels w h r c in
    fits_width (integer_bits t k.level k.pass k.node) (fraction_bits t k.level k.pass k.node) (p r c)

-- 12: each of the w * h coefficients is in its node's width.
unfoldable pub coefficients_right : WidthTable → ℕ → ℕ → List ℤ → Answer Unit
coefficients_right t w h plane = asks (every (λ q. q) (row_by_row w h (in_width t w h (plane_of w plane)))) 12 passed

-- by the lengths of pixels and work area: 4, 6 and 7 as one step, 13, 8, 9, 12
unfoldable pub view_answer_of : WidthTable → ℕ → ℕ → List ℤ → ℕ → ℕ → Answer Unit
view_answer_of t w h plane pixels work =
    view_verdict t
    then side_answer w h
    then length_answer (w * h) pixels
    then length_answer (w * h) (length plane)
    then length_answer (w * h) work
    then coefficients_right t w h plane

module _ (t : WidthTable) (w h : ℕ) (plane : List ℤ) (pixels : List ℕ) (work : List ℤ) where
  abbrev pub view_answer : Answer Unit
  view_answer = view_answer_of t w h plane (length pixels) (length work)

  unfoldable pub view_pixels : List ℕ
  view_pixels = answered view_answer (over (row_by_row w h (view_picture t w h (plane_of w plane))) pixels) pixels

  unfoldable pub view_work : List ℤ
  view_work = answered view_answer (zeroed (w * h) work) work

-- Demand 3 of a 9/7 call that is not refused: what stands in the plane is less than two steps from the exact transform (`call_near`), and no
-- value on the way left its width (`call_widths`).
use Rattle.std.specs.Prelude.{ℕ, suc, ◌+◌, ◌*◌, ◌<◌, ◌≤◌, ◌≡◌, length, drop, ℤ, pos}
use mathlib.Core.List.{List}
use Rattle.std.proofs.Common.{sym, ◌∙◌, subst, arith}
use Rattle.std.proofs.Math.Path.{ap}
use Rattle.std.proofs.Math.ListN.{get_or, get_or-append}
use Rattle.numbers.specs.Lists.{over}
use Rattle.refusals.specs.Answers.{passed}
use Rattle.refusals.specs.AnswerLaws.{then_done, answered_done}
use Rattle.lines.specs.Planes.{side, row_by_row}
use Rattle.lines.specs.RowLaws.{place_in, rows_length, rows_at}
use Rattle.width_table.specs.declared.WidthTable.{WidthTable}
use Rattle.exact.specs.Picture.{exact_plane}
use Rattle.pictures.specs.Pictures.{pixel_answer}
use Rattle.pictures.specs.PictureLaws.{Room, room_answer, sized_then, sized_done, pixels_done, pixel_below}
use Rattle.precision.specs.Verdict.{verdict, Accepted}
use Rattle.irreversible.specs.Transforms.{fixed_after, fixed_plane}
use Rattle.irreversible.specs.Claims.{Picture, Near, LevelInWidth}
use Rattle.table_meaning.specs.Subbands.{bits_plane}
use Rattle.irreversible.specs.Demand3.{two_steps, widths}
use Rattle.irreversible.specs.Calls.{fixed_answer_of, fixed_answer, fixed_plane_after}

module _ (t : WidthTable) (w h : ℕ) (pixels : List ℕ) (plane work : List ℤ) (e : fixed_answer t w h pixels plane work ≡ passed) where
  -- the table is accepted
  pub accepted : Accepted t
  unfolding fixed_answer_of
  accepted = (then_done (verdict t) _ e).0

  -- the slices have room, and the pixels are right
  judged : (room_answer w h (length pixels) (length plane) (length work) ≡ passed) × (pixel_answer t.depth w h pixels ≡ passed)
  unfolding fixed_answer_of
  judged = then_done (room_answer w h (length pixels) (length plane) (length work)) _ (sym (sized_then w h (length pixels) (length plane) (length work) _) ∙ (then_done (verdict t) _ e).1)

  pub room : Room w h (length pixels) (length plane) (length work)
  room = sized_done w h (length pixels) (length plane) (length work) judged.0

  -- the pixels are a picture of the table's depth and of admitted size
  pub picture : Picture t pixels w h
  picture = record {
    width = room.wide;
    height = room.tall;
    depth = pixel_below t.depth w h pixels room.first (pixels_done t.depth w h pixels judged.1);
  }

  some : 1 ≤ w
  some = omega (arith, room.wide.0)

  -- what stands at a row and a column of the plane
  pub stands : (r c : ℕ) → r < h → c < w → get_or (fixed_plane_after t w h pixels plane work) (r * w + c) (pos 0) ≡ fixed_plane t pixels w h r c
  unfolding fixed_plane_after
  stands r c i j =
      let p = row_by_row w h (fixed_plane t pixels w h) in
      ap (λ (l : List ℤ). get_or l (r * w + c) (pos 0)) (answered_done (over p plane) plane e)
      ∙ get_or-append p (drop (length p) plane) (pos 0) (r * w + c) (subst (λ (n : ℕ). r * w + c < n) (sym (rows_length w h some (fixed_plane t pixels w h))) (place_in w h some r c i j))
      ∙ rows_at w h some (fixed_plane t pixels w h) (pos 0) r c i j

  pub call_near : (r c : ℕ) → r < h → c < w
      → Near (get_or (fixed_plane_after t w h pixels plane work) (r * w + c) (pos 0)) (bits_plane t w h r c) (exact_plane pixels t.depth t.levels w h r c)
  call_near r c i j =
      subst (λ (v : ℤ). Near v (bits_plane t w h r c) (exact_plane pixels t.depth t.levels w h r c)) (sym (stands r c i j))
      (two_steps t pixels w h accepted picture r c i j)

  pub call_widths : (k : ℕ) → k < t.levels → LevelInWidth t (suc k) (side k w) (side k h) (fixed_after t k pixels w h)
  call_widths = widths t pixels w h accepted picture

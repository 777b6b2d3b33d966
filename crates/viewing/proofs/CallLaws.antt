-- The viewing call: what the table is refused for comes first (`table_first`); the call is done where the table is viewable, the memory
-- suffices and each coefficient is in its width (`call_done`), and nowhere else (`call_viewable`, `call_room`, `call_stored`); what then
-- stands in the pixels is the picture (`call_pixel`), before rounding within the bound (`call_within`, `call_sizes`), shown less than one
-- grey off (`call_near`).
use Rattle.std.specs.Prelude.{ℕ, ◌+◌, ◌*◌, ◌-◌, ◌^◌, ◌<◌, ◌≤◌, ◌≡◌, T, length, drop, ℤ, pos, neg_ℤ}
use mathlib.Core.List.{List}
use Rattle.std.proofs.Common.{sym, ◌∙◌, subst, arith}
use Rattle.std.proofs.Math.Path.{ap}
use Rattle.std.proofs.Math.ListN.{get_or, get_or-append}
use Rattle.std.specs.Int.Signed.{le_z, lt_z, le_z_yes, lt_z_yes}
use Rattle.numbers.specs.Lists.{over}
use Rattle.numbers.specs.Tests.{every, both, and_intro}
use Rattle.refusals.specs.Answers.{Reason, passed, refused}
use Rattle.refusals.specs.AnswerLaws.{asks_done, asks_right, then_done, then_right, then_refused, answered_done}
use Rattle.lines.specs.Planes.{row_by_row}
use Rattle.lines.specs.RowLaws.{place_in, rows_length, rows_at, every_row, every_row_at}
use Rattle.width_table.specs.declared.WidthTable.{WidthTable}
use Rattle.pictures.specs.Pictures.{Admitted, plane_of}
use Rattle.pictures.specs.PictureLaws.{Room, room_answer, sized_then, sized_done, sized_right}
use Rattle.view_precision.specs.Bounds.{view_verdict, pixel_bound}
use Rattle.table_meaning.specs.NodeWidths.{InNodeWidth}
use Rattle.viewing.specs.View.{view_plane, view_picture, exact_view}
use Rattle.viewing.specs.Calls.{fits_width, in_width, coefficients_right, view_answer_of, view_answer, view_pixels}
use Rattle.viewing.specs.Claims.{Viewable, Stored, Close, EachSmall, exact_greys, clamped, LessThanOne}
use Rattle.viewing.proofs.Viewing.{within_bound, sizes}
use Rattle.viewing.proofs.ShownGreys.{one_grey}

-- ---- 12

-- the test of a width, and the statement
module _ (IB f : ℕ) (v : ℤ) where
  fits_holds : T (fits_width IB f v) → InNodeWidth IB f v
  unfolding InNodeWidth
  fits_holds h =
      let x = both (le_z (neg_ℤ (pos (2 ^ (IB + f - 1)))) v) (lt_z v (pos (2 ^ (IB + f - 1)))) h in
      (le_z_yes x.0, lt_z_yes x.1)

  holds_fits : InNodeWidth IB f v → T (fits_width IB f v)
  unfolding InNodeWidth
  holds_fits h = and_intro (le_z (neg_ℤ (pos (2 ^ (IB + f - 1)))) v) (lt_z v (pos (2 ^ (IB + f - 1)))) h.0.le h.1.lt

module _ (t : WidthTable) (w h : ℕ) (plane : List ℤ) where
  pub held_done : Admitted w → Admitted h → coefficients_right t w h plane ≡ passed → Stored t w h (plane_of w plane)
  unfolding coefficients_right in_width
  held_done wide tall e = record {
    width = wide;
    height = tall;
    held = λ r c i j. fits_holds _ _ _ (every_row_at w h (omega (arith, wide.0)) (λ q. q) (in_width t w h (plane_of w plane)) (asks_done (every (λ q. q) (row_by_row w h (in_width t w h (plane_of w plane)))) _ _ e).0 r c i j);
  }

  pub held_right : Stored t w h (plane_of w plane) → coefficients_right t w h plane ≡ passed
  unfolding coefficients_right in_width
  held_right s =
      asks_right (every (λ q. q) (row_by_row w h (in_width t w h (plane_of w plane)))) _ _
      (every_row w h (omega (arith, s.width.0)) (λ q. q) (in_width t w h (plane_of w plane)) (λ r c i j. holds_fits _ _ _ (s.held r c i j)))

-- ---- the call

-- a table that is refused, by the lengths of pixels and work area
pub table_first : (t : WidthTable) (w h : ℕ) (plane : List ℤ) (pixels work : ℕ) (r : Reason) → view_verdict t ≡ refused r → view_answer_of t w h plane pixels work ≡ refused r
unfolding view_answer_of
table_first t w h plane pixels work r e = then_refused (view_verdict t) _ r e

module _ (t : WidthTable) (w h : ℕ) (plane : List ℤ) (pixels : List ℕ) (work : List ℤ) where
  abbrev room : Type 0
  room = Room w h (length pixels) (length plane) (length work)

  module _ (e : view_answer t w h plane pixels work ≡ passed) where
    pub call_viewable : Viewable t
    unfolding view_answer_of
    call_viewable = (then_done (view_verdict t) _ e).0

    judged : (room_answer w h (length pixels) (length plane) (length work) ≡ passed) × (coefficients_right t w h plane ≡ passed)
    unfolding view_answer_of
    judged = then_done (room_answer w h (length pixels) (length plane) (length work)) _ (sym (sized_then w h (length pixels) (length plane) (length work) _) ∙ (then_done (view_verdict t) _ e).1)

    pub call_room : room
    call_room = sized_done w h (length pixels) (length plane) (length work) judged.0

    pub call_stored : Stored t w h (plane_of w plane)
    call_stored = held_done t w h plane call_room.wide call_room.tall judged.1

    some : 1 ≤ w
    some = omega (arith, call_room.wide.0)

    -- what stands at a row and a column of the pixels
    pub call_pixel : (r c : ℕ) → r < h → c < w → get_or (view_pixels t w h plane pixels work) (r * w + c) 0 ≡ view_picture t w h (plane_of w plane) r c
    unfolding view_pixels
    call_pixel r c i j =
        let q = row_by_row w h (view_picture t w h (plane_of w plane)) in
        ap (λ (l : List ℕ). get_or l (r * w + c) 0) (answered_done (over q pixels) pixels e)
        ∙ get_or-append q (drop (length q) pixels) 0 (r * w + c) (subst (λ (n : ℕ). r * w + c < n) (sym (rows_length w h some (view_picture t w h (plane_of w plane)))) (place_in w h some r c i j))
        ∙ rows_at w h some (view_picture t w h (plane_of w plane)) 0 r c i j

    -- before rounding it was within the bound of the exact inverse of what was stored, and no value on the way was above 2^15
    pub call_within : (r c : ℕ) → r < h → c < w → Close (view_plane t w h (plane_of w plane) r c) (exact_view t w h (plane_of w plane) r c) (pixel_bound t)
    call_within = within_bound t w h (plane_of w plane) call_viewable call_stored

    pub call_sizes : EachSmall t t.levels w h (plane_of w plane)
    call_sizes = sizes t w h (plane_of w plane) call_viewable call_stored

    pub call_near : (r c : ℕ) → r < h → c < w → LessThanOne (get_or (view_pixels t w h plane pixels work) (r * w + c) 0) (clamped (2 ^ t.depth - 1) (exact_greys t.depth (exact_view t w h (plane_of w plane) r c)))
    call_near r c i j =
        subst (λ (q : ℕ). LessThanOne q (clamped (2 ^ t.depth - 1) (exact_greys t.depth (exact_view t w h (plane_of w plane) r c)))) (sym (call_pixel r c i j))
        (one_grey t w h (plane_of w plane) call_viewable call_stored r c i j)

  -- nothing else is turned away
  pub call_done : Viewable t → room → Stored t w h (plane_of w plane) → view_answer t w h plane pixels work ≡ passed
  unfolding view_answer_of
  call_done v r s =
      then_right (view_verdict t) _ v
      ∙ sized_then w h (length pixels) (length plane) (length work) (coefficients_right t w h plane)
      ∙ then_right (room_answer w h (length pixels) (length plane) (length work)) _ (sized_right w h (length pixels) (length plane) (length work) r)
      ∙ held_right t w h plane s

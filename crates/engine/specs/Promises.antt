-- What an answer of 0 promises, at the bytes (document 01, demand 3; document 02, job 1), of tables with tag 5 too (job 7).
use Rattle.std.specs.Prelude.{ℕ, suc, ◌+◌, ◌*◌, ◌-◌, ◌^◌, ◌<◌, ◌≤◌, ◌≡◌, get_or, drop, ℤ, ◌-ℤ◌}
use mathlib.Core.List.{List}
use Rattle.std.proofs.Common.{sym, ◌∙◌, arith}
use Rattle.std.proofs.Math.Path.{ap, subst}
use Rattle.std.proofs.Math.ListN.{length, length-append}
use Rattle.numbers.specs.Lists.{over}
use Rattle.numbers.specs.Tests.{is_true}
use Rattle.lines.specs.RowLaws.{rows_length}
use Rattle.std.proofs.Math.IntN.{pos, nat_abs}
use Rattle.refusals.specs.Answers.{Answer, passed, code}
use Rattle.refusals.specs.AnswerLaws.{then_done, then_right, answered_done}
use Rattle.lines.specs.Planes.{side, row_by_row}
use Rattle.exact.specs.Picture.{exact_sample, exact_plane}
use Rattle.width_table.specs.declared.WidthTable.{WidthTable}
use Rattle.width_table.specs.Table.{form_right}
use Rattle.table_bytes.specs.Bytes.{form, table_in, bytes_of_table}
use Rattle.width_table.specs.Lists.{FullLists}
use Rattle.table_bytes.specs.ReadLaws.{table_read_lem}
use Rattle.table_bytes.specs.RoundTrip.{written_reads}
use Rattle.precision.specs.Promise.{promise}
use Rattle.pictures.specs.Pictures.{plane_of}
use Rattle.pictures.specs.PictureLaws.{Room, room_answer, sized_then, sized_right, pixels_right_lem}
use Rattle.precision.specs.Verdict.{verdict, Accepted}
use Rattle.irreversible.specs.Transforms.{fixed_after, fixed_plane}
use Rattle.irreversible.specs.Claims.{Picture, Near, LevelInWidth}
use Rattle.table_meaning.specs.Subbands.{bits_plane}
use Rattle.irreversible.specs.Calls.{fixed_answer_of, fixed_answer, fixed_plane_after}
use Rattle.irreversible.specs.CallLaws.{room, call_near, call_widths}
use Rattle.irreversible.specs.Demand3.{two_steps, widths}
use Rattle.view_precision.specs.Bounds.{view_verdict, pixel_bound, view_distance}
use Rattle.viewing.specs.View.{view_plane, exact_view}
use Rattle.viewing.specs.Calls.{view_answer, view_pixels}
use Rattle.viewing.specs.Claims.{Stored, Close, EachSmall, exact_greys, clamped, LessThanOne, greys_apart}
use Rattle.viewing.proofs.Scan.{scan_to_view}
use Rattle.viewing.proofs.CallLaws as View
use Rattle.viewing.proofs.Forward.{call_forward, forward_shown}
use Rattle.table_calls.specs.Calls.{check_answer, answer97, plane97}
use Rattle.engine.specs.Answers.{view_check_answer, distance_after, view_answer97, view_pixels97}
use Rattle.engine.specs.Zero.{checked_zero, zero97, view_checked_zero, view_zero97}

-- ---- where suz_forward97 answers 0

module _ (bytes : List ℕ) (w h : ℕ) (pixels : List ℕ) (plane work : List ℤ) (zero : code (answer97 bytes w h pixels plane work) ≡ 0) where
  both_done : (form bytes ≡ passed) × (fixed_answer (table_in bytes) w h pixels plane work ≡ passed)
  unfolding answer97
  both_done = then_done (form bytes) (fixed_answer (table_in bytes) w h pixels plane work) (zero97 bytes w h pixels plane work zero)

  -- every coefficient in the plane is less than two of its own steps from the exact one,
  pub zero_near : (r c : ℕ) → r < h → c < w
      → Near (get_or (plane97 bytes w h pixels plane work) (r * w + c) (pos 0)) (bits_plane (table_in bytes) w h r c) (exact_plane pixels (table_in bytes).depth (table_in bytes).levels w h r c)
  unfolding plane97
  zero_near r c i j =
      subst (λ (p : List ℤ). Near (get_or p (r * w + c) (pos 0)) (bits_plane (table_in bytes) w h r c) (exact_plane pixels (table_in bytes).depth (table_in bytes).levels w h r c))
      (sym (answered_done (fixed_plane_after (table_in bytes) w h pixels plane work) plane both_done.0))
      (call_near (table_in bytes) w h pixels plane work both_done.1 r c i j)

  -- and no value on the way left its width.
  pub zero_widths : (k : ℕ) → k < (table_in bytes).levels → LevelInWidth (table_in bytes) (suc k) (side k w) (side k h) (fixed_after (table_in bytes) k pixels w h)
  zero_widths = call_widths (table_in bytes) w h pixels plane work both_done.1

-- ---- where suz_table_check answers 0, the same holds for every picture of the table's depth and of admitted size

module _ (bytes : List ℕ) (zero : code (check_answer bytes) ≡ 0) (pixels : List ℕ) (w h : ℕ) (picture : Picture (table_in bytes) pixels w h) where
  accepted : Accepted (table_in bytes)
  unfolding check_answer
  accepted = (then_done (form bytes) (verdict (table_in bytes)) (checked_zero bytes zero)).1

  pub check_near : (r c : ℕ) → r < h → c < w
      → Near (fixed_plane (table_in bytes) pixels w h r c) (bits_plane (table_in bytes) w h r c) (exact_plane pixels (table_in bytes).depth (table_in bytes).levels w h r c)
  check_near = two_steps (table_in bytes) pixels w h accepted picture

  pub check_widths : (k : ℕ) → k < (table_in bytes).levels → LevelInWidth (table_in bytes) (suc k) (side k w) (side k h) (fixed_after (table_in bytes) k pixels w h)
  check_widths = widths (table_in bytes) pixels w h accepted picture

  -- and suz_forward97 answers 0 for it, where its slices are long enough
  pub check_works : (plane work : List ℤ) → w * h ≤ length pixels → w * h ≤ length plane → w * h ≤ length work → code (answer97 bytes w h pixels plane work) ≡ 0
  unfolding answer97 fixed_answer_of check_answer
  check_works plane work a b c =
      let t = table_in bytes in
      let formed = (then_done (form bytes) (verdict t) (checked_zero bytes zero)).0 in
      let room : Room w h (length pixels) (length plane) (length work) = record { wide = picture.width; tall = picture.height; first = a; second = b; third = c } in
      ap (λ (o : Answer Unit). code o)
      (then_right (form bytes) _ formed
      ∙ then_right (verdict t) _ accepted
      ∙ sized_then w h (length pixels) (length plane) (length work) _
      ∙ then_right (room_answer w h (length pixels) (length plane) (length work)) _ (sized_right w h (length pixels) (length plane) (length work) room)
      ∙ pixels_right_lem t.depth w h pixels a picture.depth)

-- ---- where suz_view97 answers 0

module _ (bytes : List ℕ) (w h : ℕ) (plane : List ℤ) (pixels : List ℕ) (work : List ℤ) (zero : code (view_answer97 bytes w h plane pixels work) ≡ 0) where
  viewed : (form bytes ≡ passed) × (view_answer (table_in bytes) w h plane pixels work ≡ passed)
  unfolding view_answer97
  viewed = then_done (form bytes) (view_answer (table_in bytes) w h plane pixels work) (view_zero97 bytes w h plane pixels work zero)

  -- every pixel before rounding was within the bound of the exact inverse of what was stored, and no value on the way above 2^15;
  pub zero_within : (r c : ℕ) → r < h → c < w
      → Close (view_plane (table_in bytes) w h (plane_of w plane) r c) (exact_view (table_in bytes) w h (plane_of w plane) r c) (pixel_bound (table_in bytes))
  zero_within = View.call_within (table_in bytes) w h plane pixels work viewed.1

  pub zero_sizes : EachSmall (table_in bytes) (table_in bytes).levels w h (plane_of w plane)
  zero_sizes = View.call_sizes (table_in bytes) w h plane pixels work viewed.1

  -- every shown pixel is less than one grey from the exact value, clamped to the depth.
  pub zero_shown : (r c : ℕ) → r < h → c < w
      → let B = (table_in bytes).depth in
      LessThanOne (get_or (view_pixels97 bytes w h plane pixels work) (r * w + c) 0) (clamped (2 ^ B - 1) (exact_greys B (exact_view (table_in bytes) w h (plane_of w plane) r c)))
  unfolding view_pixels97
  zero_shown r c i j =
      let B = (table_in bytes).depth in
      subst (λ (q : List ℕ). LessThanOne (get_or q (r * w + c) 0) (clamped (2 ^ B - 1) (exact_greys B (exact_view (table_in bytes) w h (plane_of w plane) r c))))
      (sym (answered_done (view_pixels (table_in bytes) w h plane pixels work) pixels viewed.0))
      (View.call_near (table_in bytes) w h plane pixels work viewed.1 r c i j)

-- ---- where suz_table_view answers 0

module _ (bytes : List ℕ) (zero : code (view_check_answer bytes) ≡ 0) where
  viewable : (form bytes ≡ passed) × (view_verdict (table_in bytes) ≡ passed)
  unfolding view_check_answer
  viewable = then_done (form bytes) (view_verdict (table_in bytes)) (view_checked_zero bytes zero)

  -- suz_view97 answers 0 for every plane of admitted size in the table's widths, where its slices are long enough;
  pub view_shows : (w h : ℕ) (plane : List ℤ) (pixels : List ℕ) (work : List ℤ) → Stored (table_in bytes) w h (plane_of w plane)
      → w * h ≤ length pixels → w * h ≤ length plane → w * h ≤ length work → code (view_answer97 bytes w h plane pixels work) ≡ 0
  unfolding view_answer97
  view_shows w h plane pixels work s a b c =
      ap (λ (o : Answer Unit). code o)
      (then_right (form bytes) _ viewable.0
      ∙ View.call_done (table_in bytes) w h plane pixels work viewable.1 (record { wide = s.width; tall = s.height; first = a; second = b; third = c }) s)

  -- suz_view_distance writes the distance;
  pub distance_told : (distance : ℕ) → distance_after bytes distance ≡ view_distance (table_in bytes)
  unfolding distance_after
  distance_told distance = answered_done (view_distance (table_in bytes)) distance (view_checked_zero bytes zero)

  -- and of every picture of the table's depth and of admitted size, scanned and stored, the viewed value before rounding lies within the
  -- distance of what was scanned.
  pub view_near : (pixels : List ℕ) (w h : ℕ) → Picture (table_in bytes) pixels w h → (r c : ℕ) → r < h → c < w
      → Close (view_plane (table_in bytes) w h (fixed_plane (table_in bytes) pixels w h) r c) (exact_sample pixels (table_in bytes).depth w r c) (view_distance (table_in bytes))
  view_near pixels w h picture = scan_to_view (table_in bytes) pixels w h viewable.1 picture

-- ---- scan, store, view: where suz_forward97 answers 0

module _ (bytes : List ℕ) (w h : ℕ) (pixels : List ℕ) (plane work : List ℤ) (zero : code (answer97 bytes w h pixels plane work) ≡ 0) where
  abbrev t : WidthTable
  t = table_in bytes

  stored : (form bytes ≡ passed) × (fixed_answer t w h pixels plane work ≡ passed)
  stored = both_done bytes w h pixels plane work zero

  abbrev left : List ℤ
  left = plane97 bytes w h pixels plane work

  left_is : left ≡ fixed_plane_after t w h pixels plane work
  unfolding plane97
  left_is = answered_done (fixed_plane_after t w h pixels plane work) plane stored.0

  left_long : w * h ≤ length left
  unfolding fixed_plane_after
  left_long =
      let p = row_by_row w h (fixed_plane t pixels w h) in
      let r = room t w h pixels plane work stored.1 in
      subst (λ (l : List ℤ). w * h ≤ length l) (sym (left_is ∙ answered_done (over p plane) plane stored.1))
      (omega (arith, length-append p (drop (length p) plane), rows_length w h (omega (arith, r.wide.0)) (fixed_plane t pixels w h)))

  -- and suz_table_view does, suz_view97 answers 0 for the plane that was stored, where its slices are long enough,
  pub view_works : code (view_check_answer bytes) ≡ 0 → (shown : List ℕ) (area : List ℤ) → w * h ≤ length shown → w * h ≤ length area → code (view_answer97 bytes w h left shown area) ≡ 0
  unfolding view_answer97
  view_works can shown area a c =
      view_shows bytes can w h left shown area (subst (λ (p : List ℤ). Stored t w h (plane_of w p)) (sym left_is) (call_forward t w h pixels plane work stored.1)) a left_long c

  -- and each shown pixel is at most so many greys from the scanned one.
  pub view_greys : (shown : List ℕ) (area : List ℤ) → code (view_answer97 bytes w h left shown area) ≡ 0
      → (r c : ℕ) → r < h → c < w → nat_abs (pos (get_or (view_pixels97 bytes w h left shown area) (r * w + c) 0) -ℤ pos (get_or pixels (r * w + c) 0)) ≤ greys_apart (table_in bytes)
  unfolding view_pixels97
  view_greys shown area done r c i j =
      let v = viewed bytes w h left shown area done in
      subst (λ (q : List ℕ). nat_abs (pos (get_or q (r * w + c) 0) -ℤ pos (get_or pixels (r * w + c) 0)) ≤ greys_apart t)
      (sym (answered_done (view_pixels t w h left shown area) shown v.0 ∙ ap (λ (p : List ℤ). view_pixels t w h p shown area) left_is))
      (forward_shown t w h pixels plane work stored.1 shown area (subst (λ (p : List ℤ). view_answer t w h p shown area ≡ passed) left_is v.1) r c i j)

-- ---- and no premise is empty: an accepted table, written as bytes, is answered 0 by suz_table_check

module _ (t : WidthTable) (room_answer : FullLists t) (ok : Accepted t) where
  pub accepted_checks : code (check_answer (bytes_of_table t)) ≡ 0
  unfolding check_answer
  accepted_checks =
      let (formed, back) = written_reads t room_answer (is_true (form_right t) (promise t ok).form) in
      ap (λ (o : Answer Unit). code o) (then_right (form (bytes_of_table t)) _ formed ∙ ap verdict (sym (table_read_lem (bytes_of_table t) formed) ∙ back) ∙ ok)

  -- and one that viewing accepts too, by suz_table_view
  pub viewable_checks : view_verdict t ≡ passed → code (view_check_answer (bytes_of_table t)) ≡ 0
  unfolding view_check_answer
  viewable_checks shown =
      let (formed, back) = written_reads t room_answer (is_true (form_right t) (promise t ok).form) in
      ap (λ (o : Answer Unit). code o) (then_right (form (bytes_of_table t)) _ formed ∙ ap view_verdict (sym (table_read_lem (bytes_of_table t) formed) ∙ back) ∙ shown)

-- The program's answer is that of the forward call on what its input holds, and its text is that of the plane that comes back.
use Rattle.std.specs.Prelude.{ℕ, zero, suc, ◌+◌, ◌*◌, ◌<◌, ◌≤◌, Bool, true, false, ◌&&◌, List, [], ◌++◌, ◌≡◌, refl, ℤ, pos, length, get_or, take}
use Rattle.std.proofs.Common.{sym, ◌∙◌, subst, le-leb, take_all, length-take-le}
use Rattle.std.proofs.Math.Path.{ap}
use native.Mathlib.Omega.{arith}
use Rattle.std.proofs.Math.Decide.{dec_lt}
use Rattle.std.proofs.lemmas.Bool.{lt-leb}
use Rattle.std.proofs.Math.ListN.{get_or-append}
use Rattle.numbers.specs.Lists.{over}
use Rattle.refusals.specs.Answers.{Reason, Answer, refused, passed, ◌then◌}
use Rattle.refusals.specs.AnswerLaws.{asks_right, then_right, answered_done}
use Rattle.lines.specs.Planes.{Plane, row_by_row}
use Rattle.lines.specs.RowLaws.{place_in, rows_length, rows_at, tabulate_same}
use Rattle.width_table.specs.Table.{depth_right, levels_right}
use Rattle.pictures.specs.Pictures.{pixel_answer, sample, plane_of}
use Rattle.pictures.specs.PictureLaws.{room_answer, sized_then, sized_right, over_take}
use Rattle.reversible.specs.Reversible.{columns_first, forward}
use Rattle.reversible.specs.Calls.{limit_answer, forward_answer, forward_plane}
use Rattle.listing.specs.declared.Head.{Head}
use Rattle.listing.specs.Listing.{line, row_lines, refused_line, head_bytes, max_pixels, max_input, max_text, copy_depth, copy_levels, copy_width, copy_height, copy_size, copy_pixels, copy_form, copy_answer, head_in, head_text, copy_lines, copy_text, listed}
use Rattle.listing.proofs.InputLaws.{Formed, form_done, pixels_length, form_too_long, why_same}

module _ (bytes : List ℕ) where
  pub count : Formed bytes → length (copy_pixels bytes) ≡ copy_size bytes
  count f = pixels_length bytes ∙ omega (arith, f.exact)

  -- what the forward call judges of an input of a right form
  abbrev pub verdict : Answer Unit
  verdict = pixel_answer (copy_depth bytes) (copy_width bytes) (copy_height bytes) (copy_pixels bytes)

  pub forward_judges : (plane work : List ℤ) → Formed bytes → max_pixels ≤ length plane → max_pixels ≤ length work
      → forward_answer (copy_depth bytes) (copy_levels bytes) (copy_width bytes) (copy_height bytes) (copy_pixels bytes) plane work ≡ verdict
  unfolding forward_answer
  forward_judges plane work f p q =
      let e = count f in
      let z = f.few in
      then_right (limit_answer (copy_depth bytes) (copy_levels bytes)) _ (asks_right (depth_right (copy_depth bytes) && levels_right (copy_levels bytes)) _ _ f.limited)
      ∙ sized_then (copy_width bytes) (copy_height bytes) (length (copy_pixels bytes)) (length plane) (length work) _
      ∙ then_right (room_answer (copy_width bytes) (copy_height bytes) (length (copy_pixels bytes)) (length plane) (length work)) _
      (sized_right _ _ _ _ _ (record { wide = f.wide; tall = f.tall; first = omega arith; second = omega arith; third = omega arith }))

  -- ---- the text of each answer

  pub text_form : (r : Reason) → copy_form bytes ≡ refused r → copy_text bytes ≡ refused_line r.0
  unfolding copy_text copy_answer copy_lines
  text_form r e = ap (λ (o : Answer Unit). copy_lines bytes (o then verdict)) e

  pub text_refused : (r : Reason) → copy_form bytes ≡ passed → verdict ≡ refused r → copy_text bytes ≡ refused_line r.0
  unfolding copy_text copy_answer copy_lines
  text_refused r e v = ap (λ (o : Answer Unit). copy_lines bytes (o then verdict)) e ∙ ap (copy_lines bytes) v

  pub text_done : copy_form bytes ≡ passed → verdict ≡ passed
      → copy_text bytes ≡ head_text (head_in bytes) ++ row_lines (copy_width bytes) (forward columns_first (copy_levels bytes) (copy_width bytes) (copy_height bytes) (sample (copy_pixels bytes) (copy_depth bytes) (copy_width bytes))) 0 (copy_height bytes)
  unfolding copy_text copy_answer copy_lines
  text_done e v = ap (λ (o : Answer Unit). copy_lines bytes (o then verdict)) e ∙ ap (copy_lines bytes) v

-- ---- rows of a plane that was written

pub rows_agree : (w : ℕ) (p q : Plane ℤ) (r n : ℕ) → ((i c : ℕ) → i < r + n → c < w → p i c ≡ q i c) → row_lines w p r n ≡ row_lines w q r n
unfolding row_lines
rows_agree w p q r zero e = refl
rows_agree w p q r (suc n) e = λ i. line (tabulate_same w (p r) (q r) (λ c h. e r c (omega arith) h) i) ++ rows_agree w p q (suc r) n (λ j c h. e j c (omega arith)) i

pub rows_written : (w h : ℕ) (q : Plane ℤ) (l old : List ℤ) → 1 ≤ w → l ≡ over (row_by_row w h q) old → row_lines w (plane_of w l) 0 h ≡ row_lines w q 0 h
rows_written w h q l old some e = rows_agree w (plane_of w l) q 0 h (λ r c i j.
    ap (λ (k : List ℤ). get_or k (r * w + c) (pos 0)) e
    ∙ get_or-append (row_by_row w h q) _ (pos 0) (r * w + c) (subst (λ (n : ℕ). r * w + c < n) (sym (rows_length w h some q)) (place_in w h some r c (omega arith) j))
    ∙ rows_at w h some q (pos 0) r c (omega arith) j)

-- ---- the call's answer

plane_written : (B L w h : ℕ) (pixels : List ℕ) (plane work : List ℤ) → forward_answer B L w h pixels plane work ≡ passed
    → forward_plane columns_first B L w h pixels plane work ≡ over (row_by_row w h (forward columns_first L w h (sample pixels B w))) plane
unfolding forward_plane
plane_written B L w h pixels plane work e = answered_done _ _ e

module _ (bytes : List ℕ) (head : Head) (is : head ≡ head_in bytes) (right : copy_form bytes ≡ passed) where
  formed : Formed bytes
  formed = form_done bytes right

  -- the sizes that the code counts with
  pub area : (head.w * head.h ≡ copy_size bytes) × (copy_size bytes ≤ max_pixels) × (length bytes ≡ head_bytes + 2 * copy_size bytes) × (1 ≤ head.w)
  area = (ap (λ (t : Head). t.w * t.h) is, formed.few, formed.exact, subst (λ (t : Head). 1 ≤ t.w) (sym is) formed.wide.0)

  module _ (old after : List ℕ) (plane work : List ℤ) (o : Answer Unit) (read : after ≡ over (copy_pixels bytes) old)
      (answer : o ≡ forward_answer head.depth head.levels head.w head.h (take (head.w * head.h) after) plane work)
      (for_plane : max_pixels ≤ length plane) (for_work : max_pixels ≤ length work) where
    same_pixels : take (head.w * head.h) after ≡ copy_pixels bytes
    same_pixels = ap (take (head.w * head.h)) read ∙ over_take (head.w * head.h) (copy_pixels bytes) old (count bytes formed ∙ sym area.0)

    judged : o ≡ verdict bytes
    judged = answer ∙ (λ i. forward_answer (is i).depth (is i).levels (is i).w (is i).h (same_pixels i) plane work) ∙ forward_judges bytes plane work formed for_plane for_work

    pub refused_text : (r : Reason) → o ≡ refused r → refused_line r.0 ≡ copy_text bytes
    refused_text r e = sym (text_refused bytes r right (sym judged ∙ e))

    pub plane_text : (new : List ℤ) → new ≡ forward_plane columns_first head.depth head.levels head.w head.h (take (head.w * head.h) after) plane work → o ≡ passed
        → head_text head ++ row_lines head.w (plane_of head.w new) 0 head.h ≡ copy_text bytes
    plane_text new e d =
        let v : verdict bytes ≡ passed = sym judged ∙ d in
        let written = e ∙ (λ i. forward_plane columns_first (is i).depth (is i).levels (is i).w (is i).h (same_pixels i) plane work)
        ∙ plane_written _ _ _ _ _ _ _ (forward_judges bytes plane work formed for_plane for_work ∙ v) in
        (λ i. head_text (is i) ++ row_lines (is i).w (plane_of (is i).w new) 0 (is i).h)
        ∙ ap (λ (t : List ℕ). head_text (head_in bytes) ++ t) (rows_written (copy_width bytes) (copy_height bytes) _ new plane formed.wide.0 written)
        ∙ sym (text_done bytes right v)

-- ---- what is written

pub listed_short : (bytes lent : List ℕ) → length lent < max_text → listed bytes lent ≡ []
unfolding listed
listed_short bytes lent h = ap (λ (t : Bool). elim t [ true ↦ copy_text bytes | false ↦ [] ]) (lt-leb max_text (length lent) h)

pub listed_whole : (bytes lent : List ℕ) → max_text ≤ length lent → listed bytes lent ≡ copy_text bytes
unfolding listed
listed_whole bytes lent h = ap (λ (t : Bool). elim t [ true ↦ copy_text bytes | false ↦ [] ]) (le-leb max_text (length lent) h)

-- what follows the first 8,199 bytes of an input does not change its text
pub enough : (bytes : List ℕ) → copy_text (take max_input bytes) ≡ copy_text bytes
enough bytes = go (dec_lt max_input (length bytes))
  where
    go : Dec (max_input < length bytes) → copy_text (take max_input bytes) ≡ copy_text bytes
    go (yes h) =
        let e = length-take-le max_input bytes (omega arith) in
        text_form (take max_input bytes) _ (form_too_long (take max_input bytes) (omega arith)) ∙ ap (λ (r : Reason). refused_line r.0) (why_same bytes max_input (omega arith)) ∙ sym (text_form bytes _ (form_too_long bytes (omega arith)))
    go (no f) = ap copy_text (take_all max_input bytes (omega arith))

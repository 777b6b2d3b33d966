-- The claims of the 5/3 calls, proved, in either order of rows and columns: what a done call made or gave (`makes_copy`, `gives_picture`),
-- there and back (`there_and_back`), back and there (`back_and_there`), and when the way back is done, and when it is refused 11
-- (`done_exactly`, `eleven_exactly`).
use Rattle.std.specs.Prelude.{ℕ, ◌+◌, ◌*◌, ◌-◌, ◌^◌, ◌<◌, ◌≤◌, Bool, true, false, ◌&&◌, ◌↔◌, ◌≡◌, refl, length, take, drop, ℤ, ◌+ℤ◌, ◌-ℤ◌}
use mathlib.Core.List.{List, [], map}
use Rattle.std.proofs.Common.{sym, ◌∙◌, arith, get_or-take, length-take-le}
use Rattle.std.proofs.Math.Path.{ap, subst}
use Rattle.std.proofs.Math.Dec.{T, ltb}
use Rattle.std.proofs.Math.ListN.{get_or, get_or-append}
use Rattle.std.proofs.Math.IntN.{pos, nat_abs}
use Rattle.numbers.specs.Tests.{every}
use Rattle.numbers.specs.Lists.{over}
use Rattle.refusals.specs.Answers.{refused, passed, asks, ◌then◌}
use Rattle.refusals.specs.AnswerLaws.{asks_done, asks_right, asks_wrong, asks_refused, then_done, then_right, answered_done}
use Rattle.lines.specs.PlaneLaws.{Agree}
use Rattle.lines.specs.RowLaws.{place_in, rows_length, rows_same, rows_take, every_row, rows_map}
use Rattle.width_table.specs.Table.{depth_right, levels_right}
use Rattle.pictures.specs.Pictures.{pixel_answer, sample, plane_of}
use Rattle.pictures.specs.PictureLaws.{Room, room_answer, sized_then, sized_done, sized_right, pixels_done, pixel_below, over_take, over_length}
use Rattle.reversible.specs.Reversible.{Order, forward, inverse}
use Rattle.reversible.specs.ReversibleLaws.{take-add, forward_agrees}
use Rattle.reversible.specs.Claims.{PixelsOf, copy_of, Copied, MakesCopy, ThereAndBack, GivesPicture, BackAndThere, ElevenExactly, DoneExactly}
use Rattle.reversible.proofs.PictureLaws.{goes_back, found_picture, found_plane, pixel_is, has_picture_lem}
use Rattle.reversible.specs.Calls.{limit_answer, forward_answer, forward_plane, pixels_back, is_pixel, has_picture, back_allowed, back_answer, back_pixels}

-- ---- there and back

allowed : (B L w h a b c : ℕ) → T (depth_right B && levels_right L) → Room w h a b c → limit_answer B L then room_answer w h a b c ≡ passed
allowed B L w h a b c d r = then_right (limit_answer B L) _ (asks_right (depth_right B && levels_right L) _ _ d) ∙ sized_right w h a b c r

-- what a done forward call tells
record ForwardDone (B L w h : ℕ) (pixels : List ℕ) (plane work : List ℤ) : Type 0 where
  limits : T (depth_right B && levels_right L)
  room : Room w h (length pixels) (length plane) (length work)
  right : T (every (λ p. ltb p (2 ^ B)) (take (w * h) pixels))

forward_done : (B L w h : ℕ) (pixels : List ℕ) (plane work : List ℤ) → forward_answer B L w h pixels plane work ≡ passed → ForwardDone B L w h pixels plane work
unfolding forward_answer
forward_done B L w h pixels plane work e =
    let a = then_done (limit_answer B L) _ e in
    let b = then_done (room_answer w h (length pixels) (length plane) (length work)) _ (sym (sized_then w h (length pixels) (length plane) (length work) _) ∙ a.1) in
    record {
      limits = (asks_done (depth_right B && levels_right L) _ _ a.0).0;
      room = sized_done w h (length pixels) (length plane) (length work) b.0;
      right = pixels_done B w h pixels b.1;
    }

module _ (order : Order) (B L w h : ℕ) (pixels : List ℕ) (plane work : List ℤ) (e : forward_answer B L w h pixels plane work ≡ passed) where
  abbrev made : List ℤ
  made = forward_plane order B L w h pixels plane work

  facts : ForwardDone B L w h pixels plane work
  facts = forward_done B L w h pixels plane work e

  some_w : 1 ≤ w
  some_w = facts.room.wide.0

  is_over : made ≡ over (copy_of order B L w h pixels) plane
  unfolding forward_plane
  is_over = answered_done (over (copy_of order B L w h pixels) plane) plane e

  long : length (copy_of order B L w h pixels) ≡ w * h
  long = rows_length w h some_w (forward order L w h (sample pixels B w))

  room_made : w * h ≤ length made
  room_made = subst (λ (l : List ℤ). w * h ≤ length l) (sym is_over) (omega (arith, long, over_length (copy_of order B L w h pixels) plane))

  front : copy_of order B L w h pixels ≡ take (w * h) made
  front = sym (ap (take (w * h)) is_over ∙ over_take (w * h) (copy_of order B L w h pixels) plane long)

  value : (r c : ℕ) → r < h → c < w → inverse order L w h (plane_of w made) r c +ℤ pos (2 ^ (B - 1)) ≡ pos (get_or pixels (r * w + c) 0)
  unfolding sample
  value r c i j =
      ap (λ (z : ℤ). z +ℤ pos (2 ^ (B - 1))) (goes_back order B L w h some_w made room_made (sample pixels B w) front r c i j)
      ∙ take-add (pos (get_or pixels (r * w + c) 0)) (pos (2 ^ (B - 1)))

  pixel_right : (r c : ℕ) → r < h → c < w → get_or pixels (r * w + c) 0 < 2 ^ B
  pixel_right r c i j = pixel_below B w h pixels facts.room.first facts.right (r * w + c) (place_in w h some_w r c i j)

  has : T (has_picture order B L w h made)
  unfolding has_picture pixels_back
  has = every_row w h some_w (is_pixel B) (λ r c. inverse order L w h (plane_of w made) r c +ℤ pos (2 ^ (B - 1)))
      (λ r c i j. subst (λ (z : ℤ). T (is_pixel B z)) (sym (value r c i j)) (pixel_is B (get_or pixels (r * w + c) 0) (pixel_right r c i j)))

  same_pixels : map nat_abs (pixels_back order B L w h made) ≡ take (w * h) pixels
  unfolding pixels_back
  same_pixels =
      rows_map nat_abs w h (λ r c. inverse order L w h (plane_of w made) r c +ℤ pos (2 ^ (B - 1)))
      ∙ rows_same w h some_w _ (λ r c. get_or pixels (r * w + c) 0) (λ r c i j. ap nat_abs (value r c i j))
      ∙ rows_take w h some_w pixels 0 facts.room.first

  read_picture : PixelsOf B w h (take (w * h) pixels)
  read_picture = record { long = length-take-le (w * h) pixels facts.room.first; right = facts.right }

  read_copy : copy_of order B L w h (take (w * h) pixels) ≡ take (w * h) made
  unfolding sample
  read_copy =
      rows_same w h some_w _ _ (forward_agrees order L w h (sample (take (w * h) pixels) B w) (sample pixels B w)
      (λ r c i j. ap (λ (n : ℕ). pos n -ℤ pos (2 ^ (B - 1))) (get_or-take (w * h) pixels (r * w + c) 0 (place_in w h some_w r c i j))))
      ∙ front

  module _ (shown : List ℕ) (area : List ℤ) (rs : w * h ≤ length shown) (ra : w * h ≤ length area) where
    goes_back_done : back_answer order B L w h made shown area ≡ passed
    unfolding back_answer back_allowed
    goes_back_done =
        let f = facts in
        then_right (back_allowed B L w h made shown area) _ (allowed B L w h (length shown) (length made) (length area) f.limits (record { wide = f.room.wide; tall = f.room.tall; first = rs; second = room_made; third = ra }))
        ∙ asks_right (has_picture order B L w h made) _ _ has

    goes_back_same : back_pixels order B L w h made shown area ≡ over (take (w * h) pixels) shown
    unfolding back_pixels
    goes_back_same = answered_done (over (map nat_abs (pixels_back order B L w h made)) shown) shown goes_back_done ∙ ap (λ (l : List ℕ). over l shown) same_pixels

pub makes_copy : MakesCopy
makes_copy order B L w h pixels plane work e = (read_picture order B L w h pixels plane work e, read_copy order B L w h pixels plane work e)

pub there_and_back : ThereAndBack
there_and_back order B L w h pixels plane work e shown area rs ra =
    (goes_back_done order B L w h pixels plane work e shown area rs ra, goes_back_same order B L w h pixels plane work e shown area rs ra)

-- ---- back and there

record BackDone (order : Order) (B L w h : ℕ) (plane : List ℤ) (pixels : List ℕ) (work : List ℤ) : Type 0 where
  limits : T (depth_right B && levels_right L)
  room : Room w h (length pixels) (length plane) (length work)
  right : T (has_picture order B L w h plane)

back_done : (order : Order) (B L w h : ℕ) (plane : List ℤ) (pixels : List ℕ) (work : List ℤ) → back_answer order B L w h plane pixels work ≡ passed → BackDone order B L w h plane pixels work
unfolding back_answer back_allowed
back_done order B L w h plane pixels work e =
    let a = then_done (back_allowed B L w h plane pixels work) _ e in
    let b = then_done (limit_answer B L) _ a.0 in
    record {
      limits = (asks_done (depth_right B && levels_right L) _ _ b.0).0;
      room = sized_done w h (length pixels) (length plane) (length work) b.1;
      right = (asks_done (has_picture order B L w h plane) _ _ a.1).0;
    }

module _ (order : Order) (B L w h : ℕ) (plane : List ℤ) (pixels : List ℕ) (work : List ℤ) (e : back_answer order B L w h plane pixels work ≡ passed) where
  abbrev picture : List ℕ
  picture = back_pixels order B L w h plane pixels work

  known : BackDone order B L w h plane pixels work
  known = back_done order B L w h plane pixels work e

  big_w : 1 ≤ w
  big_w = known.room.wide.0

  abbrev came : List ℕ
  came = map nat_abs (pixels_back order B L w h plane)

  right_came : PixelsOf B w h came
  right_came = found_picture order B L w h big_w plane known.room.second known.right

  over_came : picture ≡ over came pixels
  unfolding back_pixels
  over_came = answered_done (over came pixels) pixels e

  front_came : take (w * h) picture ≡ came
  front_came = ap (take (w * h)) over_came ∙ over_take (w * h) came pixels right_came.long

  room_picture : w * h ≤ length picture
  room_picture = subst (λ (l : List ℕ). w * h ≤ length l) (sym over_came) (omega (arith, right_came.long, over_length came pixels))

  same_samples : Agree w h (sample picture B w) (sample came B w)
  unfolding sample
  same_samples r c i j =
      ap (λ (l : List ℕ). pos (get_or l (r * w + c) 0) -ℤ pos (2 ^ (B - 1))) over_came
      ∙ ap (λ (n : ℕ). pos n -ℤ pos (2 ^ (B - 1))) (get_or-append came (drop (length came) pixels) 0 (r * w + c) (subst (λ (n : ℕ). r * w + c < n) (sym right_came.long) (place_in w h big_w r c i j)))

  same_plane : copy_of order B L w h picture ≡ take (w * h) plane
  same_plane =
      rows_same w h big_w (forward order L w h (sample picture B w)) (forward order L w h (sample came B w)) (forward_agrees order L w h (sample picture B w) (sample came B w) same_samples)
      ∙ found_plane order B L w h big_w plane known.room.second known.right

  given_picture : PixelsOf B w h (take (w * h) picture) × (copy_of order B L w h (take (w * h) picture) ≡ take (w * h) plane)
  given_picture =
      subst (λ (l : List ℕ). PixelsOf B w h l × (copy_of order B L w h l ≡ take (w * h) plane)) (sym front_came)
      (right_came, found_plane order B L w h big_w plane known.room.second known.right)

  module _ (out area : List ℤ) (ro : w * h ≤ length out) (ra : w * h ≤ length area) where
    comes_forward_done : forward_answer B L w h picture out area ≡ passed
    unfolding forward_answer pixel_answer
    comes_forward_done =
        let k = known in
        let a = then_done (limit_answer B L) _ (allowed B L w h (length picture) (length out) (length area) k.limits (record { wide = k.room.wide; tall = k.room.tall; first = room_picture; second = ro; third = ra })) in
        then_right (limit_answer B L) _ a.0
        ∙ sized_then w h (length picture) (length out) (length area) _
        ∙ then_right (room_answer w h (length picture) (length out) (length area)) _ a.1
        ∙ asks_right (every (λ p. ltb p (2 ^ B)) (take (w * h) picture)) _ _ (subst (λ (l : List ℕ). T (every (λ p. ltb p (2 ^ B)) l)) (sym front_came) right_came.right)

    comes_forward_same : forward_plane order B L w h picture out area ≡ over (take (w * h) plane) out
    unfolding forward_plane
    comes_forward_same = answered_done (over (copy_of order B L w h picture) out) out comes_forward_done ∙ ap (λ (l : List ℤ). over l out) same_plane

pub gives_picture : GivesPicture
gives_picture = given_picture

pub back_and_there : BackAndThere
back_and_there order B L w h plane pixels work e out area ro ra =
    (comes_forward_done order B L w h plane pixels work e out area ro ra, comes_forward_same order B L w h plane pixels work e out area ro ra)

-- ---- 11, where 4, 8 and 9 do not apply

module _ (order : Order) (B L w h : ℕ) (plane : List ℤ) (pixels : List ℕ) (work : List ℤ) (e : back_allowed B L w h plane pixels work ≡ passed) where
  -- the answer goes by the last rule alone
  by_picture : back_answer order B L w h plane pixels work ≡ asks (has_picture order B L w h plane) 11 passed
  unfolding back_answer
  by_picture = then_right (back_allowed B L w h plane pixels work) _ e

  room_back : Room w h (length pixels) (length plane) (length work)
  unfolding back_allowed
  room_back = sized_done w h (length pixels) (length plane) (length work) (then_done (limit_answer B L) _ e).1

  exactly : T (has_picture order B L w h plane) ↔ Copied order B L w h plane
  exactly = has_picture_lem order B L w h room_back.wide.0 plane room_back.second

  done_by_picture : (back_answer order B L w h plane pixels work ≡ passed) ↔ Copied order B L w h plane
  done_by_picture = (
    λ d. exactly.0 (asks_done (has_picture order B L w h plane) (11, []) passed (sym by_picture ∙ d)).0,
    λ c. by_picture ∙ asks_right (has_picture order B L w h plane) (11, []) passed (exactly.1 c),
  )

  eleven_by_picture : (back_answer order B L w h plane pixels work ≡ refused (11, [])) ↔ (Copied order B L w h plane → ⊥)
  eleven_by_picture = (
    λ d c. subst T (asks_refused (has_picture order B L w h plane) (11, []) (11, []) tt (sym by_picture ∙ d)) (exactly.1 c),
    λ none. by_picture ∙ asks_wrong (has_picture order B L w h plane) (11, []) passed (wrong (has_picture order B L w h plane) (λ t. none (exactly.0 t))),
  )
    where
      wrong : (t : Bool) → (T t → ⊥) → t ≡ false
      wrong true f = absurd (f tt)
      wrong false f = refl

pub done_exactly : DoneExactly
done_exactly = done_by_picture

pub eleven_exactly : ElevenExactly
eleven_exactly = eleven_by_picture

-- What the numbers of suz_forward53, suz_inverse53 and suz_inverse53_rows_first promise (demand 2; document 02, job 4).
-- suz_forward53 and suz_inverse53 have the order `columns_first`, suz_inverse53_rows_first has `rows_first`.
use Rattle.std.specs.Prelude.{ℕ, ◌*◌, ◌≤◌, List, [], ◌∷◌, ◌↔◌, ◌≡◌, refl, length, take, ℤ, pos, negsuc}
use Rattle.std.proofs.Common.{sym, ◌∙◌, ap}
use Rattle.numbers.specs.Tests.{every}
use Rattle.numbers.specs.Lists.{over}
use Rattle.refusals.specs.Answers.{Answer, passed, code}
use Rattle.refusals.specs.AnswerLaws.{then_done}
use Rattle.lines.specs.Lines.{low_after, high_before, high_after, on_highs, on_lows, interleaved}
use Rattle.lines.specs.Planes.{from_one, tabulate, row_by_row, rows, columns, within, side, level_rows_first, level_columns_first, inverse_levels}
use Rattle.pictures.specs.Pictures.{side_answer, length_answer, pixel_answer}
use Rattle.reversible.specs.Reversible.{Order, columns_first, rows_first, inverse_predict, inverse_update, low_inverse, high_inverse, inverse_long, inverse_pass, inverse}
use Rattle.reversible.specs.Calls.{forward_answer, forward_plane, pixels_back, has_picture, back_allowed, back_answer, back_pixels}
use Rattle.reversible.specs.Claims.{PixelsOf, copy_of, Copied}
use Rattle.reversible.proofs.CallLaws.{makes_copy, there_and_back, gives_picture, back_and_there, done_exactly, eleven_exactly}
use Rattle.reversible.proofs.OneToOne.{one_picture}
use Rattle.engine.specs.Zero.{zero53, back_zero53, back_eleven53}

-- the number of an answer that is known
numbered : {a b : Answer Unit} → a ≡ b → code a ≡ code b
numbered e = ap (λ (o : Answer Unit). code o) e

-- ---- where suz_forward53 answers 0

module _ (B L w h : ℕ) (pixels : List ℕ) (plane work : List ℤ) (zero : code (forward_answer B L w h pixels plane work) ≡ 0) where
  -- the plane that it left
  abbrev left : List ℤ
  left = forward_plane columns_first B L w h pixels plane work

  module _ (shown : List ℕ) (area : List ℤ) (a : w * h ≤ length shown) (b : w * h ≤ length area) where
    returned : (back_answer columns_first B L w h left shown area ≡ passed) × (back_pixels columns_first B L w h left shown area ≡ over (take (w * h) pixels) shown)
    returned = there_and_back columns_first B L w h pixels plane work (zero53 B L w h pixels plane work zero) shown area a b

    -- suz_inverse53 answers 0 for the plane that it left, whatever pixels and work area are lent that are long enough,
    pub copy_goes_back : code (back_answer columns_first B L w h left shown area) ≡ 0
    copy_goes_back = numbered returned.0

    -- and the pixels then are the same picture.
    pub copy_same_pixels : back_pixels columns_first B L w h left shown area ≡ over (take (w * h) pixels) shown
    copy_same_pixels = returned.1

-- Two pictures for which suz_forward53 answers 0 and leaves the same plane are the same picture.
pub one_plane_one_picture : (B L w h : ℕ) (p : List ℕ) (plane work : List ℤ) (p' : List ℕ) (plane' work' : List ℤ)
    → code (forward_answer B L w h p plane work) ≡ 0 → code (forward_answer B L w h p' plane' work') ≡ 0
    → take (w * h) (forward_plane columns_first B L w h p plane work) ≡ take (w * h) (forward_plane columns_first B L w h p' plane' work')
    → take (w * h) p ≡ take (w * h) p'
one_plane_one_picture B L w h p plane work p' plane' work' zero zero' same =
    let (a, u) = makes_copy columns_first B L w h p plane work (zero53 B L w h p plane work zero) in
    let (b, v) = makes_copy columns_first B L w h p' plane' work' (zero53 B L w h p' plane' work' zero') in
    one_picture columns_first B L w h (take (w * h) p) (take (w * h) p') a b (u ∙ same ∙ sym v)

-- ---- where suz_inverse53 answers 0

module _ (B L w h : ℕ) (plane : List ℤ) (pixels : List ℕ) (work : List ℤ) (zero : code (back_answer columns_first B L w h plane pixels work) ≡ 0)
    (out area : List ℤ) (a : w * h ≤ length out) (b : w * h ≤ length area) where
  -- the pixels that it gave
  abbrev given : List ℕ
  given = back_pixels columns_first B L w h plane pixels work

  copied_again : (forward_answer B L w h given out area ≡ passed) × (forward_plane columns_first B L w h given out area ≡ over (take (w * h) plane) out)
  copied_again = back_and_there columns_first B L w h plane pixels work (back_zero53 columns_first B L w h plane pixels work zero) out area a b

  -- suz_forward53 answers 0 for the picture that it gave, whatever plane and work area are lent that are long enough,
  pub back_comes_forward : code (forward_answer B L w h given out area) ≡ 0
  back_comes_forward = numbered copied_again.0

  -- and the plane then is the same.
  pub back_same_plane : forward_plane columns_first B L w h given out area ≡ over (take (w * h) plane) out
  back_same_plane = copied_again.1

-- ---- either way back

module _ (order : Order) (B L w h : ℕ) (plane : List ℤ) (pixels : List ℕ) (work : List ℤ) where
  -- Where it answers 0, it gave a picture of that depth and size, and the plane is that picture's transform in the order of the call: by
  -- suz_inverse53_rows_first the rows-first transform, which no call makes any more.
  pub back_gives_picture : code (back_answer order B L w h plane pixels work) ≡ 0
      → let picture = take (w * h) (back_pixels order B L w h plane pixels work) in
      PixelsOf B w h picture × (copy_of order B L w h picture ≡ take (w * h) plane)
  back_gives_picture zero = gives_picture order B L w h plane pixels work (back_zero53 order B L w h plane pixels work zero)

  -- It answers 0 exactly where 4, 8 and 9 do not apply and a picture of that depth and size has the plane in the order of the call,
  pub back_zero_exactly : (code (back_answer order B L w h plane pixels work) ≡ 0) ↔ ((back_allowed B L w h plane pixels work ≡ passed) × Copied order B L w h plane)
  unfolding back_answer
  back_zero_exactly = (
    λ zero.
        let e = back_zero53 order B L w h plane pixels work zero in
        let a = (then_done (back_allowed B L w h plane pixels work) _ e).0 in
        (a, (done_exactly order B L w h plane pixels work a).0 e),
    λ s. numbered ((done_exactly order B L w h plane pixels work s.0).1 s.1),
  )

  -- and 11 exactly where they do not apply and none has.
  pub back_eleven_exactly : (code (back_answer order B L w h plane pixels work) ≡ 11) ↔ ((back_allowed B L w h plane pixels work ≡ passed) × (Copied order B L w h plane → ⊥))
  back_eleven_exactly = (
    λ eleven.
        let (a, e) = back_eleven53 order B L w h plane pixels work eleven in
        (a, (eleven_exactly order B L w h plane pixels work a).0 e),
    λ s. numbered ((eleven_exactly order B L w h plane pixels work s.0).1 s.1),
  )

-- ---- and no premise is empty: pictures of 2 by 2 pixels, three bits, one level

-- lent memory
abbrev blank : List ℤ
blank = pos 0 ∷ pos 0 ∷ pos 0 ∷ pos 0 ∷ []

abbrev white : List ℕ
white = 0 ∷ 0 ∷ 0 ∷ 0 ∷ []

pub record Answers53 : Type 0 where
  -- document 01's listing: suz_forward53 answers 0 for 5 7 over 4 4,
  pub copied : code (forward_answer 3 1 2 2 (5 ∷ 7 ∷ 4 ∷ 4 ∷ []) blank blank) ≡ 0
  -- suz_inverse53 for its copy, 2 1 over -2 -2,
  pub restored : code (back_answer columns_first 3 1 2 2 (pos 2 ∷ pos 1 ∷ negsuc 1 ∷ negsuc 1 ∷ []) white blank) ≡ 0
  -- and suz_inverse53_rows_first for the earlier one, 1 1 over -2 -2.
  pub restored_earlier : code (back_answer rows_first 3 1 2 2 (pos 1 ∷ pos 1 ∷ negsuc 1 ∷ negsuc 1 ∷ []) white blank) ≡ 0
  -- 11: 4 0 over 0 0 would be a picture of pixels 8,
  pub no_picture : code (back_answer columns_first 3 1 2 2 (pos 4 ∷ pos 0 ∷ pos 0 ∷ pos 0 ∷ []) white blank) ≡ 11
  -- and the new copy is none of the earlier ones.
  pub no_picture_earlier : code (back_answer rows_first 3 1 2 2 (pos 2 ∷ pos 1 ∷ negsuc 1 ∷ negsuc 1 ∷ []) white blank) ≡ 11

pub answers53 : Answers53
unfolding forward_answer pixels_back has_picture back_allowed back_answer side_answer length_answer pixel_answer every tabulate row_by_row rows columns within side level_rows_first level_columns_first inverse_levels from_one inverse_predict inverse_update low_inverse high_inverse inverse_pass inverse_long inverse on_highs on_lows low_after high_before high_after interleaved
answers53 = record { copied = refl; restored = refl; restored_earlier = refl; no_picture = refl; no_picture_earlier = refl }

-- The 5/3 calls (document 01: why a strip or book comes back): the answer, and each lent slice afterwards. Transform and refusal 11 go by
-- the order of rows and columns of the call (document 02, job 4).
use Rattle.std.specs.Prelude.{ℕ, ◌*◌, ◌-◌, ◌^◌, Bool, ◌&&◌, List, map, length, ℤ, pos, nat_abs, ◌+ℤ◌}
use Rattle.std.specs.Int.Signed.{le_z, lt_z}
use Rattle.numbers.specs.Tests.{every}
use Rattle.numbers.specs.Lists.{over}
use Rattle.refusals.specs.Answers.{Answer, passed, asks, ◌then◌, answered}
use Rattle.lines.specs.Planes.{row_by_row}
use Rattle.width_table.specs.Table.{depth_right, levels_right}
use Rattle.pictures.specs.Pictures.{side_answer, length_answer, pixel_answer, sample, plane_of}
use Rattle.slices.specs.Fronts.{zeroed}
use Rattle.reversible.specs.Reversible.{Order, forward, inverse}

-- 4: depth and levels are within their limits
abbrev pub limit_answer : ℕ → ℕ → Answer Unit
limit_answer B L = asks (depth_right B && levels_right L) 4 passed

-- ---- forward: 4, 8, 9, 10

module _ (B L w h : ℕ) (pixels : List ℕ) (plane work : List ℤ) where
  unfoldable pub forward_answer : Answer Unit
  forward_answer =
      limit_answer B L
      then side_answer w h
      then length_answer (w * h) (length pixels)
      then length_answer (w * h) (length plane)
      then length_answer (w * h) (length work)
      then pixel_answer B w h pixels

  unfoldable pub forward_work : List ℤ
  forward_work = answered forward_answer (zeroed (w * h) work) work

module _ (order : Order) (B L w h : ℕ) (pixels : List ℕ) (plane work : List ℤ) where
  unfoldable pub forward_plane : List ℤ
  forward_plane = answered (forward_answer B L w h pixels plane work) (over (row_by_row w h (forward order L w h (sample pixels B w))) plane) plane

-- ---- back: 4, 8, 9, 11

-- what the way back gives where each pixel would lie
unfoldable pub pixels_back : Order → ℕ → ℕ → ℕ → ℕ → List ℤ → List ℤ
pixels_back order B L w h plane = row_by_row w h (λ r c. inverse order L w h (plane_of w plane) r c +ℤ pos (2 ^ (B - 1)))

-- from 0 to 2^B - 1
abbrev pub is_pixel : ℕ → ℤ → Bool
is_pixel B z = le_z (pos 0) z && lt_z z (pos (2 ^ B))

-- The way back of that order gives a pixel, 0 to 2^B - 1, at every place (has_picture_lem of PictureLaws: exactly then a picture has the plane).
unfoldable pub has_picture : Order → ℕ → ℕ → ℕ → ℕ → List ℤ → Bool
has_picture order B L w h plane = every (is_pixel B) (pixels_back order B L w h plane)

module _ (B L w h : ℕ) (plane : List ℤ) (pixels : List ℕ) (work : List ℤ) where
  unfoldable pub back_allowed : Answer Unit
  back_allowed =
      limit_answer B L
      then side_answer w h
      then length_answer (w * h) (length pixels)
      then length_answer (w * h) (length plane)
      then length_answer (w * h) (length work)

  -- 11 zeroes it too
  unfoldable pub back_work : List ℤ
  back_work = answered back_allowed (zeroed (w * h) work) work

module _ (order : Order) (B L w h : ℕ) (plane : List ℤ) (pixels : List ℕ) (work : List ℤ) where
  unfoldable pub back_answer : Answer Unit
  back_answer = back_allowed B L w h plane pixels work then asks (has_picture order B L w h plane) 11 passed

  unfoldable pub back_pixels : List ℕ
  back_pixels = answered back_answer (over (map nat_abs (pixels_back order B L w h plane)) pixels) pixels

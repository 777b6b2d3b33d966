-- What holds of exact copies (demand 2; document 02, job 4), in either order of rows and columns. Proved in CallLaws and OneToOne.
-- No call makes copies rows before columns any more: of those, a claim speaks of the plane that `forward_plane` defines.
use Rattle.std.specs.Prelude.{ℕ, ◌*◌, ◌^◌, ◌≤◌, List, [], ◌↔◌, ◌≡◌, T, ltb, length, take, ℤ}
use Rattle.numbers.specs.Tests.{every}
use Rattle.numbers.specs.Lists.{over}
use Rattle.refusals.specs.Answers.{refused, passed}
use Rattle.lines.specs.Planes.{row_by_row}
use Rattle.pictures.specs.Pictures.{sample}
use Rattle.reversible.specs.Reversible.{Order, forward}
use Rattle.reversible.specs.Calls.{forward_answer, forward_plane, back_allowed, back_answer, back_pixels}

-- ---- pictures and their copies

-- A picture of depth B, w pixels wide and h high: w * h pixels, each below 2^B.
pub record PixelsOf (B w h : ℕ) (pixels : List ℕ) : Type 0 where
  pub long : length pixels ≡ w * h
  pub right : T (every (λ p. ltb p (2 ^ B)) pixels)

-- its exact copy of L levels in an order: the 5/3 plane, row by row
abbrev pub copy_of : Order → ℕ → ℕ → ℕ → ℕ → List ℕ → List ℤ
copy_of order B L w h pixels = row_by_row w h (forward order L w h (sample pixels B w))

-- The plane is the transform, in that order, of a picture of that depth and size.
abbrev pub Copied : Order → ℕ → ℕ → ℕ → ℕ → List ℤ → Type 0
Copied order B L w h plane = (picture : List ℕ) × PixelsOf B w h picture × (copy_of order B L w h picture ≡ take (w * h) plane)

-- ---- forward, then back

-- "The exact copy is the reversible 5/3 filter" (demand 2): where the forward call is done, the pixels are a picture of that depth and
-- size, and the plane that it left is the picture's copy.
abbrev pub MakesCopy : Type 0
MakesCopy =
    (order : Order) (B L w h : ℕ) (pixels : List ℕ) (plane work : List ℤ) → forward_answer B L w h pixels plane work ≡ passed
    → let picture = take (w * h) pixels in
    PixelsOf B w h picture × (copy_of order B L w h picture ≡ take (w * h) (forward_plane order B L w h pixels plane work))

-- "and it goes back to the same picture" (demand 2): the way back of that order is then done for the plane that was left, whatever pixels
-- and work area are lent that are long enough, and gives the same pixels.
abbrev pub ThereAndBack : Type 0
ThereAndBack =
    (order : Order) (B L w h : ℕ) (pixels : List ℕ) (plane work : List ℤ) → forward_answer B L w h pixels plane work ≡ passed
    → (shown : List ℕ) (area : List ℤ) → w * h ≤ length shown → w * h ≤ length area
    → let copy = forward_plane order B L w h pixels plane work in
    (back_answer order B L w h copy shown area ≡ passed) × (back_pixels order B L w h copy shown area ≡ over (take (w * h) pixels) shown)

-- ---- back, then forward

-- Where the way back is done, it gave a picture of that depth and size, and the plane is that picture's copy in the order of the call
-- ("Demand 2 and refusal 11 go by the order of the call": document 02, job 4).
abbrev pub GivesPicture : Type 0
GivesPicture =
    (order : Order) (B L w h : ℕ) (plane : List ℤ) (pixels : List ℕ) (work : List ℤ) → back_answer order B L w h plane pixels work ≡ passed
    → let picture = take (w * h) (back_pixels order B L w h plane pixels work) in
    PixelsOf B w h picture × (copy_of order B L w h picture ≡ take (w * h) plane)

-- "a plane that goes back comes out the same when worked forward" (demand 2), whatever plane and work area are lent that are long enough
abbrev pub BackAndThere : Type 0
BackAndThere =
    (order : Order) (B L w h : ℕ) (plane : List ℤ) (pixels : List ℕ) (work : List ℤ) → back_answer order B L w h plane pixels work ≡ passed
    → (out area : List ℤ) → w * h ≤ length out → w * h ≤ length area
    → let picture = back_pixels order B L w h plane pixels work in
    (forward_answer B L w h picture out area ≡ passed) × (forward_plane order B L w h picture out area ≡ over (take (w * h) plane) out)

-- ---- uniqueness

-- "return and uniqueness hold within each order" (document 02, job 4): two pictures with one transform are equal.
abbrev pub OnePicture : Type 0
OnePicture =
    (order : Order) (B L w h : ℕ) (p q : List ℕ) → PixelsOf B w h p → PixelsOf B w h q
    → copy_of order B L w h p ≡ copy_of order B L w h q → p ≡ q

-- ---- the way back, where 4, 8 and 9 do not apply

-- It is refused 11 exactly where "the 5/3 plane is the transform of no picture of that depth and size" (document 01, refusal 11),
abbrev pub ElevenExactly : Type 0
ElevenExactly =
    (order : Order) (B L w h : ℕ) (plane : List ℤ) (pixels : List ℕ) (work : List ℤ) → back_allowed B L w h plane pixels work ≡ passed
    → (back_answer order B L w h plane pixels work ≡ refused (11, [])) ↔ (Copied order B L w h plane → ⊥)

-- and done exactly where one has it.
abbrev pub DoneExactly : Type 0
DoneExactly =
    (order : Order) (B L w h : ℕ) (plane : List ℤ) (pixels : List ℕ) (work : List ℤ) → back_allowed B L w h plane pixels work ≡ passed
    → (back_answer order B L w h plane pixels work ≡ passed) ↔ Copied order B L w h plane

-- Refusal 11: the way back leaves the pixels' range exactly where no picture of that depth and size has the plane in that order.
use Rattle.std.specs.Prelude.{ℕ, ◌+◌, ◌*◌, ◌-◌, ◌/◌, ◌%◌, ◌^◌, ◌<◌, ◌≤◌, Bool, List, [], ◌∷◌, map, ◌↔◌, ◌≡◌, refl, take, negsuc, ◌+ℤ◌, ◌-ℤ◌}
use Rattle.std.proofs.Common.{sym, ◌∙◌, mul_comm, mod-lt, div-add-mod', div-lt_iff_lt-mul, arith, le→leb, lt→ltb, ltb→lt, get_or-take}
use Rattle.std.proofs.Math.Path.{ap, subst}
use Rattle.std.proofs.Math.Dec.{T, ltb}
use Rattle.std.proofs.Math.ListN.{length, get_or, length-map, get_or-map}
use Rattle.std.proofs.Math.IntN.{ℤ, pos, nat_abs}
use Rattle.std.specs.Int.Signed.{le_z, lt_z}
use Rattle.lines.specs.Planes.{Plane, row_by_row}
use Rattle.pictures.specs.Pictures.{sample, plane_of}
use Rattle.numbers.specs.Tests.{every, both, and_intro}
use Rattle.reversible.specs.Reversible.{Order, forward, inverse}
use Rattle.lines.specs.PlaneLaws.{Agree}
use Rattle.reversible.specs.ReversibleLaws.{take-add, add_take, forward_back, back_forward, forward_agrees, back_agrees}
use Rattle.lines.specs.RowLaws.{place_in, rows_length, rows_at, rows_same, rows_take, every_at, every_row, every_row_at}
use Rattle.reversible.specs.Calls.{pixels_back, is_pixel, has_picture}
use Rattle.reversible.specs.Claims.{PixelsOf, copy_of, Copied}

-- what holds at each row and column holds at each place
pub by_place : (P : ℕ → Type 0) (w h : ℕ) → 1 ≤ w → ((r c : ℕ) → r < h → c < w → P (r * w + c)) → (k : ℕ) → k < w * h → P k
by_place P w h some f k i = subst P (div-add-mod' k w) (f (k / w) (k % w) ((div-lt_iff_lt-mul some).1 (subst (λ (n : ℕ). k < n) (mul_comm w h) i)) (mod-lt k some))

every_map : {A C : Type 0} (k : A → C) (f : A → Bool) (g : C → Bool) → ((a : A) → T (f a) → T (g (k a))) → (l : List A) → T (every f l) → T (every g (map k l))
unfolding every
every_map k f g h [] t = tt
every_map k f g h (a ∷ l) t =
    let x = both (f a) (every f l) t in
    and_intro (g (k a)) (every g (map k l)) (h a x.0) (every_map k f g h l x.1)

-- a pixel's value is a number below 2^B
pixel_size : (B : ℕ) (z : ℤ) → T (is_pixel B z) → T (ltb (nat_abs z) (2 ^ B))
pixel_size B (pos n) t = (both (le_z (pos 0) (pos n)) (lt_z (pos n) (pos (2 ^ B))) t).1
pixel_size B (negsuc n) t = absurd t

pixel_pos : (B : ℕ) (z : ℤ) → T (is_pixel B z) → pos (nat_abs z) ≡ z
pixel_pos B (pos n) t = refl
pixel_pos B (negsuc n) t = absurd t

pub pixel_is : (B n : ℕ) → n < 2 ^ B → T (is_pixel B (pos n))
pixel_is B n h = and_intro (le_z (pos 0) (pos n)) (lt_z (pos n) (pos (2 ^ B))) (le→leb 0 n (omega arith)) (lt→ltb n (2 ^ B) h)

module _ (order : Order) (B L w h : ℕ) (some_w : 1 ≤ w) (plane : List ℤ) (room : w * h ≤ length plane) where
  -- a list that is the plane of samples s goes back to them
  pub goes_back : (s : Plane ℤ) → row_by_row w h (forward order L w h s) ≡ take (w * h) plane → Agree w h (inverse order L w h (plane_of w plane)) s
  goes_back s e r c i j =
      back_agrees order L w h (plane_of w plane) (forward order L w h s) same r c i j ∙ ap (λ (p : Plane ℤ). p r c) (forward_back order L w h s)
    where
      same : Agree w h (plane_of w plane) (forward order L w h s)
      same r c i j =
          sym (get_or-take (w * h) plane (r * w + c) (pos 0) (place_in w h some_w r c i j))
          ∙ ap (λ (l : List ℤ). get_or l (r * w + c) (pos 0)) (sym e)
          ∙ rows_at w h some_w (forward order L w h s) (pos 0) r c i j

  pub picture_found : (pixels : List ℕ) → PixelsOf B w h pixels → copy_of order B L w h pixels ≡ take (w * h) plane → T (has_picture order B L w h plane)
  unfolding has_picture pixels_back sample
  picture_found pixels pic e =
      every_row w h some_w (is_pixel B) (λ r c. inverse order L w h (plane_of w plane) r c +ℤ pos (2 ^ (B - 1))) at
    where
      at : (r c : ℕ) → r < h → c < w → T (is_pixel B (inverse order L w h (plane_of w plane) r c +ℤ pos (2 ^ (B - 1))))
      at r c i j =
          let p = get_or pixels (r * w + c) 0 in
          let v : inverse order L w h (plane_of w plane) r c +ℤ pos (2 ^ (B - 1)) ≡ pos p = ap (λ (z : ℤ). z +ℤ pos (2 ^ (B - 1))) (goes_back (sample pixels B w) e r c i j) ∙ take-add (pos p) (pos (2 ^ (B - 1))) in
          let k : r * w + c < length pixels = subst (λ (n : ℕ). r * w + c < n) (sym pic.long) (place_in w h some_w r c i j) in
          subst (λ (z : ℤ). T (is_pixel B z)) (sym v) (pixel_is B p (ltb→lt p (2 ^ B) (every_at (λ p. ltb p (2 ^ B)) pixels 0 pic.right (r * w + c) k)))

  -- what the call writes
  abbrev pub found : List ℕ
  found = map nat_abs (pixels_back order B L w h plane)

  module _ (t : T (has_picture order B L w h plane)) where
    pub found_picture : PixelsOf B w h found
    unfolding has_picture pixels_back
    found_picture = record {
      long = length-map (pixels_back order B L w h plane) nat_abs ∙ rows_length w h some_w (λ r c. inverse order L w h (plane_of w plane) r c +ℤ pos (2 ^ (B - 1)));
      right = every_map nat_abs (is_pixel B) (λ p. ltb p (2 ^ B)) (pixel_size B) (pixels_back order B L w h plane) t;
    }

    pub sampled : Agree w h (sample found B w) (inverse order L w h (plane_of w plane))
    unfolding has_picture pixels_back sample
    sampled r c i j =
        let v : Plane ℤ = λ r c. inverse order L w h (plane_of w plane) r c +ℤ pos (2 ^ (B - 1)) in
        let a : get_or found (r * w + c) 0 ≡ nat_abs (v r c) = get_or-map nat_abs (row_by_row w h v) (r * w + c) (pos 0) ∙ ap nat_abs (rows_at w h some_w v (pos 0) r c i j) in
        let b : pos (get_or found (r * w + c) 0) ≡ v r c = ap pos a ∙ pixel_pos B (v r c) (every_row_at w h some_w (is_pixel B) v t r c i j) in
        ap (λ (z : ℤ). z -ℤ pos (2 ^ (B - 1))) b ∙ add_take (inverse order L w h (plane_of w plane) r c) (pos (2 ^ (B - 1)))

    pub found_plane : copy_of order B L w h found ≡ take (w * h) plane
    found_plane =
        rows_same w h some_w (forward order L w h (sample found B w)) (plane_of w plane)
        (λ r c i j. forward_agrees order L w h (sample found B w) (inverse order L w h (plane_of w plane)) sampled r c i j ∙ ap (λ (p : Plane ℤ). p r c) (back_forward order L w h (plane_of w plane)))
        ∙ rows_take w h some_w plane (pos 0) room

  -- the way back gives a pixel at every place exactly where a picture has the plane in that order
  pub has_picture_lem : T (has_picture order B L w h plane) ↔ Copied order B L w h plane
  has_picture_lem = (λ t. (found, found_picture t, found_plane t), λ s. picture_found s.0 s.1 s.2)

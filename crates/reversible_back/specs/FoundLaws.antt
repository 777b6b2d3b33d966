-- The way back ends: whether what came out are pixels (refusal 11), and what is written.
use Rattle.std.specs.Prelude.{ℕ, ◌+◌, ◌*◌, ◌-◌, ◌<◌, ◌≤◌, ◌^◌, Bool, true, false, not, List, map, ◌++◌, ◌≡◌, T, ℤ, neg_ℤ, ◌+ℤ◌, ◌-ℤ◌, length, ◌≤ℤ◌, ◌<ℤ◌, refl}
use Rattle.std.proofs.Common.{sym, ◌∙◌, arith, to_z}
use Rattle.std.proofs.Math.Path.{ap, subst}
use Rattle.std.proofs.Math.IntN.{pos, nat_abs}
use Rattle.std.proofs.Math.ListN.{get_or, length-map, get_or-map, get_or-append}
use Rattle.std.specs.Int.{w32}
use Rattle.std.proofs.Math.Facts.{to_z_pos}
use Rattle.std.specs.Int.Signed.{le_z, lt_z}
use Rattle.numbers.specs.Dif.{by_dif, difs}
use Rattle.numbers.specs.Lists.{over}
use Rattle.numbers.specs.Tests.{both, and_intro}
use Rattle.lines.specs.Planes.{Plane}
use Rattle.lines.specs.PlaneLaws.{Agree}
use Rattle.lines.specs.RowLaws.{place_in, rows_length, rows_at, every_row, every_row_at}
use Rattle.slices.specs.Patch.{at, patch, patch_in, patch_above}
use Rattle.pictures.specs.Pictures.{plane_of}
use Rattle.pictures.specs.RangeChecks.{Tells, Between, tells_same}
use Rattle.slices.specs.FrontLaws.{over_is}
use Rattle.reversible.specs.Reversible.{Order, inverse}
use Rattle.reversible.specs.ReversibleLaws.{back_agrees}
use Rattle.reversible.specs.Calls.{pixels_back, is_pixel, has_picture}
use Rattle.reversible.specs.LevelLaws.{plane_at}
use Rattle.reversible.specs.StepLaws.{twice_middle}
use Rattle.reversible.specs.Preconditions.{CallRoom}
use Rattle.reversible_back.specs.BackLaws.{BackDone}
use Rattle.reversible.proofs.PictureLaws.{by_place}
use Rattle.width_table.specs.Table.{max_depth}

-- the values of samples of depth B
abbrev pub IsSample : ℕ → ℤ → Type 0
IsSample B z = Between (neg_ℤ (pos (2 ^ (B - 1)))) (pos (2 ^ (B - 1)) -ℤ pos 1) z

-- ---- a sample is a pixel less the middle

above : (q z : ℤ) → pos 0 ≤ℤ (z +ℤ q) → (z +ℤ q) <ℤ (q +ℤ q) → Between (neg_ℤ q) (q -ℤ pos 1) z
above = by_dif _ λ a b. by_dif _ λ c d. simp difs (omega arith)

pub below : (q z : ℤ) → Between (neg_ℤ q) (q -ℤ pos 1) z → (pos 0 ≤ℤ (z +ℤ q)) × ((z +ℤ q) <ℤ (q +ℤ q))
below = by_dif _ λ a b. by_dif _ λ c d. simp difs (omega arith)

pub sample_size : (n : ℕ) (q z : ℤ) → nat_abs q ≤ n → Between (neg_ℤ q) (q -ℤ pos 1) z → nat_abs z ≤ n
sample_size n = by_dif _ λ a b. by_dif _ λ c d. simp difs (omega arith)

module _ (B : ℕ) (some : 1 ≤ B) (few : B ≤ max_depth) where
  doubled : 2 ^ B ≡ 2 ^ (B - 1) + 2 ^ (B - 1)
  doubled = omega (arith, (twice_middle B some few).0)

  pixel_sample : (z : ℤ) → T (is_pixel B (z +ℤ pos (2 ^ (B - 1)))) → IsSample B z
  pixel_sample z t =
      let y : ℤ = z +ℤ pos (2 ^ (B - 1)) in
      let h = both (le_z (pos 0) y) (lt_z y (pos (2 ^ B))) t in
      above (pos (2 ^ (B - 1))) z (record { le = h.0 }) (subst (λ (n : ℕ). y <ℤ pos n) doubled (record { lt = h.1 }))

  sample_pixel : (z : ℤ) → IsSample B z → T (is_pixel B (z +ℤ pos (2 ^ (B - 1))))
  sample_pixel z s =
      let y : ℤ = z +ℤ pos (2 ^ (B - 1)) in
      let h = below (pos (2 ^ (B - 1))) z s in
      and_intro (le_z (pos 0) y) (lt_z y (pos (2 ^ B))) h.0.le (subst (λ (n : ℕ). y <ℤ pos n) (sym doubled) h.1).lt

-- the middle of the pixels' range as the code has it, a signed number
pub signed_middle : (B m : ℕ) → 1 ≤ B → B ≤ max_depth → m ≡ 2 ^ (B - 1) → to_z w32 m ≡ pos (2 ^ (B - 1))
signed_middle B m some few e = ap (to_z w32) e ∙ to_z_pos w32 (omega (arith, (twice_middle B some few).1))

-- ---- the plane is inverted in values y: whether it has a picture, and what its pixels are

pub record Found (order : Order) (B L w h : ℕ) (plane : List ℤ) (y : ℕ → ℤ) (r : Bool) : Type 0 where
  pub answer : r ≡ has_picture order B L w h plane
  pub samples : T r → (k : ℕ) → k < w * h → IsSample B (y k)
  pub pixels : T r → (k : ℕ) → k < w * h → get_or (pixels_back order B L w h plane) k (pos 0) ≡ y k +ℤ pos (2 ^ (B - 1))

module _ (order : Order) {B L w h a b c : ℕ} (room : CallRoom B L w h a b c) (plane : List ℤ) (x mid y : ℕ → ℤ) (copied : mid ≡ patch 0 (w * h) (at plane) x) where
  some_w : 1 ≤ w
  some_w = room.room.wide.0

  abbrev sample_at : Plane ℤ
  sample_at = inverse order L w h (plane_of w plane)

  same : Agree w h (inverse order L w h (plane_at w mid)) sample_at
  same = back_agrees order L w h (plane_at w mid) (plane_of w plane)
      (λ r c i j. ap (λ (f : ℕ → ℤ). f (r * w + c)) copied ∙ ap (patch 0 (w * h) (at plane) x) (omega arith) ∙ patch_in 0 (w * h) (at plane) x (r * w + c) (place_in w h some_w r c i j))

  abbrev pixel_at : Plane ℤ
  pixel_at r c = sample_at r c +ℤ pos (2 ^ (B - 1))

  from_picture : T (has_picture order B L w h plane) → (r c : ℕ) → r < h → c < w → IsSample B (sample_at r c)
  unfolding has_picture pixels_back
  from_picture t r c i j = pixel_sample B room.depth.0 room.depth.1 (sample_at r c) (every_row_at w h some_w (is_pixel B) pixel_at t r c i j)

  to_picture : ((r c : ℕ) → r < h → c < w → IsSample B (sample_at r c)) → T (has_picture order B L w h plane)
  unfolding has_picture pixels_back
  to_picture s = every_row w h some_w (is_pixel B) pixel_at (λ r c i j. sample_pixel B room.depth.0 room.depth.1 (sample_at r c) (s r c i j))

  pub found_none : (r : Bool) → BackDone order L w h mid y r → r ≡ false → Found order B L w h plane y false
  found_none r done e = record {
    answer = tells_same false (has_picture order B L w h plane) (record { holds = λ t. absurd t; told = λ t. t }) (record { holds = none; told = λ t. absurd t });
    samples = λ t. absurd t;
    pixels = λ t. absurd t;
  }
    where
      none : T (has_picture order B L w h plane) → ⊥
      none t = subst T e (done.none (λ r c i j. subst (λ (z : ℤ). nat_abs z ≤ 2 ^ 11) (sym (same r c i j))
          (sample_size (2 ^ 11) (pos (2 ^ (B - 1))) (sample_at r c) (twice_middle B room.depth.0 room.depth.1).1 (from_picture t r c i j))))

  pub found_all : (r s : Bool) → BackDone order L w h mid y r → T r → Tells ((j : ℕ) → j < w * h → IsSample B (y j)) s → Found order B L w h plane y s
  unfolding pixels_back
  found_all r s done t look =
      let is : Agree w h (plane_at w y) sample_at = λ r c i j. done.done t r c i j ∙ same r c i j in
      let sees : Tells ((j : ℕ) → j < w * h → IsSample B (y j)) (has_picture order B L w h plane) = record {
        holds = λ p. by_place (λ k. IsSample B (y k)) w h some_w (λ r c i j. subst (IsSample B) (sym (is r c i j)) (from_picture p r c i j));
        told = λ f. to_picture (λ r c i j. subst (IsSample B) (is r c i j) (f (r * w + c) (place_in w h some_w r c i j)));
      } in
      record {
        answer = tells_same s (has_picture order B L w h plane) look sees;
        samples = look.holds;
        pixels = λ u. by_place (λ k. get_or (pixels_back order B L w h plane) k (pos 0) ≡ y k +ℤ pos (2 ^ (B - 1))) w h some_w
            (λ r c i j. rows_at w h some_w pixel_at (pos 0) r c i j ∙ ap (λ (z : ℤ). z +ℤ pos (2 ^ (B - 1))) (sym (is r c i j)));
      }

-- the values are the front of a longer slice
pub found_front : {order : Order} {B L w h : ℕ} {plane : List ℤ} {r : Bool} (part rest : List ℤ) → length part ≡ w * h → Found order B L w h plane (at part) r → Found order B L w h plane (at (part ++ rest)) r
found_front {order} {B} {L} {w} {h} {plane} {r} part rest e f = record {
  answer = f.answer;
  samples = λ t k i. subst (IsSample B) (sym (front k i)) (f.samples t k i);
  pixels = λ t k i. f.pixels t k i ∙ ap (λ (z : ℤ). z +ℤ pos (2 ^ (B - 1))) (sym (front k i));
}
  where
    front : (k : ℕ) → k < w * h → at (part ++ rest) k ≡ at part k
    front k i = get_or-append part rest (pos 0) k (omega arith)

-- ---- what is written

-- the answer, and the pixels before and after
pub record TakenBack (order : Order) (B L w h : ℕ) (plane : List ℤ) (pixels after : List ℕ) (r : Bool) : Type 0 where
  pub answer : r ≡ has_picture order B L w h plane
  pub written : T r → after ≡ over (map nat_abs (pixels_back order B L w h plane)) pixels
  pub kept : T (not r) → after ≡ pixels

pub taken_none : {order : Order} {B L w h : ℕ} {plane : List ℤ} {y : ℕ → ℤ} (pixels : List ℕ) (r : Bool) → Found order B L w h plane y r → r ≡ false → TakenBack order B L w h plane pixels pixels false
taken_none pixels r f e = record { answer = sym e ∙ f.answer; written = λ t. absurd t; kept = λ t. refl }

module _ {order : Order} {B L w h n m k : ℕ} (room : CallRoom B L w h n m k) (plane : List ℤ) (y : ℕ → ℤ) (pixels after : List ℕ) (r : Bool) (f : Found order B L w h plane y r) (t : r ≡ true)
    (written : (λ k. get_or after k 0) ≡ patch 0 (w * h) (λ k. nat_abs (y k +ℤ pos (2 ^ (B - 1)))) (λ k. get_or pixels k 0)) where
  new_length : length (map nat_abs (pixels_back order B L w h plane)) ≡ w * h
  unfolding pixels_back
  new_length = length-map (pixels_back order B L w h plane) nat_abs ∙ rows_length w h room.room.wide.0 (λ r c. inverse order L w h (plane_of w plane) r c +ℤ pos (2 ^ (B - 1)))

  pub taken : length pixels ≡ n → length after ≡ n → TakenBack order B L w h plane pixels after true
  taken e d = record {
    answer = sym t ∙ f.answer;
    written = λ u. over_is 0 (map nat_abs (pixels_back order B L w h plane)) pixels after (omega arith) (omega (arith, new_length, room.room.first))
        (λ k i. front k (subst (λ (n : ℕ). k < n) new_length i)) (λ q i. ap (λ (g : ℕ → ℕ). g q) written ∙ patch_above 0 (w * h) _ (λ k. get_or pixels k 0) q (omega (arith, new_length)));
    kept = λ u. absurd u;
  }
    where
      front : (k : ℕ) → k < w * h → get_or after k 0 ≡ get_or (map nat_abs (pixels_back order B L w h plane)) k 0
      front k i =
          ap (λ (g : ℕ → ℕ). g k) written ∙ ap (patch 0 (w * h) (λ k. nat_abs (y k +ℤ pos (2 ^ (B - 1)))) (λ k. get_or pixels k 0)) (omega arith) ∙ patch_in 0 (w * h) _ (λ k. get_or pixels k 0) k i
          ∙ ap nat_abs (sym (f.pixels (subst T (sym t) tt) k i)) ∙ sym (get_or-map nat_abs (pixels_back order B L w h plane) k (pos 0))

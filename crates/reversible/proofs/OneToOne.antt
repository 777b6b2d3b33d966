-- Two pictures of one depth and size that have the same 5/3 plane in one order are the same picture.
use Rattle.std.specs.Prelude.{ℕ, zero, suc, ◌+◌, ◌*◌, ◌-◌, ◌^◌, ◌<◌, ◌≤◌, List, ◌≡◌, ◌+ℤ◌, length, get_or}
use Rattle.std.proofs.Math.Path.{refl, ap}
use Rattle.std.proofs.Common.{sym, ◌∙◌, subst, arith, take_all, ext_get_or}
use Rattle.std.proofs.Math.IntN.{ℤ, pos, nat_abs}
use Rattle.lines.specs.PlaneLaws.{Agree}
use Rattle.lines.specs.RowLaws.{rows_length}
use Rattle.pictures.specs.Pictures.{sample, plane_of}
use Rattle.reversible.specs.Reversible.{Order, forward, inverse}
use Rattle.reversible.specs.Claims.{PixelsOf, copy_of, OnePicture}
use Rattle.reversible.proofs.PictureLaws.{by_place, goes_back}
use Rattle.reversible.specs.ReversibleLaws.{take-add}

module _ (order : Order) (B L w h : ℕ) (some : 1 ≤ w) (p q : List ℕ) (same : copy_of order B L w h p ≡ copy_of order B L w h q) where
  long : length (copy_of order B L w h q) ≡ w * h
  long = rows_length w h some (forward order L w h (sample q B w))

  -- the plane goes back to the samples of either
  from : (s : List ℕ) → copy_of order B L w h s ≡ copy_of order B L w h q → Agree w h (inverse order L w h (plane_of w (copy_of order B L w h q))) (sample s B w)
  from s e = goes_back order B L w h some (copy_of order B L w h q) (omega (arith, long)) (sample s B w)
      (e ∙ sym (take_all (w * h) (copy_of order B L w h q) (omega (arith, long))))

  pixel : (r c : ℕ) → r < h → c < w → get_or p (r * w + c) 0 ≡ get_or q (r * w + c) 0
  unfolding sample
  pixel r c i j =
      let m : ℤ = pos (2 ^ (B - 1)) in
      ap nat_abs (sym (take-add (pos (get_or p (r * w + c) 0)) m) ∙ ap (λ (z : ℤ). z +ℤ m) (sym (from p same r c i j) ∙ from q refl r c i j) ∙ take-add (pos (get_or q (r * w + c) 0)) m)

  same_pixels : PixelsOf B w h p → PixelsOf B w h q → p ≡ q
  same_pixels a b = ext_get_or 0 p q (a.long ∙ sym b.long) (λ k i. by_place (λ k. get_or p k 0 ≡ get_or q k 0) w h some pixel k (subst (λ (n : ℕ). k < n) a.long i))

-- of width 0 there are no pixels
pub one_picture : OnePicture
one_picture order B L zero h p q a b same = ext_get_or 0 p q (a.long ∙ sym b.long) (λ k i. absurd (omega (arith, a.long)))
one_picture order B L (suc w) h p q a b same = same_pixels order B L (suc w) h (omega arith) p q same a b

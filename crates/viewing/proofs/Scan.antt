-- From scan to view: the viewed value of a stored scan lies, before rounding, within the distance of what was scanned (`scan_to_view`), and
-- the shown pixel at most that distance in greys, rounded, from the scanned one (`greys_apart_lem`). The same of any plane that agrees with the
-- stored scan inside the picture (`scan_near`, `scan_shown`).
use Rattle.std.specs.Prelude.{ℕ, ◌+◌, ◌*◌, ◌-◌, ◌/◌, ◌^◌, ◌<◌, ◌≤◌, min, List, refl, get_or, ℤ, negsuc, neg_ℤ, nat_abs, ◌+ℤ◌, ◌-ℤ◌, ◌*ℤ◌, ◌≤ℤ◌, ◌<ℤ◌}
use native.Mathlib.Omega.{arith}
use Rattle.std.proofs.Common.{mul-le-mul_right, pow_pos}
use Rattle.std.proofs.Math.IntN.{pos}
use Rattle.numbers.specs.Parts.{positive_part}
use Rattle.numbers.specs.Dif.{by_dif, difs}
use Rattle.numbers.specs.Floor.{floor_≤, floor_<}
use Rattle.lines.specs.Planes.{Plane}
use Rattle.lines.specs.PlaneLaws.{Agree}
use Rattle.exact.specs.Fractions.{◌⊕◌, neg}
use Rattle.exact.specs.FracLaws.{≈-refl, ⊕-cong, neg_cong, within_≈, within_most}
use Rattle.exact.specs.Picture.{exact_sample, exact_plane}
use Rattle.exact.proofs.InverseLaws.{picture_left_inverse}
use Rattle.stages.specs.Fixed.{fixed_value}
use Rattle.stages.proofs.Sound.{good_≈}
use Rattle.width_table.specs.declared.WidthTable.{WidthTable}
use Rattle.width_table.specs.Limits.{form_levels}
use Rattle.inverse_lifting.specs.Fixed.{node_bits}
use Rattle.view_precision.specs.Bounds.{stored, steps_allowed, view_distance}
use Rattle.irreversible.specs.Transforms.{fixed_plane}
use Rattle.irreversible.specs.Claims.{Picture}
use Rattle.table_meaning.specs.Subbands.{kept_node, bits_plane}
use Rattle.table_meaning.specs.SubbandLaws.{kept_everywhere}
use Rattle.irreversible.specs.Demand3.{plane_good}
use Rattle.viewing.specs.View.{grey, pixel, view_plane, view_picture}
use Rattle.viewing.specs.Claims.{Viewable, Close, ScanToView, greys_apart, GreysApart}
use Rattle.viewing.proofs.Viewing.{GoodPlane, view_promise, view_good}

-- ---- before rounding

-- a plane that agrees with what the 9/7 call makes of a picture
module _ (t : WidthTable) (pixels : List ℕ) (w h : ℕ) (ok : Viewable t) (picture : Picture t pixels w h) (p : Plane ℤ) (same : Agree w h p (fixed_plane t pixels w h)) where
  -- by demand 3 each stored coefficient is in the range of its kept node, and two of its steps or less from the exact one
  scan_good : GoodPlane t steps_allowed w h p (exact_plane pixels t.depth t.levels w h)
  unfolding stored bits_plane
  scan_good =
      let P = view_promise t ok in
      let some = (form_levels t P.form).0 in
      record {
        form = P.form;
        good = λ r c i j.
            let k = kept_node t.levels w h r c in
            let K = kept_everywhere t.levels w h r c some i j in
            let g = plane_good t P pixels w h picture r c i j in
            good_≈ (same r c i j) (≈-refl _) (record {
              range = within_most (omega (arith, P.fit k.level K.least K.most k.pass k.node)) g.range;
              error = within_most (omega (arith, P.steps k.level K.least K.most k.pass k.node K.kept)) g.error;
            });
      }

  pub scan_near : (r c : ℕ) → r < h → c < w → Close (view_plane t w h p r c) (exact_sample pixels t.depth w r c) (view_distance t)
  unfolding view_distance
  scan_near r c i j =
      within_≈ (⊕-cong (≈-refl _) (neg_cong (picture_left_inverse pixels t.depth t.levels w h r c)))
      (view_good t steps_allowed w h scan_good r c i j).error

pub scan_to_view : ScanToView
scan_to_view t pixels w h ok picture = scan_near t pixels w h ok picture (fixed_plane t pixels w h) (λ r c i j. refl)

-- ---- as shown

-- p greys and z parts of 2^-20 of a grey, rounded to g: at most K greys from p
grey_off : (p H K m : ℕ) (w g : ℤ)
    → nat_abs (w +ℤ neg_ℤ (pos p -ℤ pos H) *ℤ pos (2 ^ node_bits)) ≤ m → m * 2 ^ 12 + 2 ^ 31 < (K + 1) * 2 ^ 32
    → (pos (2 ^ node_bits) *ℤ g) ≤ℤ (w +ℤ pos (H * 2 ^ node_bits) +ℤ pos (2 ^ (node_bits - 1)))
    → (w +ℤ pos (H * 2 ^ node_bits) +ℤ pos (2 ^ (node_bits - 1))) <ℤ (pos (2 ^ node_bits) *ℤ g +ℤ pos (2 ^ node_bits))
    → nat_abs (g -ℤ pos p) ≤ K
grey_off p H K m = by_dif _ λ a a'. by_dif _ λ b b'. simp difs (omega arith)

-- limiting moves no grey away from p, which is in the limits
limited_off : (p M K : ℕ) → p ≤ M → (g : ℤ) → nat_abs (g -ℤ pos p) ≤ K → nat_abs (pos (min (positive_part g) M) -ℤ pos p) ≤ K
limited_off p M K i (pos n) = simp difs (omega arith)
limited_off p M K i (negsuc n) = simp difs (omega arith)

module _ (pixels : List ℕ) (B w r c d : ℕ) (v : ℤ) where
  abbrev scanned : ℕ
  scanned = get_or pixels (r * w + c) 0

  shown_off : scanned < 2 ^ B → Close v (exact_sample pixels B w r c) d → nat_abs (pos (pixel B v) -ℤ pos scanned) ≤ (d * 2 ^ B + 2 ^ 31) / 2 ^ 32
  unfolding exact_sample fixed_value ◌⊕◌ neg pixel grey
  shown_off below close =
      let s = v *ℤ pos (2 ^ B) +ℤ pos (2 ^ (B - 1) * 2 ^ node_bits) +ℤ pos (2 ^ (node_bits - 1)) in
      limited_off scanned (2 ^ B - 1) _ (omega arith) (grey B v)
      (grey_off scanned (2 ^ (B - 1)) _ _ (v *ℤ pos (2 ^ B)) (grey B v) (omega arith) (rounded _ d (2 ^ B) close.most) (floor_≤ s (2 ^ node_bits) (pow_pos node_bits)) (floor_< s (2 ^ node_bits) (pow_pos node_bits)))
    where
      rounded : (m d P : ℕ) → m * 2 ^ 32 ≤ d * (2 ^ node_bits * P) → m * 2 ^ 12 + 2 ^ 31 < ((d * P + 2 ^ 31) / 2 ^ 32 + 1) * 2 ^ 32
      rounded m d P h = omega arith

pub scan_shown : (t : WidthTable) (pixels : List ℕ) (w h : ℕ) → Viewable t → Picture t pixels w h → (p : Plane ℤ) → Agree w h p (fixed_plane t pixels w h)
    → (r c : ℕ) → r < h → c < w → nat_abs (pos (view_picture t w h p r c) -ℤ pos (get_or pixels (r * w + c) 0)) ≤ greys_apart t
unfolding greys_apart view_picture
scan_shown t pixels w h ok picture p same r c i j =
    shown_off pixels t.depth w r c (view_distance t) (view_plane t w h p r c) (picture.depth (r * w + c) (omega (arith, mul-le-mul_right w i))) (scan_near t pixels w h ok picture p same r c i j)

pub greys_apart_lem : GreysApart
greys_apart_lem t pixels w h ok picture = scan_shown t pixels w h ok picture (fixed_plane t pixels w h) (λ r c i j. refl)

-- What the 9/7 call stores can be viewed (`forward_stored`): under an accepted table it is never refused 12 (`forward_held`), and under a
-- viewable one the picture that is shown of it lies within the distance in greys of what was scanned (`forward_shown`).
use Rattle.std.specs.Prelude.{ℕ, ◌+◌, ◌*◌, ◌<◌, ◌≤◌, List, ◌≡◌, get_or, ℤ, pos, nat_abs, ◌-ℤ◌}
use Rattle.std.proofs.Common.{sym, subst}
use Rattle.refusals.specs.Answers.{passed}
use Rattle.lines.specs.Planes.{Plane}
use Rattle.lines.specs.PlaneLaws.{Agree}
use Rattle.width_table.specs.declared.WidthTable.{WidthTable}
use Rattle.pictures.specs.Pictures.{plane_of}
use Rattle.precision.specs.Verdict.{Accepted}
use Rattle.irreversible.specs.Transforms.{fixed_plane}
use Rattle.irreversible.specs.Claims.{Picture}
use Rattle.table_meaning.specs.Subbands.{kept_node}
use Rattle.irreversible.specs.Demand3.{kept_widths}
use Rattle.irreversible.specs.Calls.{fixed_answer, fixed_plane_after}
use Rattle.irreversible.specs.CallLaws.{accepted, picture, stands}
use Rattle.viewing.specs.Calls.{coefficients_right, view_answer, view_pixels}
use Rattle.viewing.specs.Claims.{HeldBy, Stored, greys_apart}
use Rattle.viewing.proofs.Scan.{scan_shown}
use Rattle.viewing.proofs.CallLaws.{held_right, call_viewable, call_pixel}

-- of any plane that agrees with what the 9/7 call makes of a picture
pub forward_stored : (t : WidthTable) (pixels : List ℕ) (w h : ℕ) → Accepted t → Picture t pixels w h → (p : Plane ℤ) → Agree w h p (fixed_plane t pixels w h) → Stored t w h p
forward_stored t pixels w h ok picture p same = record {
  width = picture.width;
  height = picture.height;
  held = λ r c i j. subst (HeldBy t (kept_node t.levels w h r c)) (sym (same r c i j)) (kept_widths t pixels w h ok picture r c i j);
}

-- a 9/7 call that is done, and what then stands in its plane
module _ (t : WidthTable) (w h : ℕ) (pixels : List ℕ) (plane work : List ℤ) (e : fixed_answer t w h pixels plane work ≡ passed) where
  abbrev after : List ℤ
  after = fixed_plane_after t w h pixels plane work

  pub call_forward : Stored t w h (plane_of w after)
  call_forward = forward_stored t pixels w h (accepted t w h pixels plane work e) (picture t w h pixels plane work e) (plane_of w after) (stands t w h pixels plane work e)

  -- Viewing never refuses it 12.
  pub forward_held : coefficients_right t w h after ≡ passed
  forward_held = held_right t w h after call_forward

  -- Where viewing is done too, each shown pixel lies within the distance in greys of the scanned one.
  pub forward_shown : (shown : List ℕ) (work' : List ℤ) → view_answer t w h after shown work' ≡ passed
      → (r c : ℕ) → r < h → c < w → nat_abs (pos (get_or (view_pixels t w h after shown work') (r * w + c) 0) -ℤ pos (get_or pixels (r * w + c) 0)) ≤ greys_apart t
  forward_shown shown work' v r c i j =
      subst (λ (q : ℕ). nat_abs (pos q -ℤ pos (get_or pixels (r * w + c) 0)) ≤ greys_apart t) (sym (call_pixel t w h after shown work' v r c i j))
      (scan_shown t pixels w h (call_viewable t w h after shown work' v) (picture t w h pixels plane work e) (plane_of w after) (stands t w h pixels plane work e) r c i j)

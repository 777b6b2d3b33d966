-- The order of refusals in the forward call, step by step, and when a call is allowed.
use Rattle.std.specs.Prelude.{List, [], ℤ, length, ℕ, ◌*◌, true, false, ◌&&◌, ◌≡◌, T}
use Rattle.std.proofs.Math.Path.{sym, ap}
use Rattle.std.proofs.Common.{◌∙◌, subst}
use Rattle.numbers.specs.Tests.{both, between_≤}
use Rattle.refusals.specs.Answers.{Reason, Answer, refused, passed, ◌then◌}
use Rattle.width_table.specs.Table.{depth_right, levels_right, max_depth, max_levels}
use Rattle.numbers.specs.Lists.{over}
use Rattle.refusals.specs.AnswerLaws.{asks_done, asks_right, asks_wrong, then_done, then_assoc, then_right, then_refused, answered_done, answered_refused}
use Rattle.lines.specs.Planes.{row_by_row}
use Rattle.pictures.specs.Pictures.{pixel_answer, sample}
use Rattle.slices.specs.Fronts.{zeroed}
use Rattle.pictures.specs.PictureLaws.{room_answer, sized_then, sized_done, pixels_done}
use Rattle.reversible.specs.Reversible.{columns_first, forward}
use Rattle.reversible.specs.Calls.{limit_answer, forward_answer, forward_plane, forward_work}
use Rattle.reversible.specs.Preconditions.{CallRoom, ForwardRoom}

-- depth and levels are within their limits, or 4 is the answer
module _ (B L : ℕ) (o : Answer Unit) where
  pub limits_kept : (depth_right B && levels_right L) ≡ true → limit_answer B L then o ≡ o
  limits_kept e = then_right (limit_answer B L) o (asks_right (depth_right B && levels_right L) (4, []) passed (subst T (sym e) tt))

  pub limits_broken : (depth_right B && levels_right L) ≡ false → limit_answer B L then o ≡ refused (4, [])
  limits_broken e = then_refused (limit_answer B L) o (4, []) (asks_wrong (depth_right B && levels_right L) (4, []) passed e)

-- ---- a call that is allowed

pub allowed_room : (B L w h a b c : ℕ) → limit_answer B L then room_answer w h a b c ≡ passed → CallRoom B L w h a b c
allowed_room B L w h a b c e =
    let (d, s) = then_done (limit_answer B L) (room_answer w h a b c) e in
    let (x, y) = both (depth_right B) (levels_right L) (asks_done (depth_right B && levels_right L) (4, []) passed d).0 in
    record { depth = between_≤ 1 max_depth B x; some = (between_≤ 1 max_levels L y).0; few = (between_≤ 1 max_levels L y).1; room = sized_done w h a b c s }

-- ---- forward

module _ (B L w h : ℕ) (pixels : List ℕ) (plane work : List ℤ) where
  abbrev allowed : Answer Unit
  allowed = limit_answer B L then room_answer w h (length pixels) (length plane) (length work)

  -- the call's answer, and what it leaves in the plane and in the work area
  abbrev pub Forwarded : Answer Unit → List ℤ → List ℤ → Type 0
  Forwarded o p q = (o ≡ forward_answer B L w h pixels plane work) × ((p ≡ forward_plane columns_first B L w h pixels plane work) × (q ≡ forward_work B L w h pixels plane work))

  not_done : (r : Reason) → forward_answer B L w h pixels plane work ≡ refused r → Forwarded (refused r) plane work
  unfolding forward_plane forward_work
  not_done r e = (sym e, (sym (answered_refused _ plane e), sym (answered_refused _ work e)))

  chain : forward_answer B L w h pixels plane work ≡ allowed then pixel_answer B w h pixels
  unfolding forward_answer
  chain = ap (λ (o : Answer Unit). limit_answer B L then o) (sized_then w h (length pixels) (length plane) (length work) _) ∙ then_assoc (limit_answer B L) _ _

  pub forward_not_allowed : (r : Reason) → allowed ≡ refused r → Forwarded (refused r) plane work
  forward_not_allowed r e = not_done r (chain ∙ then_refused allowed _ r e)

  pub forward_pixel : (r : Reason) → allowed ≡ passed → pixel_answer B w h pixels ≡ refused r → Forwarded (refused r) plane work
  forward_pixel r e f = not_done r (chain ∙ then_right allowed _ e ∙ f)

  pub forward_done : allowed ≡ passed → pixel_answer B w h pixels ≡ passed → (p q : List ℤ) → p ≡ over (row_by_row w h (forward columns_first L w h (sample pixels B w))) plane → q ≡ zeroed (w * h) work → Forwarded passed p q
  unfolding forward_plane forward_work
  forward_done e f p q a b =
      let d = chain ∙ then_right allowed _ e ∙ f in
      (sym d, (a ∙ sym (answered_done _ plane d), b ∙ sym (answered_done _ work d)))

  pub forward_room : allowed ≡ passed → pixel_answer B w h pixels ≡ passed → ForwardRoom B L w h pixels (length plane) (length work)
  forward_room e f = record { call = allowed_room B L w h _ _ _ e; right = pixels_done B w h pixels f }

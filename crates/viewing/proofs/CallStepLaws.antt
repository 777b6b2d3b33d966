-- What the steps of the viewing call leave, and that each finds what it asks.
use Prim.Native.Nat.{ℕ, zero, suc, ◌+◌, ◌*◌, ◌^◌, ◌<◌, ◌≤◌}
use Rattle.std.specs.Prelude.{List, ◌≡◌, refl, ℤ, length, get_or}
use Rattle.std.proofs.Math.Path.{sym, ap, subst}
use Rattle.std.proofs.Common.{◌∙◌, mul-le-mul, mul-le-mul_left, mul-le-mul_right, mul_comm, mul_assoc, mul_left_comm, pow_pos}
use native.Mathlib.Omega.{arith}
use Rattle.std.proofs.Math.Nat.{pow-succ', pow-le-pow_right}
use Rattle.numbers.specs.Lists.{over}
use Rattle.refusals.specs.Answers.{Reason, refused, passed}
use Rattle.refusals.specs.AnswerLaws.{answered_done, answered_refused}
use Rattle.lines.specs.Planes.{Plane, columns, inverse_levels, side, row_by_row}
use Rattle.lines.specs.PlaneLaws.{side_le, columns_first_in, columns_first_keeps}
use Rattle.width_table.specs.declared.WidthTable.{WidthTable}
use Rattle.width_table.specs.Limits.{form_depth, form_levels}
use Rattle.width_table.specs.Nodes.{Rows, column_pass}
use Rattle.width_table.specs.Table.{max_levels}
use Rattle.slices.specs.Patch.{at}
use Rattle.slices.specs.Runs.{as_type}
use Rattle.slices.specs.PatchLines.{line_at}
use Rattle.slices.specs.Parts.{Part, row_of}
use Rattle.pictures.specs.Pictures.{max_side, plane_of}
use Rattle.slices.specs.Fronts.{zeroed}
use Rattle.pictures.specs.PictureLaws.{room_answer, sized_done}
use Rattle.inverse_lifting.specs.Fixed.{node_bits, fixed_inverse}
use Rattle.inverse_lifting.specs.Planes.{Safe}
use Rattle.view_precision.specs.Bounds.{view_verdict}
use Rattle.viewing.specs.View.{view_line, view_level, view_from, view_plane, view_picture}
use Rattle.viewing.specs.Calls.{view_answer, view_pixels, view_work}
use Rattle.viewing.proofs.Viewing.{view_accepted, view_promise, sizes}
use Rattle.viewing.proofs.CallLaws.{call_viewable, call_room, call_stored}
use Rattle.viewing.specs.Words.{level_bounded}
use Rattle.viewing.proofs.StoredWords.{stored_bounded}
use Rattle.viewing.specs.WidthLaws.{Lookable}
use Rattle.viewing.specs.LevelSteps.{columned, level_inverse, SafeLevel, Standing, column_at, level_at, level_safe, level_beyond, columned_beyond, line_reads}
use Rattle.viewing.specs.RowSteps.{RowsReady, shown_rows, cleared_rows, all_shown, all_cleared}
use Rattle.viewing.specs.CallSteps.{LevelReady, ViewReady, LevelsLeft}

doubled : (k r : ℕ) → r * 2 ^ suc k ≡ 2 * r * 2 ^ k
doubled k r = ap (λ (n : ℕ). r * n) (pow-succ' 2 k) ∙ sym (mul_assoc r 2 (2 ^ k)) ∙ ap (λ (n : ℕ). n * 2 ^ k) (mul_comm r 2)

-- a row of the part of level k + 1 is one of the plane's
spread_in : (k r h : ℕ) → r < side k h → r * 2 ^ k < h
unfolding side
spread_in zero r h i = omega arith
spread_in (suc k) r h i =
    let a : 2 * r < side k h = omega arith in
    let b : 2 * r * 2 ^ k < h = spread_in k (2 * r) h a in
    subst (λ (n : ℕ). n < h) (sym (doubled k r)) b

-- every second one of them is one of the next level's
twice : (w k r : ℕ) → r * (w * 2 ^ suc k) ≡ 2 * r * (w * 2 ^ k)
twice w k r = ap (λ (n : ℕ). r * (w * n)) (pow-succ' 2 k) ∙ ap (λ (n : ℕ). r * n) (mul_left_comm w 2 (2 ^ k)) ∙ sym (mul_assoc r 2 (w * 2 ^ k)) ∙ ap (λ (n : ℕ). n * (w * 2 ^ k)) (mul_comm r 2)

module _ {t : WidthTable} {plane : List ℤ} {work₀ state₀ line₀ w h : ℕ} (ready : ViewReady t plane work₀ state₀ line₀ w h) where
  some_columns : 1 ≤ w
  some_columns = omega (arith, ready.stored.width.0)

  in_w : (k : ℕ) → side k w ≤ w
  in_w k = side_le k w

  in_h : (k : ℕ) → side k h ≤ h
  in_h k = side_le k h

  pub levels_some : 1 ≤ t.levels
  levels_some = (form_levels t (view_promise t ready.viewable).form).0

  pub levels_few : t.levels ≤ max_levels
  levels_few = (form_levels t (view_promise t ready.viewable).form).1

  -- the rows of the part of level k + 1
  row_in : (k r : ℕ) → r < side k h → line_at 0 (w * 2 ^ k) r + w ≤ w * h
  row_in k r i =
      let e : r * (w * 2 ^ k) ≡ r * 2 ^ k * w = mul_left_comm r w (2 ^ k) ∙ mul_comm w (r * 2 ^ k) in
      omega (arith, mul-le-mul_right {m = r * 2 ^ k + 1} {n = h} w (omega (arith, spread_in k r h i)), mul_comm w h)

  spread_wide : (k : ℕ) → w ≤ w * 2 ^ k
  spread_wide k = omega (arith, mul-le-mul_left w (pow_pos k))

  spread_short : (k : ℕ) → k < t.levels → w * 2 ^ k ≤ max_side * 2 ^ max_levels
  spread_short k within =
      let few : k ≤ max_levels = omega (arith, levels_few) in
      mul-le-mul ready.stored.width.1 (pow-le-pow_right {n = 2} (omega arith) few)

  part_at : (k : ℕ) (work : List ℤ) → k < t.levels → length work ≡ work₀ → Part work (w * 2 ^ k) 0 (side k w) (side k h)
  part_at k work within el = record {
    narrow = omega (arith, in_w k, spread_wide k);
    few = omega (arith, in_h k, ready.stored.height.1);
    wide = omega (arith, spread_short k within);
    fits = λ r i. omega (arith, in_w k, row_in k r i, ready.third);
  }

  -- all levels are
  pub left_all : (x : ℕ → ℤ) → LevelsLeft t w h t.levels (at plane) x x
  unfolding view_plane
  left_all x = record {
    taken = plane_of w plane;
    all = λ e r c i j. refl;
    below = λ r c a i j. refl;
    beyond = λ r c a i j. refl;
    left = λ f. absurd (f refl);
    small = sizes t w h (plane_of w plane) ready.viewable ready.stored;
    bounded = stored_bounded t w h (plane_of w plane) ready.viewable ready.stored;
    gives = refl;
    past = λ q far. refl;
  }

  -- level k + 1, of those that are left, can be inverted
  module _ (k : ℕ) (within : k < t.levels) (x₀ x : ℕ → ℤ) (left : LevelsLeft t w h (suc k) (at plane) x₀ x) where
    standing : Standing t (suc k) w (w * 2 ^ k) (side k w) (side k h) (at plane) x left.taken
    unfolding side
    standing = record {
      all = λ e r c i j. left.all e r c (omega (arith, in_h k)) (omega (arith, in_w k));
      below = λ r c a i j. left.below r c a (omega (arith, in_h k)) (omega (arith, in_w k));
      beyond = λ r c a i j. left.beyond r c a (omega (arith, in_h k)) (omega (arith, in_w k));
      left = λ f r c i j. let e : line_at 0 (w * 2 ^ k) (2 * r) + c ≡ line_at 0 (w * 2 ^ suc k) r + c = omega (arith, twice w k r) in ap x e ∙ left.left f r c i j;
    }

    apart_here : side k w ≤ w * 2 ^ k
    apart_here = omega (arith, in_w k, spread_wide k)

    safe_here : SafeLevel t (suc k) w (w * 2 ^ k) (side k w) (side k h) (at plane) x
    safe_here = level_safe t (suc k) w (w * 2 ^ k) (side k w) (side k h) apart_here (at plane) x left.taken standing left.small.0 (λ r c i j. left.bounded r c (omega (arith, in_h k)) (omega (arith, in_w k)))

    pub level_ready : (work : List ℤ) (state line : ℕ) → length work ≡ work₀ → state ≡ state₀ → line ≡ line₀ → x ≡ at work → LevelReady t (suc k) plane work state line w (w * 2 ^ k) (side k w) (side k h)
    level_ready work state line ew el em e = record {
      is_level = record { accepted = view_accepted t ready.viewable; least = omega arith; most = within };
      part = part_at k work within ew;
      in_plane = λ r i. omega (arith, in_w k, mul-le-mul_right {m = r + 1} {n = h} w (omega (arith, in_h k)), mul_comm w h, ready.second);
      across = omega (arith, in_w k, ready.across);
      some = omega (arith, ready.some);
      spare = omega (arith, ready.spare);
      safe = as_type (λ u. SafeLevel t (suc k) w (w * 2 ^ k) (side k w) (side k h) (at plane) (e u)) safe_here;
    }

    -- the next level's side is no longer
    less : (n : ℕ) {r : ℕ} → side k n ≤ r → side (suc k) n ≤ r
    unfolding side
    less n h = omega arith

    -- and is
    pub left_less : (y : ℕ → ℤ) → y ≡ level_inverse t (suc k) w (w * 2 ^ k) (side k w) (side k h) (at plane) x → LevelsLeft t w h k (at plane) x₀ y
    unfolding view_from inverse_levels
    left_less y e = subst (λ (f : ℕ → ℤ). LevelsLeft t w h k (at plane) x₀ f) (sym e) (record {
      taken = view_level t (suc k) (side k w) (side k h) left.taken;
      all = λ f. absurd (omega arith);
      below = λ r c a i j. left.below r c (less h a) i j ∙ sym ((columns_first_keeps (view_line t (suc k) Rows) (λ low. view_line t (suc k) (column_pass low))).below (side k w) (side k h) left.taken r c a);
      beyond = λ r c a i j. left.beyond r c (less w a) i j ∙ sym ((columns_first_keeps (view_line t (suc k) Rows) (λ low. view_line t (suc k) (column_pass low))).beyond (side k w) (side k h) left.taken r c a);
      left = λ f r c i j. level_at t (suc k) w (w * 2 ^ k) (side k w) (side k h) apart_here (at plane) x left.taken standing r c i j;
      small = left.small.1;
      bounded = level_bounded left.small.0 w h left.bounded;
      gives = left.gives;
      past = λ q far. level_beyond t (suc k) w (w * 2 ^ k) (side k w) (side k h) apart_here (at plane) x left.taken standing (w * h) (λ r i. omega (arith, in_w k, row_in k r i)) q far ∙ left.past q far;
    })

  -- the last of them, whose rows are shown
  module _ (x₀ x : ℕ → ℤ) (left : LevelsLeft t w h 1 (at plane) x₀ x) where
    one : 0 < t.levels
    one = levels_some

    once : w * 2 ^ 0 ≡ w
    once = omega arith

    pub first_ready : (work : List ℤ) (state line : ℕ) → length work ≡ work₀ → state ≡ state₀ → line ≡ line₀ → x ≡ at work → LevelReady t 1 plane work state line w w w h
    unfolding side
    first_ready work state line ew el em e = subst (λ (s : ℕ). LevelReady t 1 plane work state line w s w h) once (level_ready 0 one x₀ x left work state line ew el em e)

    module _ (work : List ℤ) (is : at work ≡ columned t 1 w w w h (at plane) x) where
      columns_here : at work ≡ columned t 1 w (w * 2 ^ 0) w h (at plane) x
      columns_here = is ∙ ap (λ (s : ℕ). columned t 1 w s w h (at plane) x) (sym once)

      pub rows_ready : (pixels line : ℕ) → length work ≡ work₀ → line ≡ line₀ → w * h ≤ pixels → RowsReady t.depth work pixels line w h
      unfolding side
      rows_ready pixels line el et room = record {
        depth = form_depth t (view_promise t ready.viewable).form;
        part = subst (λ (s : ℕ). Part work s 0 w h) once (part_at 0 work one el);
        room = room;
        across = omega (arith, ready.across);
        safe = λ r i. as_type (λ u. Safe node_bits node_bits w (row_of (once u) 0 (sym columns_here u) r)) ((safe_here 0 one x₀ x left).on_rows r i);
      }

      -- what they give
      rows_give : (r c : ℕ) → r < h → c < w → fixed_inverse node_bits node_bits w (row_of w 0 (at work) r) c ≡ view_plane t w h (plane_of w plane) r c
      unfolding view_from inverse_levels side view_line columns
      rows_give r c i j =
          (λ u. fixed_inverse node_bits node_bits w (row_of (sym once u) 0 (columns_here u) r) c)
          ∙ line_reads t 1 Rows w _ _ (λ k b. column_at t 1 w (w * 2 ^ 0) w h (apart_here 0 one x₀ x left) (at plane) x left.taken (standing 0 one x₀ x left) r k i b) c j
          ∙ sym (columns_first_in (view_line t 1 Rows) (λ low. view_line t 1 (column_pass low)) w h left.taken r c i j)
          ∙ ap (λ (q : Plane ℤ). q r c) left.gives

      pub pixels_shown : (old new : List ℕ) → w * h ≤ length old → length new ≡ length old → (λ k. get_or new k 0) ≡ shown_rows t.depth w h (at work) (λ k. get_or old k 0) → new ≡ over (row_by_row w h (view_picture t w h (plane_of w plane))) old
      unfolding view_picture
      pixels_shown old new room same e = all_shown t.depth w h some_columns (at work) (view_plane t w h (plane_of w plane)) rows_give old new room same e

      pub work_cleared : (old new : List ℤ) → at old ≡ x₀ → length old ≡ work₀ → length new ≡ length old → at new ≡ cleared_rows w h (at work) → new ≡ zeroed (w * h) old
      unfolding side
      work_cleared old new was room same e = all_cleared t.depth w h some_columns (at work) old new (omega (arith, ready.third)) same
          (λ q far. ap (λ (f : ℕ → ℤ). f q) columns_here
          ∙ columned_beyond t 1 w (w * 2 ^ 0) w h (apart_here 0 one x₀ x left) (at plane) x left.taken (standing 0 one x₀ x left) (w * h) (λ r i. row_in 0 r i) q far
          ∙ left.past q far ∙ ap (λ (f : ℕ → ℤ). f q) (sym was)) e

-- ---- the answer

-- 12 is judged where the steps before it passed
pub lookable : (t : WidthTable) (w h : ℕ) (plane : List ℤ) (a c : ℕ) → view_verdict t ≡ passed → room_answer w h a (length plane) c ≡ passed → Lookable t w h (length plane)
lookable t w h plane a c v e =
    let room = sized_done w h a (length plane) c e in
    record { accepted = view_accepted t v; width = room.wide; height = room.tall; room = room.second }

module _ (t : WidthTable) (w h : ℕ) (plane : List ℤ) (pixels : List ℕ) (work : List ℤ) where
  -- a call that is refused leaves all as it was
  module _ {r : Reason} (e : view_answer t w h plane pixels work ≡ refused r) where
    pub pixels_kept : pixels ≡ view_pixels t w h plane pixels work
    unfolding view_pixels
    pixels_kept = sym (answered_refused (over (row_by_row w h (view_picture t w h (plane_of w plane))) pixels) pixels e)

    pub work_kept : work ≡ view_work t w h plane pixels work
    unfolding view_work
    work_kept = sym (answered_refused (zeroed (w * h) work) work e)

  -- one that is not leaves the picture, and zeros
  module _ (e : view_answer t w h plane pixels work ≡ passed) where
    pub pixels_done : over (row_by_row w h (view_picture t w h (plane_of w plane))) pixels ≡ view_pixels t w h plane pixels work
    unfolding view_pixels
    pixels_done = sym (answered_done (over (row_by_row w h (view_picture t w h (plane_of w plane))) pixels) pixels e)

    pub work_done : zeroed (w * h) work ≡ view_work t w h plane pixels work
    unfolding view_work
    work_done = sym (answered_done (zeroed (w * h) work) work e)

    -- what it is handed, with arrays for the longest line
    pub view_ready : (state line : ℕ) → 5 ≤ state → 2 * state ≤ 5 * line → max_side + 6 ≤ line → ViewReady t plane (length work) state line w h
    view_ready state line some spare long =
        let room = call_room t w h plane pixels work e in
        record {
          viewable = call_viewable t w h plane pixels work e;
          stored = call_stored t w h plane pixels work e;
          second = room.second;
          third = room.third;
          across = omega (arith, room.wide.1);
          some = some;
          spare = spare;
        }

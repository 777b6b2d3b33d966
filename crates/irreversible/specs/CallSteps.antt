-- The steps of the 9/7 call have what they ask for, and what they leave is the call's.
use Rattle.std.specs.Prelude.{ℕ, suc, ◌+◌, ◌*◌, ◌-◌, ◌<◌, ◌≤◌, ◌^◌, List, ◌≡◌, refl, length, take, ℤ}
use Rattle.std.proofs.Math.Path.{sym}
use Rattle.std.proofs.Common.{arith, mul-le-mul_right, mul_comm, length-take-le}
use Rattle.numbers.specs.Lists.{over}
use Rattle.lines.specs.Lines.{lows}
use Rattle.lines.specs.Planes.{side, row_by_row}
use Rattle.lines.specs.PlaneLaws.{side_le}
use Rattle.refusals.specs.Answers.{Reason, refused, passed}
use Rattle.refusals.specs.AnswerLaws.{answered_done, answered_refused}
use Rattle.width_table.specs.declared.WidthTable.{WidthTable}
use Rattle.width_table.specs.Limits.{form_levels}
use Rattle.width_table.specs.Nodes.{LowColumns, HighColumns}
use Rattle.slices.specs.Patch.{at}
use Rattle.slices.specs.Runs.{as_type}
use Rattle.slices.specs.Parts.{Part, column_of, columns_by}
use Rattle.slices.specs.Fronts.{zeroed}
use Rattle.slices.specs.Pixels.{loaded}
use Rattle.precision.specs.Verdict.{IsLevel}
use Rattle.precision.specs.Promise.{promise}
use Rattle.fixed_stages.specs.Fixed.{fixed_line}
use Rattle.irreversible.specs.Transforms.{fixed_plane}
use Rattle.irreversible.specs.Calls.{fixed_answer, fixed_plane_after, fixed_work}
use Rattle.irreversible.specs.CallLaws.{accepted, room, picture}
use Rattle.fixed_stages.specs.Safe.{LineSafe}
use Rattle.irreversible.specs.Memory.{SafeLevel, rowed, After}
use Rattle.irreversible.specs.Ready.{BothReady, LevelReady, Ready, FirstReady}
use Rattle.irreversible.specs.LevelsLaws.{after_none, safe_next, pixels_safe}

-- some of its columns
pub part_of : {plane : List ℤ} {W w h : ℕ} → Part plane W 0 w h → (p : List ℤ) → length p ≡ length plane → (from k : ℕ) → from + k ≤ w → Part p W from k h
part_of part p e from k h = record { narrow = omega (arith, part.narrow); few = part.few; wide = part.wide; fits = λ r i. omega (arith, part.fits r i) }

-- after the rows of what stood as x
pub both_ready : (t : WidthTable) (l W w h : ℕ) (x : ℕ → ℤ) (plane p q : List ℤ) → IsLevel t l → Part plane W 0 w h → h ≤ length q → SafeLevel t l W w h x → length p ≡ length plane → at p ≡ rowed t l W w h x → BothReady t l p q W w h
both_ready t l W w h x plane p q is_level part down safe e is = record {
  is_level = is_level;
  part = part_of part p e 0 w (omega arith);
  down = down;
  low = λ j i. as_type (λ u. LineSafe t l LowColumns h (column_of W 0 (sym is u) j)) (safe.on_low_columns j i);
  high = λ j i. as_type (λ u. LineSafe t l HighColumns h (column_of W (lows w) (columns_by (fixed_line t l LowColumns) W 0 (lows w) h (sym is u)) j)) (safe.on_high_columns j i);
}

-- a side is at most the area, and a row lies in the plane
in_buffer : (a b c : ℕ) → 1 ≤ b → a * b ≤ c → a ≤ c
in_buffer a b c one fits = omega (arith, mul-le-mul_right a one, mul_comm a b)

row_fits : (W H r w n : ℕ) → w ≤ W → r < H → W * H ≤ n → 0 + r * W + w ≤ n
row_fits W H r w n a b d = omega (arith, mul-le-mul_right W b, mul_comm W H)

-- each level in turn: k levels of what stood as x₀ are done, and the plane stands as x
module _ (t : WidthTable) (pixels : List ℕ) (plane₀ buffer₀ plane buffer : List ℤ) (w h : ℕ) (ready : Ready t pixels plane₀ buffer₀ w h) (same : length plane ≡ length plane₀) (same' : length buffer ≡ length buffer₀)
    (k : ℕ) (more : k < t.levels) (x₀ x : ℕ → ℤ) (after : After t pixels w h k x₀ x) where
  a : side k w ≤ w
  a = side_le k w

  b : side k h ≤ h
  b = side_le k h

  is_level : IsLevel t (suc k)
  is_level = record { accepted = ready.accepted; least = omega arith; most = more }

  part_fits_lem : Part plane w 0 (side k w) (side k h)
  part_fits_lem =
      let p = ready.picture in
      record { narrow = omega (arith, a); few = omega (arith, b, p.height.1); wide = omega (arith, p.width.1); fits = λ r i. row_fits w h r (side k w) (length plane) a (omega (arith, b)) (omega (arith, ready.second)) }

  across_fits : side k w ≤ length buffer
  across_fits = omega (arith, a, in_buffer w h (length buffer) (omega (arith, ready.picture.height.0)) (omega (arith, ready.third)))

  down_fits : side k h ≤ length buffer
  down_fits = omega (arith, b, in_buffer h w (length buffer) (omega (arith, ready.picture.width.0)) (omega (arith, ready.third, mul_comm w h)))

  level_safe_next : SafeLevel t (suc k) w (side k w) (side k h) x
  level_safe_next = safe_next t pixels w h ready.accepted ready.picture k more x₀ x after

  -- the next level can be worked
  pub level_ready : x ≡ at plane → LevelReady t (suc k) plane buffer w (side k w) (side k h)
  level_ready e = record {
    is_level = is_level;
    part = part_fits_lem;
    across = across_fits;
    down = down_fits;
    safe = as_type (λ u. SafeLevel t (suc k) w (side k w) (side k h) (e u)) level_safe_next;
  }

-- the first level of a picture that can be transformed can be worked
pub first_ready : {t : WidthTable} {pixels : List ℕ} {plane buffer : List ℤ} {w h : ℕ} → Ready t pixels plane buffer w h → FirstReady t pixels plane buffer w h
unfolding side
first_ready {t} {pixels} {plane} {buffer} {w} {h} ready =
    let x = loaded pixels (2 ^ (t.depth - 1)) w h (at plane) in
    let one : 0 < t.levels = (form_levels t (promise t ready.accepted).form).0 in
    let none = after_none t pixels w h (at plane) x (omega (arith, ready.picture.width.0)) refl in
    record {
      is_level = is_level t pixels plane buffer plane buffer w h ready refl refl 0 one (at plane) x none;
      part = part_fits_lem t pixels plane buffer plane buffer w h ready refl refl 0 one (at plane) x none;
      across = across_fits t pixels plane buffer plane buffer w h ready refl refl 0 one (at plane) x none;
      down = down_fits t pixels plane buffer plane buffer w h ready refl refl 0 one (at plane) x none;
      on_pixels = pixels_safe t pixels w h ready.accepted ready.picture;
      safe = level_safe_next t pixels plane buffer plane buffer w h ready refl refl 0 one (at plane) x none;
    }

module _ (t : WidthTable) (w h : ℕ) (pixels : List ℕ) (plane work : List ℤ) where
  -- a call that is refused leaves all as it was
  module _ {r : Reason} (e : fixed_answer t w h pixels plane work ≡ refused r) where
    pub plane_kept : plane ≡ fixed_plane_after t w h pixels plane work
    unfolding fixed_plane_after
    plane_kept = sym (answered_refused (over (row_by_row w h (fixed_plane t pixels w h)) plane) plane e)

    pub work_kept : work ≡ fixed_work t w h pixels plane work
    unfolding fixed_work
    work_kept = sym (answered_refused (zeroed (w * h) work) work e)

  -- one that is not leaves the transform, and zeros
  module _ (e : fixed_answer t w h pixels plane work ≡ passed) where
    pub plane_done : over (row_by_row w h (fixed_plane t pixels w h)) plane ≡ fixed_plane_after t w h pixels plane work
    unfolding fixed_plane_after
    plane_done = sym (answered_done (over (row_by_row w h (fixed_plane t pixels w h)) plane) plane e)

    pub work_done : zeroed (w * h) work ≡ fixed_work t w h pixels plane work
    unfolding fixed_work
    work_done = sym (answered_done (zeroed (w * h) work) work e)

    -- what the transform is handed
    pub ready : Ready t pixels plane (take (w * h) work) w h
    ready = record {
      accepted = accepted t w h pixels plane work e;
      picture = picture t w h pixels plane work e;
      first = (room t w h pixels plane work e).first;
      second = (room t w h pixels plane work e).second;
      third = omega (arith, length-take-le (w * h) work (room t w h pixels plane work e).third);
    }

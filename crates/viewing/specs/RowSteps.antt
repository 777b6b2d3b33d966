-- The rows of the first level: each is inverted, shown and cleared, one after the other.
use Rattle.std.specs.Prelude.{ℕ, ◌+◌, ◌*◌, ◌<◌, ◌≤◌, List, ◌≡◌, refl, ℤ, pos, nat_abs, length, get_or}
use Rattle.std.proofs.Common.{sym, ◌∙◌, ap, subst, arith, mul-le-mul_right, mul_comm}
use Rattle.std.proofs.Math.Path.{fun_ext}
use Rattle.numbers.specs.Lists.{over}
use Rattle.lines.specs.Planes.{Plane, row_by_row}
use Rattle.slices.specs.Patch.{at, patch, patch_in, patch_above, patch_is}
use Rattle.slices.specs.PatchLines.{line_at, patch_lines, lines_apart, lines_out, lines_in, lines_more, packed_lines}
use Rattle.slices.specs.Parts.{Part, row_of}
use Rattle.slices.specs.Fronts.{zeroed}
use Rattle.pictures.specs.MemoryLaws.{plane_over}
use Rattle.slices.specs.FrontLaws.{patch_zeroed}
use Rattle.width_table.specs.Table.{max_depth}
use Rattle.inverse_lifting.specs.Fixed.{node_bits, fixed_inverse, limit}
use Rattle.inverse_lifting.specs.Planes.{Safe}
use Rattle.inverse_lifting.specs.Rows.{RowReady as Invertible, RowInverted}
use Rattle.viewing.specs.View.{pixel}
use Rattle.viewing.specs.Words.{back_size}

-- a row of the work area that is shown: w values from a place on
pub record RowReady (B : ℕ) (work : List ℤ) (pixels line from w : ℕ) : Type 0 where
  pub depth : (1 ≤ B) × (B ≤ max_depth)
  pub room : from + w ≤ pixels
  pub row : Invertible work line from w

-- what it shows
abbrev pub row_shown : ℕ → ℕ → (ℕ → ℤ) → ℕ → ℕ
row_shown B w y c = pixel B (fixed_inverse node_bits node_bits w y c)

-- a row inverted is small
pub taken_small : {B : ℕ} {work : List ℤ} {pixels line from w : ℕ} → RowReady B work pixels line from w → (l : List ℤ) → RowInverted work l from w → (j : ℕ) → j < w → nat_abs (at l (4 + j)) ≤ limit
taken_small ready l is j h = subst (λ (z : ℤ). nat_abs z ≤ limit) (sym (is j h)) (back_size ready.row.safe.small j h)

-- ---- all rows

pub record RowsReady (B : ℕ) (work : List ℤ) (pixels line w h : ℕ) : Type 0 where
  pub depth : (1 ≤ B) × (B ≤ max_depth)
  pub part : Part work w 0 w h
  pub room : w * h ≤ pixels
  pub across : w + 6 ≤ line
  pub safe : (r : ℕ) → r < h → Safe node_bits node_bits w (row_of w 0 (at work) r)

-- r rows are shown, and cleared
abbrev pub shown_rows : ℕ → ℕ → ℕ → (ℕ → ℤ) → (ℕ → ℕ) → ℕ → ℕ
shown_rows B w r x = patch_lines (line_at 0 w) w r (λ r. row_shown B w (row_of w 0 x r))

abbrev pub cleared_rows : ℕ → ℕ → (ℕ → ℤ) → ℕ → ℤ
cleared_rows w r = patch_lines (line_at 0 w) w r (λ r c. pos 0)

module _ {B : ℕ} {work : List ℤ} {pixels line w h : ℕ} (ready : RowsReady B work pixels line w h) (r : ℕ) (more : r < h) (now : List ℤ) (same : length now ≡ length work) (is : at now ≡ cleared_rows w r (at work)) where
  -- the next row is as it was
  pub next_row : (λ c. at now (r * w + c)) ≡ row_of w 0 (at work) r
  next_row = fun_ext λ c.
      ap (λ (f : ℕ → ℤ). f (r * w + c)) is ∙ lines_out (line_at 0 w) w _ (at work) r _ (λ i j a b e. omega (arith, mul-le-mul_right {m = i + 1} {n = r} w (omega arith)))
      ∙ ap (at work) (let e : r * w + c ≡ line_at 0 w r + c = omega arith in e)

  pub row_ready : (p t : ℕ) → p ≡ pixels → t ≡ line → RowReady B now p t (r * w) w
  row_ready p t ep et = record {
    depth = ready.depth;
    room = omega (arith, ready.room, mul-le-mul_right {m = r + 1} {n = h} w (omega arith), mul_comm w h);
    row = record {
      held = omega (arith, ready.part.fits r more);
      room = omega (arith, ready.across);
      short = omega (arith, ready.part.wide);
      safe = subst (Safe node_bits node_bits w) (sym next_row) (ready.safe r more);
    };
  }

  from_line : r * w ≡ line_at 0 w r
  from_line = omega arith

  -- one row more
  pub shown_more : (x y z : ℕ → ℕ) → y ≡ shown_rows B w r (at work) x → z ≡ patch (r * w) w (row_shown B w (λ c. at now (r * w + c))) y → z ≡ shown_rows B w (r + 1) (at work) x
  shown_more x y z before e =
      lines_more (line_at 0 w) w (λ r. row_shown B w (row_of w 0 (at work) r)) x r y z (row_shown B w (λ c. at now (r * w + c))) before (e ∙ ap (λ (k : ℕ). patch k w (row_shown B w (λ c. at now (r * w + c))) y) from_line)
      (λ j h. ap (λ (f : ℕ → ℤ). row_shown B w f j) next_row)

  pub cleared_more : (z : ℕ → ℤ) → z ≡ patch (r * w) w (λ j. pos 0) (at now) → z ≡ cleared_rows w (r + 1) (at work)
  cleared_more z e = lines_more (line_at 0 w) w (λ r c. pos 0) (at work) r (at now) z (λ j. pos 0) is (e ∙ ap (λ (k : ℕ). patch k w (λ j. pos 0) (at now)) from_line) (λ j h. refl)

-- ---- what is written at last

module _ (B w h : ℕ) (some : 1 ≤ w) where
  rows_apart : (i k : ℕ) → i < k → (p q : ℕ) → p < w → q < w → line_at 0 w i + p ≡ line_at 0 w k + q → ⊥
  rows_apart i k l = lines_apart 0 w w i k (omega arith) (omega arith)

  -- the picture of a plane that the rows leave
  pub all_shown : (x : ℕ → ℤ) (p : Plane ℤ) → ((r c : ℕ) → r < h → c < w → fixed_inverse node_bits node_bits w (row_of w 0 x r) c ≡ p r c)
      → (old new : List ℕ) → w * h ≤ length old → length new ≡ length old → (λ k. get_or new k 0) ≡ shown_rows B w h x (λ k. get_or old k 0) → new ≡ over (row_by_row w h (λ r c. pixel B (p r c))) old
  all_shown x p rows old new room same is =
      plane_over 0 w h (λ r c. pixel B (p r c)) old new some room same
      (λ r c i j. ap (λ (f : ℕ → ℕ). f (r * w + c)) is ∙ ap (shown_rows B w h x (λ k. get_or old k 0)) (let e : r * w + c ≡ line_at 0 w r + c = omega arith in e)
      ∙ lines_in (line_at 0 w) w _ (λ k. get_or old k 0) rows_apart h r c i j ∙ ap (pixel B) (rows r c i j))
      (λ q far. ap (λ (f : ℕ → ℕ). f q) is ∙ lines_out (line_at 0 w) w _ (λ k. get_or old k 0) h q (λ i j a b e. omega (arith, mul-le-mul_right {m = i + 1} {n = h} w (omega arith), mul_comm w h)))

  -- zeros, whatever the front was used for
  pub all_cleared : (x : ℕ → ℤ) (old new : List ℤ) → w * h ≤ length old → length new ≡ length old → ((q : ℕ) → w * h ≤ q → x q ≡ at old q) → at new ≡ cleared_rows w h x → new ≡ zeroed (w * h) old
  all_cleared x old new room same beyond is =
      let n = mul_comm h w in
      patch_zeroed (h * w) (w * h) old new
      (is ∙ sym (packed_lines 0 w h (λ k. pos 0) x) ∙ patch_is 0 (h * w) (λ k. pos 0) (at old) _ (λ k l. absurd (omega arith)) (λ j l. patch_in 0 (h * w) _ x j l) (λ k l. patch_above 0 (h * w) _ x k l ∙ beyond k (omega arith)))
      same room n

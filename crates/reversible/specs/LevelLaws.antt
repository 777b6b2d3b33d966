-- A level of the 5/3 transform in memory: what a kernel over rows and columns leaves, and that its steps fit; forward.
use Rattle.std.specs.Prelude.{ℕ, ◌+◌, ◌*◌, ◌<◌, ◌≤◌, ◌^◌, Bool, ◌≡◌, refl, nat_abs}
use Rattle.std.proofs.Math.Path.{sym}
use Rattle.std.proofs.Common.{◌∙◌, ap, subst, arith}
use Rattle.std.proofs.Math.IntN.{ℤ}
use Rattle.lines.specs.Lines.{Liftable}
use Rattle.lines.specs.Planes.{Plane, OnLine, rows, within, level_columns_first}
use Rattle.lines.specs.PlaneLaws.{within_in, within_below, within_beyond, columns_first_in, columns_first_keeps, by_part}
use Rattle.lines.specs.OneLaws.{one_single, long_line_lem}
use Rattle.lifting.specs.declared.Kernel.{Kernel}
use Rattle.slices.specs.PatchLines.{line_at, patch_lines, lines_apart, lines_is}
use Rattle.lifting.specs.Kernels.{worked, SafeKernel, rows_worked, columns_worked}
use Rattle.slices.specs.Parts.{row_of, column_of, rows_by, columns_by}
use Rattle.pictures.specs.MemoryLaws.{Stands, Reads, one_reads, rows_stand, columns_stand, rows_beyond, columns_beyond, columns_plane, columns_in, columns_below, columns_right}
use Rattle.lifting.specs.PixelLaws.{worked_same}
use Rattle.reversible.specs.Sizes.{worked_from, forward_kernel, Grows, forward_safe}

-- values of size b at most within w columns and h rows
abbrev pub BoundedPart : ℕ → ℕ → ℕ → Plane ℤ → Type 0
BoundedPart b w h p = (r c : ℕ) → r < h → c < w → nat_abs (p r c) ≤ b

-- the plane that stands in memory in rows of W values
abbrev pub plane_at : ℕ → (ℕ → ℤ) → Plane ℤ
plane_at W x r c = x (r * W + c)

pub sized_as : (b : ℕ) (y z : ℤ) → y ≡ z → nat_abs z ≤ b → nat_abs y ≤ b
sized_as b y z e h = subst (λ (t : ℤ). nat_abs t ≤ b) (sym e) h

-- ---- rows and columns by a kernel, a single value as it is

-- the first w values of h rows
abbrev pub rows_from : Kernel → ℕ → ℕ → ℕ → (ℕ → ℤ) → ℕ → ℤ
rows_from k = rows_by (worked_from k)

-- the first w columns of h rows
abbrev pub columns_from : Kernel → ℕ → ℕ → ℕ → (ℕ → ℤ) → ℕ → ℤ
columns_from k W = columns_by (worked_from k) W 0

module _ (k : Kernel) (W w h : ℕ) (x : ℕ → ℤ) where
  -- two lines do not meet
  apart : w ≤ W → (i j : ℕ) → i < j → (p q : ℕ) → p < w → q < w → line_at 0 W i + p ≡ line_at 0 W j + q → ⊥
  apart in_w_lem i j l = lines_apart 0 W w i j in_w_lem (omega arith)

  pub rows_one : w ≤ W → w < 2 → x ≡ rows_from k W w h x
  rows_one in_w_lem one = lines_is (line_at 0 W) w _ x (apart in_w_lem) h x (λ r c i j. sym (one_single (λ v. v) (worked k) w (row_of W 0 x r) c one)) (λ p off. refl)

  pub columns_one : w ≤ W → h < 2 → x ≡ columns_from k W w h x
  columns_one in_w_lem one = lines_is (line_at 0 W) w _ x (apart in_w_lem) h x (λ r c i j. sym (one_single (λ v. v) (worked k) h (column_of W 0 x c) r one)) (λ p off. refl)

  pub rows_more : Liftable w → rows_worked k W 0 w h x ≡ rows_from k W w h x
  rows_more works = λ u. patch_lines (line_at 0 W) w h (λ r. sym (long_line_lem (λ v. v) (worked k) w works) u (row_of W 0 x r)) x

  pub columns_more : Liftable h → columns_worked k W 0 w h x ≡ columns_from k W w h x
  columns_more works = λ u. patch_lines (line_at 0 W) w h (λ r c. sym (long_line_lem (λ v. v) (worked k) h works) u (column_of W 0 x c) r) x

-- a line is made of its own values only
pub from_reads : (k : Kernel) → Reads (worked_from k)
from_reads k = one_reads (λ v. v) (worked k) (worked_same k)

-- ---- a part of w columns and h rows worked in memory by a pass, in a plane of W columns and H rows

module _ (pass : OnLine ℤ) (reads : Reads pass) (W H w h : ℕ) (in_w_lem : w ≤ W) (in_h_lem : h ≤ H) (x : ℕ → ℤ) (p : Plane ℤ) (stands : Stands W H x p) where
  abbrev column_pass : Bool → OnLine ℤ
  column_pass low = pass

  pub columns_then_rows : Stands W H (rows_by pass W w h (columns_by pass W 0 w h x)) (level_columns_first pass column_pass w h p)
  unfolding rows
  columns_then_rows r c i j =
      let q : Plane ℤ = columns_plane pass 0 w h p in
      rows_stand pass reads W H w h (columns_by pass W 0 w h x) q in_w_lem in_h_lem (columns_stand pass reads W H 0 w h x p (omega arith) in_h_lem stands) r c i j
      ∙ by_part (λ r c. within w h (rows pass w q) q r c ≡ level_columns_first pass column_pass w h p r c) w h
      (λ r c i j. within_in w h _ q r c i j
      ∙ reads w (q r) (λ m. pass h (λ n. p n m) r) (λ m a. columns_in pass 0 w h p r m i (omega arith) (omega arith)) c j
      ∙ sym (columns_first_in pass column_pass w h p r c i j))
      (λ r c i. within_below w h _ q r c i ∙ columns_below pass 0 w h p r c i ∙ sym ((columns_first_keeps pass column_pass).below w h p r c i))
      (λ r c j. within_beyond w h _ q r c j ∙ columns_right pass 0 w h p r c (omega arith) ∙ sym ((columns_first_keeps pass column_pass).beyond w h p r c j)) r c

-- a level forward, of a new copy
abbrev pub level_forward : ℕ → ℕ → ℕ → (ℕ → ℤ) → ℕ → ℤ
level_forward W w h x = rows_from forward_kernel W w h (columns_from forward_kernel W w h x)

module _ (W H w h : ℕ) (in_w_lem : w ≤ W) (in_h_lem : h ≤ H) (x : ℕ → ℤ) where
  pub forward_beyond : (q : ℕ) → W * H ≤ q → level_forward W w h x q ≡ x q
  forward_beyond q i = rows_beyond (worked_from forward_kernel) W H w h (columns_from forward_kernel W w h x) in_w_lem in_h_lem q i ∙ columns_beyond (worked_from forward_kernel) W H 0 w h x (omega arith) in_h_lem q i

-- ---- the steps fit

module _ (W w h b : ℕ) (in_w_lem : w ≤ W) (x : ℕ → ℤ) (small : BoundedPart b w h (plane_at W x)) where
  pub row_small : (r : ℕ) → r < h → (c : ℕ) → c < w → nat_abs (row_of W 0 x r c) ≤ b
  row_small r i c j = sized_as b _ _ (ap x (omega arith)) (small r c i j)

  pub column_small : (c : ℕ) → c < w → (r : ℕ) → r < h → nat_abs (column_of W 0 x c r) ≤ b
  column_small c j r i = row_small r i c j

  module _ (fits : 5 * b + 2 < 2 ^ 31) where
    pub forward_rows_safe : Liftable w → (r : ℕ) → r < h → SafeKernel forward_kernel w (row_of W 0 x r)
    forward_rows_safe wide r i = forward_safe w b (row_of W 0 x r) wide (row_small r i) fits

    pub forward_columns_safe : Liftable h → (c : ℕ) → c < w → SafeKernel forward_kernel h (column_of W 0 x c)
    forward_columns_safe tall c j = forward_safe h b (column_of W 0 x c) tall (column_small c j) fits

  -- values after the first of a level's two passes, by a kernel that makes them at most m times as large
  module _ (k : Kernel) (m : ℕ) (grows : Grows m (worked_from k)) where
    pub rows_sized : BoundedPart (m * b) w h (plane_at W (rows_from k W w h x))
    unfolding rows
    rows_sized r c i j = sized_as (m * b) _ _
        (rows_stand (worked_from k) (from_reads k) W h w h x (plane_at W x) in_w_lem (omega arith) (λ r c i j. refl) r c i (omega arith) ∙ within_in w h _ _ r c i j)
        (grows w b (plane_at W x r) (λ n a. small r n i a) c j)

    pub columns_sized : BoundedPart (m * b) w h (plane_at W (columns_from k W w h x))
    columns_sized r c i j = sized_as (m * b) _ _
        (columns_stand (worked_from k) (from_reads k) W h 0 w h x (plane_at W x) (omega arith) (omega arith) (λ r c i j. refl) r c i (omega arith) ∙ columns_in (worked_from k) 0 w h (plane_at W x) r c i (omega arith) (omega arith))
        (grows h b (λ n. plane_at W x n c) (λ n a. small n c a j) r i)

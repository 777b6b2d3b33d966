-- A level of the way back in memory: what the kernels over rows and columns leave in either order, and that their steps fit.
use Rattle.std.specs.Prelude.{ℕ, ◌+◌, ◌*◌, ◌<◌, ◌≤◌, ◌^◌, Bool, ◌≡◌}
use Rattle.std.proofs.Math.Path.{sym}
use Rattle.std.proofs.Common.{◌∙◌, subst, arith}
use Rattle.std.proofs.Math.IntN.{ℤ}
use Rattle.lines.specs.Lines.{Liftable}
use Rattle.lines.specs.Planes.{Plane, OnLine, rows, within, level_rows_first, level_columns_first}
use Rattle.lines.specs.PlaneLaws.{within_in, within_below, within_beyond, rows_first_in, rows_first_keeps, by_part}
use Rattle.lifting.specs.Kernels.{SafeKernel}
use Rattle.slices.specs.Parts.{row_of, column_of, rows_by, columns_by}
use Rattle.pictures.specs.MemoryLaws.{Stands, Reads, rows_stand, columns_stand, columns_plane, columns_in, columns_below, columns_right}
use Rattle.reversible.specs.Reversible.{Order, columns_first, rows_first, inverse_level}
use Rattle.reversible.specs.Sizes.{worked_from}
use Rattle.reversible.specs.LevelLaws.{BoundedPart, plane_at, rows_from, columns_from, from_reads, columns_then_rows, row_small, column_small}
use Rattle.reversible_back.specs.Sizes.{inverse_kernel, back_kernel, back_safe}

-- the part's rows are worked, then its columns
module _ (pass : OnLine ℤ) (reads : Reads pass) (W H w h : ℕ) (in_w_lem : w ≤ W) (in_h_lem : h ≤ H) (x : ℕ → ℤ) (p : Plane ℤ) (stands : Stands W H x p) where
  abbrev column_pass : Bool → OnLine ℤ
  column_pass low = pass

  rows_then_columns : Stands W H (columns_by pass W 0 w h (rows_by pass W w h x)) (level_rows_first pass column_pass w h p)
  unfolding rows
  rows_then_columns r c i j =
      let q : Plane ℤ = within w h (rows pass w p) p in
      columns_stand pass reads W H 0 w h (rows_by pass W w h x) q (omega arith) in_h_lem (rows_stand pass reads W H w h x p in_w_lem in_h_lem stands) r c i j
      ∙ by_part (λ r c. columns_plane pass 0 w h q r c ≡ level_rows_first pass column_pass w h p r c) w h
      (λ r c i j. columns_in pass 0 w h q r c i (omega arith) (omega arith)
      ∙ reads h (λ m. q m c) (λ m. pass w (p m) c) (λ m a. within_in w h _ p m c a j) r i
      ∙ sym (rows_first_in pass column_pass w h p r c i j))
      (λ r c i. columns_below pass 0 w h q r c i ∙ within_below w h _ p r c i ∙ sym ((rows_first_keeps pass column_pass).below w h p r c i))
      (λ r c j. columns_right pass 0 w h q r c (omega arith) ∙ within_beyond w h _ p r c j ∙ sym ((rows_first_keeps pass column_pass).beyond w h p r c j)) r c

-- a level back, of a copy of either order
abbrev pub level_inverse : Order → ℕ → ℕ → ℕ → (ℕ → ℤ) → ℕ → ℤ
level_inverse columns_first W w h x = columns_from inverse_kernel W w h (rows_from inverse_kernel W w h x)
level_inverse rows_first W w h x = rows_from inverse_kernel W w h (columns_from inverse_kernel W w h x)

module _ (W H w h : ℕ) (in_w_lem : w ≤ W) (in_h_lem : h ≤ H) (x : ℕ → ℤ) (p : Plane ℤ) (stands : Stands W H x p) where
  pub back_stands : (order : Order) → Stands W H (level_inverse order W w h x) (inverse_level order w h p)
  back_stands columns_first = subst (λ (pass : OnLine ℤ). Stands W H (level_inverse columns_first W w h x) (level_rows_first pass (λ low. pass) w h p)) back_kernel
      (rows_then_columns (worked_from inverse_kernel) (from_reads inverse_kernel) W H w h in_w_lem in_h_lem x p stands)
  back_stands rows_first = subst (λ (pass : OnLine ℤ). Stands W H (level_inverse rows_first W w h x) (level_columns_first pass (λ low. pass) w h p)) back_kernel
      (columns_then_rows (worked_from inverse_kernel) (from_reads inverse_kernel) W H w h in_w_lem in_h_lem x p stands)

-- ---- the steps fit

module _ (W w h b : ℕ) (in_w_lem : w ≤ W) (x : ℕ → ℤ) (small : BoundedPart b w h (plane_at W x)) (fits : 5 * b + 2 < 2 ^ 31) where
  pub back_rows_safe : Liftable w → (r : ℕ) → r < h → SafeKernel inverse_kernel w (row_of W 0 x r)
  back_rows_safe wide r i = back_safe w b _ wide (row_small W w h b in_w_lem x small r i) fits

  pub back_columns_safe : Liftable h → (c : ℕ) → c < w → SafeKernel inverse_kernel h (column_of W 0 x c)
  back_columns_safe tall c j = back_safe h b _ tall (column_small W w h b in_w_lem x small c j) fits

-- A level of the 5/3 transform in memory is that of the transform (`forward_stands`), and how large a transform's values become (`forward_sized`).
use Rattle.std.specs.Prelude.{ℕ, zero, suc, ◌*◌, ◌<◌, ◌≤◌, ◌^◌, nat_abs}
use Rattle.std.proofs.Common.{subst, arith}
use Rattle.std.proofs.Math.IntN.{ℤ}
use Rattle.lines.specs.Planes.{Plane, OnLine, level_columns_first, levels, side}
use Rattle.lines.specs.PlaneLaws.{Keeps, rows_first_in, rows_first_keeps, columns_first_in, columns_first_keeps, by_part, side_le}
use Rattle.pictures.specs.MemoryLaws.{Stands}
use Rattle.reversible.specs.Reversible.{Order, columns_first, rows_first, reversible_pass, forward_level, forward}
use Rattle.reversible.specs.Sizes.{worked_from, forward_kernel, forward_kernel_lem, Grows, forward_grows}
use Rattle.reversible.specs.LevelLaws.{BoundedPart, sized_as, from_reads, columns_then_rows, level_forward}

module _ (W H w h : ℕ) (in_w_lem : w ≤ W) (in_h_lem : h ≤ H) (x : ℕ → ℤ) (p : Plane ℤ) (stands : Stands W H x p) where
  pub forward_stands : Stands W H (level_forward W w h x) (forward_level columns_first w h p)
  forward_stands = subst (λ (pass : OnLine ℤ). Stands W H (level_forward W w h x) (level_columns_first pass (λ low. pass) w h p)) forward_kernel_lem
      (columns_then_rows (worked_from forward_kernel) (from_reads forward_kernel) W H w h in_w_lem in_h_lem x p stands)

-- ---- how large a transform's values become

forward_keeps : (order : Order) → Keeps (forward_level order)
forward_keeps columns_first = columns_first_keeps reversible_pass (λ low. reversible_pass)
forward_keeps rows_first = rows_first_keeps reversible_pass (λ low. reversible_pass)

pass_grows : Grows 2 reversible_pass
pass_grows = subst (Grows 2) forward_kernel_lem forward_grows

-- within the part that a level works
part_size : (order : Order) (w h b : ℕ) (p : Plane ℤ) → BoundedPart b w h p → BoundedPart (4 * b) w h (forward_level order w h p)
part_size columns_first w h b p s r c i j = sized_as (4 * b) _ _ (columns_first_in reversible_pass (λ low. reversible_pass) w h p r c i j)
    (omega (arith, pass_grows w (2 * b) (λ k. reversible_pass h (λ m. p m k) r) (λ k a. pass_grows h b (λ m. p m k) (λ m e. s m k e a) r i) c j))
part_size rows_first w h b p s r c i j = sized_as (4 * b) _ _ (rows_first_in reversible_pass (λ low. reversible_pass) w h p r c i j)
    (omega (arith, pass_grows h (2 * b) (λ m. reversible_pass w (p m) c) (λ m a. pass_grows w b (p m) (λ n e. s m n a e) c j) r i))

level_size : (order : Order) (v u w h b : ℕ) → v ≤ w → u ≤ h → (p : Plane ℤ) → BoundedPart b w h p → BoundedPart (4 * b) w h (forward_level order v u p)
level_size order v u w h b in_w_lem in_h_lem p s = by_part (λ r c. r < h → c < w → nat_abs (forward_level order v u p r c) ≤ 4 * b) v u
    (λ r c i j x y. part_size order v u b p (λ m n a e. s m n (omega arith) (omega arith)) r c i j)
    (λ r c i x y. sized_as (4 * b) _ _ ((forward_keeps order).below v u p r c i) (omega (arith, s r c x y)))
    (λ r c j x y. sized_as (4 * b) _ _ ((forward_keeps order).beyond v u p r c j) (omega (arith, s r c x y)))

-- samples of 12 bits: after k levels at most 2^11 * 4^k
pub forward_sized : (order : Order) (w h k : ℕ) (p : Plane ℤ) → BoundedPart (2 ^ 11) w h p → BoundedPart (2 ^ 11 * 4 ^ k) w h (forward order k w h p)
unfolding forward levels
forward_sized order w h zero p s = s
forward_sized order w h (suc k) p s =
    let t : BoundedPart (4 * (2 ^ 11 * 4 ^ k)) w h (forward order (suc k) w h p) =
    level_size order (side k w) (side k h) w h (2 ^ 11 * 4 ^ k) (side_le k w) (side_le k h) (forward order k w h p) (forward_sized order w h k p s) in
    λ r c i j. omega (arith, t r c i j)

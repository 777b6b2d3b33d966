-- For the code: what every level takes and leaves is at most 2^15 in magnitude (`columns_bounded`, `level_bounded`).
use Rattle.std.specs.Prelude.{ℕ, ◌<◌, ◌≤◌, ltb, ℤ}
use Rattle.std.proofs.Common.{sym}
use Rattle.std.proofs.Math.Path.{subst}
use Rattle.std.proofs.Math.IntN.{nat_abs}
use Rattle.lines.specs.Lines.{lows}
use Rattle.lines.specs.LineLaws.{even_place_lem, odd_place, by_parity}
use Rattle.lines.specs.OneLaws.{one_long, by_one}
use Rattle.lines.specs.Planes.{Plane, columns}
use Rattle.lines.specs.PlaneLaws.{columns_first_in, columns_first_keeps, by_part}
use Rattle.width_table.specs.Nodes.{Rows, column_pass}
use Rattle.width_table.specs.declared.WidthTable.{WidthTable}
use Rattle.stages.specs.Fixed.{cut}
use Rattle.inverse_lifting.specs.Fixed.{node_bits, at_u1, at_p1, fixed_inverse_long, fixed_inverse, Small, limit}
use Rattle.viewing.specs.View.{view_line, view_level}
use Rattle.viewing.specs.Claims.{LevelSmall}

-- ---- what a level takes and leaves

-- at most 2^15 at 20 bits, at each place of w columns and h rows
abbrev pub Bounded : ℕ → ℕ → Plane ℤ → Type 0
Bounded w h p = (r c : ℕ) → r < h → c < w → nat_abs (p r c) ≤ limit

-- what a pass leaves
pub back_size : {fl fh n : ℕ} {y : ℕ → ℤ} → Small fl fh n y → (k : ℕ) → k < n → nat_abs (fixed_inverse fl fh n y k) ≤ limit
unfolding fixed_inverse fixed_inverse_long
back_size {fl} {fh} {n} {y} s k h = by_one _ n
    (λ one. s.single one k h)
    (λ works. subst (λ (z : ℤ). nat_abs z ≤ limit) (sym (one_long (cut fl node_bits) (fixed_inverse_long fl fh) n y k works))
    (by_parity (λ k. nat_abs (fixed_inverse_long fl fh n y k) ≤ limit) n
    (λ k i. subst (λ (z : ℤ). nat_abs z ≤ limit) (sym (even_place_lem (at_u1 fl fh n y) (at_p1 fl fh n y) k)) ((s.long works).u1 k i))
    (λ k i. subst (λ (z : ℤ). nat_abs z ≤ limit) (sym (odd_place (at_u1 fl fh n y) (at_p1 fl fh n y) k)) ((s.long works).p1 k i)) k h))

module _ {t : WidthTable} {l w h : ℕ} {p : Plane ℤ} (s : LevelSmall t l w h p) where
  pub columns_bounded : Bounded w h (columns (λ c. view_line t l (column_pass (ltb c (lows w)))) h p)
  unfolding columns view_line
  columns_bounded r c i j = back_size (s.in_columns c j) r i

  -- the part, and the plane that it lies in
  pub level_bounded : (W H : ℕ) → Bounded W H p → Bounded W H (view_level t l w h p)
  unfolding columns view_line
  level_bounded W H before =
      by_part (λ r c. r < H → c < W → nat_abs (view_level t l w h p r c) ≤ limit) w h
      (λ r c i j a b. subst (λ (z : ℤ). nat_abs z ≤ limit) (sym (columns_first_in (view_line t l Rows) (λ low. view_line t l (column_pass low)) w h p r c i j)) (back_size (s.in_rows r i) c j))
      (λ r c i a b. subst (λ (z : ℤ). nat_abs z ≤ limit) (sym ((columns_first_keeps (view_line t l Rows) (λ low. view_line t l (column_pass low))).below w h p r c i)) (before r c a b))
      (λ r c j a b. subst (λ (z : ℤ). nat_abs z ≤ limit) (sym ((columns_first_keeps (view_line t l Rows) (λ low. view_line t l (column_pass low))).beyond w h p r c j)) (before r c a b))

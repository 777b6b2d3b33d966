-- Nothing changes where it was admitted before document 02's job 6: of a side greater than 2^(L-1) each level works two samples or more
-- (`long_sides`), and there the levels from one sample on are those of the papers' equations (`levels_long`, `inverse_levels_long`).
use Prim.Native.Nat.{ℕ, zero, suc, ◌+◌, ◌-◌, ◌^◌, ◌<◌}
use Rattle.std.specs.Prelude.{Bool, ◌≡◌, ltb}
use Rattle.std.proofs.Math.Path.{refl, ap}
use Rattle.std.proofs.Common.{◌∙◌, subst, arith, pow_pos}
use Rattle.lines.specs.Lines.{lows, Liftable}
use Rattle.lines.specs.Planes.{Plane, OnLine, OnPart, from_one, rows, columns, within, level_rows_first, level_columns_first, side, levels, inverse_levels}
use Rattle.lines.specs.OneLaws.{long_line_lem}

-- each level works two samples or more of a side
abbrev pub Long : ℕ → ℕ → Type 0
Long L n = (k : ℕ) → k < L → Liftable (side k n)

side_above : (k j w : ℕ) → 2 ^ (k + j) < w → 2 ^ j < side k w
unfolding side
side_above zero j w h = subst (λ (t : ℕ). 2 ^ t < w) (omega arith) h
side_above (suc k) j w h =
    let e : suc k + j ≡ k + suc j = omega arith in
    let i : 2 ^ suc j < side k w = side_above k (suc j) w (subst (λ (t : ℕ). 2 ^ t < w) e h) in
    omega arith

pub long_sides : (L n : ℕ) → 2 ^ (L - 1) < n → Long L n
long_sides L n h k i =
    let e : L - 1 ≡ k + (L - 1 - k) = omega arith in
    let a : 2 ^ (L - 1 - k) < side k n = side_above k (L - 1 - k) n (subst (λ (t : ℕ). 2 ^ t < n) e h) in
    record { least = omega (arith, pow_pos (L - 1 - k)) }

-- a level of lines of two samples or more
module _ {A : Type 0} (rowSingle : A → A) (row : OnLine A) (columnSingle : Bool → A → A) (column : Bool → OnLine A) (w h : ℕ) (wide : Liftable w) (tall : Liftable h) (p : Plane A) where
  pub rows_first_long : level_rows_first (from_one rowSingle row) (λ low. from_one (columnSingle low) (column low)) w h p ≡ level_rows_first row column w h p
  unfolding level_rows_first rows columns
  rows_first_long = λ i. within w h (λ r c. long_line_lem (columnSingle (ltb c (lows w))) (column (ltb c (lows w))) h tall i (λ k. long_line_lem rowSingle row w wide i (λ m. p k m) c) r) p

  pub columns_first_long : level_columns_first (from_one rowSingle row) (λ low. from_one (columnSingle low) (column low)) w h p ≡ level_columns_first row column w h p
  unfolding level_columns_first rows columns
  columns_first_long = λ i. within w h (λ r c. long_line_lem rowSingle row w wide i (λ k. long_line_lem (columnSingle (ltb k (lows w))) (column (ltb k (lows w))) h tall i (λ m. p m k) r) c) p

-- levels that are the same at lengths from 2
module _ {A : Type 0} (one long : ℕ → OnPart A) (same : (l w h : ℕ) → Liftable w → Liftable h → (p : Plane A) → one l w h p ≡ long l w h p) where
  pub levels_long : (L w h : ℕ) → Long L w → Long L h → (p : Plane A) → levels one L w h p ≡ levels long L w h p
  unfolding levels
  levels_long zero w h wide tall p = refl
  levels_long (suc k) w h wide tall p =
      same (suc k) (side k w) (side k h) (wide k (omega arith)) (tall k (omega arith)) (levels one k w h p)
      ∙ ap (long (suc k) (side k w) (side k h)) (levels_long k w h (λ j i. wide j (omega arith)) (λ j i. tall j (omega arith)) p)

  pub inverse_levels_long : (L w h : ℕ) → Long L w → Long L h → (p : Plane A) → inverse_levels one L w h p ≡ inverse_levels long L w h p
  unfolding inverse_levels
  inverse_levels_long zero w h wide tall p = refl
  inverse_levels_long (suc k) w h wide tall p =
      ap (inverse_levels one k w h) (same (suc k) (side k w) (side k h) (wide k (omega arith)) (tall k (omega arith)) p)
      ∙ inverse_levels_long k w h (λ j i. wide j (omega arith)) (λ j i. tall j (omega arith)) (long (suc k) (side k w) (side k h) p)

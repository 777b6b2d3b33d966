-- The one-level transform of a strip, line by line in turn: each value is one of a column's pass. Lines one after the other in memory.
use Prim.Native.Nat.{ℕ, zero, suc, ◌+◌, ◌*◌, ◌-◌, ◌/◌, ◌%◌, ◌^◌, ◌<◌, ◌≤◌}
use mathlib.Core.List.{List, [], ◌∷◌, ◌++◌}
use Rattle.std.specs.Prelude.{◌≡◌, length, take, ℤ, ◌-ℤ◌}
use Rattle.std.proofs.Math.Path.{sym, ap}
use Rattle.std.proofs.Common.{◌∙◌, ap₂, subst, mul-add, mul_comm, length-take-le}
use native.Mathlib.Omega.{arith}
use Rattle.std.proofs.Math.Nat.{mul-add-div_right, mul-add-mod_self_right}
use Rattle.std.proofs.Math.ListN.{get_or, get_or-append}
use Rattle.std.proofs.Math.Seq.{get_or-append-add, get_or-take}
use Rattle.std.proofs.Math.IntN.{pos}
use Rattle.lines.specs.Lines.{lows, interleaved}
use Rattle.lines.specs.LineLaws.{even_place_lem, odd_place, by_parity}
use Rattle.lines.specs.Planes.{Plane, tabulate, row_by_row, levels, side}
use Rattle.lines.specs.PlaneLaws.{rows_first_in}
use Rattle.lines.specs.RowLaws.{tabulate_same, rows_same}
use Rattle.width_table.specs.Nodes.{Rows, column_pass}
use Rattle.width_table.specs.declared.WidthTable.{WidthTable}
use Rattle.pictures.specs.Pictures.{sample}
use Rattle.fixed_stages.specs.Fixed.{fixed_line}
use Rattle.irreversible.specs.Transforms.{fixed_after, fixed_plane}
use Rattle.irreversible.specs.LevelLaws.{line_same}
use Rattle.rolling_lines.specs.Schedule.{column_pass_at}
use Rattle.rolling_claims.specs.Claims.{in_turn}
use Rattle.rolling_claims.specs.Column.{val_pass, line_value}

-- ---- lists

module _ {A : Type 0} where
  tabulate_join : (m n : ℕ) (f : ℕ → A) → tabulate (m + n) f ≡ tabulate m f ++ tabulate n (λ k. f (m + k))
  unfolding tabulate
  tabulate_join zero n f = ap (λ (k : ℕ). tabulate k f) (zero_plus n) ∙ tabulate_same n f (λ k. f (zero + k)) (λ k i. ap f (sym (zero_plus k)))
    where
      zero_plus : (n : ℕ) → zero + n ≡ n
      zero_plus n = omega arith
  tabulate_join (suc m) n f =
      ap (λ (k : ℕ). tabulate k f) (suc_plus m n)
      ∙ ap (λ (l : List A). f zero ∷ l) (tabulate_join m n (λ k. f (suc k)) ∙ ap (λ (l : List A). tabulate m (λ k. f (suc k)) ++ l) (tabulate_same n (λ k. f (suc (m + k))) (λ k. f (suc m + k)) (λ k i. ap f (sym (suc_plus m k)))))
    where
      suc_plus : (m n : ℕ) → suc m + n ≡ suc (m + n)
      suc_plus m n = omega arith

  -- no lines
  pub no_rows : (w : ℕ) (p : Plane A) → [] ≡ row_by_row w 0 p
  unfolding row_by_row tabulate
  no_rows w p = ap (λ (n : ℕ). tabulate n (λ k. p (k / w) (k % w))) (nothing w)
    where
      nothing : (w : ℕ) → 0 ≡ w * 0
      nothing w = omega arith

  -- b lines after a lines
  pub rows_join : (w a b : ℕ) → 1 ≤ w → (p q : Plane A) → ((r c : ℕ) → r < b → c < w → q r c ≡ p (a + r) c) → row_by_row w a p ++ row_by_row w b q ≡ row_by_row w (a + b) p
  unfolding row_by_row
  rows_join w a b some p q e =
      ap (λ (l : List A). tabulate (w * a) (λ k. p (k / w) (k % w)) ++ l) (rows_same w b some q (λ r. p (a + r)) e ∙ tabulate_same (w * b) (λ k. p (a + k / w) (k % w)) (λ k. p ((w * a + k) / w) ((w * a + k) % w)) (λ k i. sym (ap₂ p (row_of k) (column_of_lem k))))
      ∙ sym (tabulate_join (w * a) (w * b) (λ k. p (k / w) (k % w)))
      ∙ ap (λ (n : ℕ). tabulate n (λ k. p (k / w) (k % w))) (sym (mul-add w a b))
    where
      row_of : (k : ℕ) → (w * a + k) / w ≡ a + k / w
      row_of k = ap (λ (n : ℕ). (n + k) / w) (mul_comm w a) ∙ mul-add-div_right some a k

      column_of_lem : (k : ℕ) → (w * a + k) % w ≡ k % w
      column_of_lem k = ap (λ (n : ℕ). (n + k) % w) (mul_comm w a) ∙ mul-add-mod_self_right a w k

-- ---- lines of pixels

-- the rows of a strip, worked
abbrev pub rows_of : WidthTable → List ℕ → ℕ → Plane ℤ
rows_of t strip w r c = fixed_line t 1 Rows w (sample strip t.depth w r) c

-- Line n of a strip that begins with n lines, goes on with the first w of some pixels and then with more: its samples, and the line worked.
module _ (t : WidthTable) (before pixels more : List ℕ) (w n : ℕ) (size : length before ≡ n * w) (long : w ≤ length pixels) where
  first : (w k : ℕ) → 0 * w + k ≡ k
  first w k = omega arith

  sample_is : (k : ℕ) → k < w → sample pixels t.depth w 0 k ≡ sample (before ++ (take w pixels ++ more)) t.depth w n k
  unfolding sample
  sample_is k i =
      ap (λ (a : ℕ). pos a -ℤ pos (2 ^ (t.depth - 1)))
      (ap (λ (j : ℕ). get_or pixels j 0) (first w k)
      ∙ sym (ap (λ (j : ℕ). get_or (before ++ (take w pixels ++ more)) (j + k) 0) (sym size)
      ∙ get_or-append-add before (take w pixels ++ more) k 0
      ∙ get_or-append (take w pixels) more 0 k (subst (λ (j : ℕ). k < j) (sym (length-take-le w pixels long)) i)
      ∙ get_or-take w pixels k 0 i))

  pub row_is : (c : ℕ) → c < w → fixed_line t 1 Rows w (sample pixels t.depth w 0) c ≡ rows_of t (before ++ (take w pixels ++ more)) w n c
  row_is = line_same t 1 Rows w (sample pixels t.depth w 0) (sample (before ++ (take w pixels ++ more)) t.depth w n) sample_is

-- ---- the transform

module _ (t : WidthTable) (one : t.levels ≡ 1) (strip : List ℕ) (w h : ℕ) where
  -- a value of the plane is one of its column's pass
  plane_is : (r c : ℕ) → r < h → c < w → fixed_plane t strip w h r c ≡ val_pass t (column_pass_at w c) h (λ k. rows_of t strip w k c) r
  unfolding fixed_plane fixed_after levels side
  plane_is r c i j =
      ap (λ (L : ℕ). fixed_after t L strip w h r c) one
      ∙ rows_first_in (fixed_line t 1 Rows) (λ low. fixed_line t 1 (column_pass low)) w h (sample strip t.depth w) r c i j

  -- and so is each line in turn
  pub turn_is : (k c : ℕ) → k < h → c < w → in_turn h (fixed_plane t strip w h) k c ≡ line_value t (column_pass_at w c) h (λ k. rows_of t strip w k c) k
  unfolding in_turn
  turn_is k c i j =
      let p = fixed_plane t strip w h in
      let y = val_pass t (column_pass_at w c) h (λ k. rows_of t strip w k c) in
      by_parity (λ k. interleaved p (λ i. p (lows h + i)) k c ≡ interleaved y (λ i. y (lows h + i)) k) h
      (λ m r. ap (λ (l : ℕ → ℤ). l c) (even_place_lem p (λ i. p (lows h + i)) m) ∙ plane_is m c (omega arith) j ∙ sym (even_place_lem y (λ i. y (lows h + i)) m))
      (λ m r. ap (λ (l : ℕ → ℤ). l c) (odd_place p (λ i. p (lows h + i)) m) ∙ plane_is (lows h + m) c (omega arith) j ∙ sym (odd_place y (λ i. y (lows h + i)) m))
      k i

-- A plane in memory that is worked row by row, or strip by strip: neighbouring columns of it.
use Rattle.std.specs.Prelude.{◌≡◌, refl, List, ℕ, suc, ◌+◌, ◌*◌, ◌-◌, ◌<◌, ◌≤◌, ℤ}
use Rattle.std.proofs.Common.{sym, ap, ◌∙◌, mul-le-mul_right, add-mul, mul-one, arith}
use Rattle.std.proofs.Math.Path.{fun_ext}
use Rattle.std.proofs.Math.Decide.{dec_lt, ℕ_discrete}
use Rattle.slices.specs.Patch.{patch}
use Rattle.slices.specs.PatchLines.{line_at, Lying, patch_lines, packed_is, lines_apart, lines_out, lines_more, lines_in, lines_is, lines_ext}
use Rattle.slices.specs.Parts.{LineFunction, row_of, column_of, rows_by, columns_by}

-- the lines from line k on
pub lines_after : (from stride k b i : ℕ) → b ≡ from + k * stride → line_at b stride i ≡ line_at from stride (k + i)
lines_after from stride k b i e =
    let f : (k + i) * stride ≡ k * stride + i * stride = add-mul k i stride in
    omega arith

pub some_lines : {l : List ℤ} {from stride n m : ℕ} → Lying l from stride n m → (k count b : ℕ) → 1 ≤ count → k + count ≤ n → b ≡ from + k * stride → Lying l b stride count m
some_lines {l} {from} {stride} {n} {m} lie k count b one h e = record {
  some = one;
  few = omega (arith, lie.few);
  narrow = lie.narrow;
  fits = λ i p. omega (arith, lines_after from stride k b i e, lie.fits (k + i) (omega arith));
}

pub same_line : (from stride i k p q : ℕ) → p < stride → q < stride → line_at from stride i + p ≡ line_at from stride k + q → (i ≡ k) × (p ≡ q)
same_line from stride i k p q hp hq e = go (ℕ_discrete i k)
  where
    go : Dec (i ≡ k) → (i ≡ k) × (p ≡ q)
    go (yes g) = (g, omega (arith, ap (λ (u : ℕ). u * stride) g))
    go (no f) = absurd (lines_apart from stride stride i k (omega arith) f p q hp hq e)

-- ---- a row by itself: one column whose stride is 1

pub row_column : (b j : ℕ) (y : ℕ → ℤ) → j < 1 → column_of 1 b y j ≡ (λ i. y (b + i))
row_column b j y h = fun_ext λ i. ap y (let e : b + i * 1 + j ≡ b + i = omega arith in e)

-- one value after the other
pub row_lines_lem : (b w : ℕ) (row y : ℕ → ℤ) → patch_lines (line_at b 1) 1 w (λ i j. row i) y ≡ patch b w row y
row_lines_lem b w row y = sym (packed_is b 1 w 1 row _ y refl (λ i j p g. ap row (let u : i * 1 + j ≡ i = omega arith in u))) ∙ (λ u. patch b (mul-one w u) row y)

pub row_patch : (pass : LineFunction) (b w : ℕ) (y : ℕ → ℤ) → columns_by pass 1 b 1 w y ≡ patch b w (pass w (λ i. y (b + i))) y
row_patch pass b w y = lines_ext (line_at b 1) 1 _ _ y w (λ i j p g. ap (λ (c : ℕ → ℤ). pass w c i) (row_column b j y g)) ∙ row_lines_lem b w _ y

-- ---- row by row: the first r rows are done, and row r is as it was

module _ (stride from w r b : ℕ) (narrow : w ≤ stride) (new : ℕ → ℕ → ℤ) (x y : ℕ → ℤ) (is : y ≡ patch_lines (line_at from stride) w r new x) (start : b ≡ line_at from stride r) where
  pub part_row_kept : (λ i. y (b + i)) ≡ row_of stride from x r
  part_row_kept = fun_ext λ i. ap (λ (k : ℕ). y (k + i)) start ∙ ap (λ (g : ℕ → ℤ). g (line_at from stride r + i)) is
      ∙ lines_out (line_at from stride) w new x r _ (λ u v a g e. omega (arith, mul-le-mul_right {m = suc u} {n = r} stride (omega arith)))

  pub row_as_was : column_of 1 b y 0 ≡ row_of stride from x r
  row_as_was = row_column b 0 y (omega arith) ∙ part_row_kept

-- the same from column 0 on
pub row_kept : (stride w r b : ℕ) → w ≤ stride → (new : ℕ → ℕ → ℤ) (x y : ℕ → ℤ) → y ≡ patch_lines (line_at 0 stride) w r new x → b ≡ line_at 0 stride r → (λ i. y (b + i)) ≡ row_of stride 0 x r
row_kept stride w r b = part_row_kept stride 0 w r b

-- a row put into the plane, value by value
pub row_put : (stride w r b : ℕ) (new : ℕ → ℕ → ℤ) (row x y z : ℕ → ℤ) → y ≡ patch_lines (line_at 0 stride) w r new x → b ≡ line_at 0 stride r
    → z ≡ patch_lines (line_at b 1) 1 w (λ i j. row i) y → row ≡ new r → z ≡ patch_lines (line_at 0 stride) w (r + 1) new x
row_put stride w r b new row x y z is start e same = lines_more (line_at 0 stride) w new x r y z row is
    (e ∙ row_lines_lem b w row y ∙ ap (λ (k : ℕ). patch k w row y) start)
    (λ j h. ap (λ (f : ℕ → ℤ). f j) same)

-- a row more, by a pass
pub row_next : (pass : LineFunction) (stride w r b : ℕ) → w ≤ stride → (x y z : ℕ → ℤ) → y ≡ rows_by pass stride w r x → b ≡ line_at 0 stride r → z ≡ patch b w (pass w (λ i. y (b + i))) y → z ≡ rows_by pass stride w (r + 1) x
row_next pass stride w r b narrow x y z is start e = lines_more (line_at 0 stride) w _ x r y z (pass w (λ i. y (b + i))) is
    (e ∙ ap (λ (k : ℕ). patch k w (pass w (λ i. y (b + i))) y) start)
    (λ j h. ap (λ (c : ℕ → ℤ). pass w c j) (row_kept stride w r b narrow _ x y is start))

-- a row more of a part, by a pass over it as a column
pub row_done : (pass : LineFunction) (stride from w r b : ℕ) → w ≤ stride → (x y z : ℕ → ℤ) → y ≡ patch_lines (line_at from stride) w r (λ i. pass w (row_of stride from x i)) x → b ≡ line_at from stride r
    → z ≡ columns_by pass 1 b 1 w y → z ≡ patch_lines (line_at from stride) w (r + 1) (λ i. pass w (row_of stride from x i)) x
row_done pass stride from w r b narrow x y z is start e = lines_more (line_at from stride) w _ x r y z (pass w (λ i. y (b + i))) is
    (e ∙ row_patch pass b w y ∙ ap (λ (k : ℕ). patch k w (pass w (λ i. y (b + i))) y) start)
    (λ j h. ap (λ (c : ℕ → ℤ). pass w c j) (part_row_kept stride from w r b narrow _ x y is start))

-- ---- strip by strip: the first d columns are done, and the next s are as they were

module _ (stride from d s h : ℕ) (narrow : from + (d + s) ≤ stride) (new : ℕ → ℕ → ℤ) (x y : ℕ → ℤ) (is : y ≡ patch_lines (line_at from stride) d h new x) where
  moved : (i j : ℕ) → line_at (from + d) stride i + j ≡ line_at from stride i + (d + j)
  moved i j = omega arith

  pub value_as_was : (i j : ℕ) → j < s → y (line_at (from + d) stride i + j) ≡ x (line_at from stride i + (d + j))
  value_as_was r j g = ap y (moved r j) ∙ ap (λ (q : ℕ → ℤ). q (line_at from stride r + (d + j))) is
      ∙ lines_out (line_at from stride) d new x h _ (λ u v a b e. omega (arith, (same_line from stride u r v (d + j) (omega arith) (omega arith) e).1))

  -- s columns more
  pub strips_more : (next : ℕ → ℕ → ℤ) (z : ℕ → ℤ) → z ≡ patch_lines (line_at (from + d) stride) s h next y → ((i j : ℕ) → i < h → j < s → next i j ≡ new i (d + j)) → z ≡ patch_lines (line_at from stride) (d + s) h new x
  strips_more next z e same = e ∙ lines_is (line_at from stride) (d + s) new x (λ u v a. lines_apart from stride (d + s) u v (omega arith) (omega arith)) h _
      (λ i j p g. go i j p g (dec_lt j d))
      (λ p off. lines_out (line_at (from + d) stride) s next y h p (λ u v a b q. off u (d + v) a (omega arith) (sym (moved u v) ∙ q))
      ∙ ap (λ (g : ℕ → ℤ). g p) is ∙ lines_out (line_at from stride) d new x h p (λ u v a b q. off u v a (omega arith) q))
    where
      go : (i j : ℕ) → i < h → j < d + s → Dec (j < d) → patch_lines (line_at (from + d) stride) s h next y (line_at from stride i + j) ≡ new i j
      go i j p g (yes l) = lines_out (line_at (from + d) stride) s next y h _ (λ u v a b q. omega (arith, (same_line from stride u i (d + v) j (omega arith) (omega arith) (sym (moved u v) ∙ q)).1))
          ∙ ap (λ (f : ℕ → ℤ). f (line_at from stride i + j)) is
          ∙ lines_in (line_at from stride) d new x (λ u v a. lines_apart from stride d u v (omega arith) (omega arith)) h i j p l
      go i j p g (no f) =
          let o : j ≡ d + (j - d) = omega arith in
          let m : line_at from stride i + j ≡ line_at (from + d) stride i + (j - d) = omega arith in
          ap (patch_lines (line_at (from + d) stride) s h next y) m
          ∙ lines_in (line_at (from + d) stride) s next y (λ u v a. lines_apart (from + d) stride s u v (omega arith) (omega arith)) h i (j - d) p (omega arith)
          ∙ same i (j - d) p (omega arith) ∙ ap (new i) (sym o)

module _ (pass : LineFunction) (stride from d s h : ℕ) (narrow : from + (d + s) ≤ stride) (x y : ℕ → ℤ) (is : y ≡ columns_by pass stride from d h x) where
  pub column_as_was : (j : ℕ) → j < s → column_of stride (from + d) y j ≡ column_of stride from x (d + j)
  column_as_was j g = fun_ext λ r. value_as_was stride from d s h narrow _ x y is r j g

  pub columns_more : (z : ℕ → ℤ) → z ≡ columns_by pass stride (from + d) s h y → z ≡ columns_by pass stride from (d + s) h x
  columns_more z e = strips_more stride from d s h narrow _ x y is _ z e (λ i j p g. ap (λ (c : ℕ → ℤ). pass h c i) (column_as_was j g))

-- no column is done
pub columns_none : (pass : LineFunction) (stride from h : ℕ) (x : ℕ → ℤ) → x ≡ columns_by pass stride from 0 h x
columns_none pass stride from h x = fun_ext λ p. sym (lines_out (line_at from stride) 0 _ x h p (λ i j a b e. omega arith))

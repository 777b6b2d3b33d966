-- A kernel reads its line's own values only: lines of pixels, worked on their way into a plane, are those of the plane that holds the pixels.
use Rattle.std.specs.Prelude.{ℕ, ◌+◌, ◌*◌, ◌/◌, ◌%◌, ◌<◌, ◌≤◌, List, ◌≡◌, ℤ, pos, ◌-ℤ◌, get_or}
use Rattle.std.proofs.Common.{sym, ◌∙◌, ap, subst, arith, mul_comm, mod-lt, div-add-mod', div-lt_iff_lt-mul}
use Rattle.std.proofs.Math.Decide.{dec_lt}
use Rattle.lines.specs.Lines.{lows, highs, Liftable}
use Rattle.lines.specs.LineLaws.{some_highs_lem, Equal, first_equal, interleaved_equal, evens_equal, odds_equal, lows_equal, highs_equal}
use Rattle.lines.specs.Neighbours.{on_highs_equal, on_lows_equal}
use Rattle.lines.specs.RowLaws.{place_in}
use Rattle.slices.specs.Patch.{patch, patch_in, patch_above}
use Rattle.slices.specs.PatchLines.{line_at, patch_lines, lines_apart, lines_out, lines_in, lines_is}
use Rattle.slices.specs.Parts.{row_of}
use Rattle.slices.specs.Pixels.{pixel_line, loaded}
use Rattle.lifting.specs.declared.Pair.{Pair}
use Rattle.lifting.specs.declared.Kernel.{Kernel}
use Rattle.lifting.specs.declared.Kernel.TheVariants.{One, Two, Inverse}
use Rattle.lifting.specs.Steps.{applied, scaled_by}
use Rattle.lifting.specs.Passes.{lifted_highs, lifted_lows}
use Rattle.lifting.specs.Kernels.{worked, rows_worked, columns_worked}

-- a pair of steps
lifted_same : (pair : Pair) (n : ℕ) → Liftable n → {l l' h h' : ℕ → ℤ} → Equal (lows n) l l' → Equal (highs n) h h'
    → Equal (lows n) (lifted_lows pair n l h) (lifted_lows pair n l' h') × Equal (highs n) (lifted_highs pair n l h) (lifted_highs pair n l' h')
lifted_same pair n works el eh =
    let h = on_highs_equal n el eh (applied pair.highs) in
    (on_lows_equal n el h (applied pair.lows) (some_highs_lem n works), h)

pub worked_same : (k : Kernel) (n : ℕ) → Liftable n → (x y : ℕ → ℤ) → Equal n x y → Equal n (worked k n x) (worked k n y)
unfolding worked
worked_same (One pair) n works x y e =
    let new = lifted_same pair n works (evens_equal n e) (odds_equal n e) in
    first_equal n new.0 new.1
worked_same (Two by) n works x y e =
    let mid = lifted_same by.first n works (evens_equal n e) (odds_equal n e) in
    let new = lifted_same by.second n works mid.0 mid.1 in
    first_equal n (λ i p. ap (scaled_by by.low) (new.0 i p)) (λ i p. ap (scaled_by by.high) (new.1 i p))
worked_same (Inverse pair) n works x y e =
    let h = highs_equal n e in
    let l = on_lows_equal n (lows_equal n e) h (applied pair.lows) (some_highs_lem n works) in
    interleaved_equal n l (on_highs_equal n l h (applied pair.highs))

-- ---- pixels, worked on their way into a plane

pub pixel_at_lem : (pixels : List ℕ) (middle a b i j : ℕ) → a + i ≡ b + j → pixel_line pixels middle a i ≡ pixel_line pixels middle b j
pixel_at_lem pixels middle a b i j e = ap (λ (k : ℕ). pos (get_or pixels k 0) -ℤ pos middle) e

-- pixels put there as they are
pub put_loaded : (pixels : List ℕ) (middle w h : ℕ) (x : ℕ → ℤ) → patch 0 (w * h) (pixel_line pixels middle 0) x ≡ loaded pixels middle w h x
put_loaded pixels middle w h x = λ u. patch 0 (w * h) (λ k. pos (get_or pixels (none k u) 0) -ℤ pos middle) x
  where
    none : (k : ℕ) → 0 + k ≡ k
    none k = omega arith

module _ (k : Kernel) (pixels : List ℕ) (middle w h : ℕ) (x : ℕ → ℤ) (some : 1 ≤ w) where
  -- rows do not meet
  rows_apart : (i j : ℕ) → i < j → (p q : ℕ) → p < w → q < w → line_at 0 w i + p ≡ line_at 0 w j + q → ⊥
  rows_apart i j l = lines_apart 0 w w i j (omega arith) (omega arith)

  -- what is on no row is past the plane
  past : (p : ℕ) → ((i j : ℕ) → i < h → j < w → line_at 0 w i + j ≡ p → ⊥) → w * h ≤ p
  past p off = go (dec_lt p (w * h))
    where
      go : Dec (p < w * h) → w * h ≤ p
      go (yes l) = absurd (off (p / w) (p % w) ((div-lt_iff_lt-mul some).1 (subst (λ (n : ℕ). p < n) (mul_comm w h) l)) (mod-lt p some) (let e : line_at 0 w (p / w) + p % w ≡ p / w * w + p % w = omega arith in e ∙ div-add-mod' p w))
      go (no f) = omega arith

  sample_at_lem : (i c : ℕ) → i < h → c < w → pixel_line pixels middle (i * w) c ≡ row_of w 0 (loaded pixels middle w h x) i c
  sample_at_lem i c a b = sym (ap (loaded pixels middle w h x) (let e : line_at 0 w i + c ≡ 0 + (i * w + c) = omega arith in e) ∙ patch_in 0 (w * h) _ x (i * w + c) (place_in w h some i c a b))

  -- the rows that the pixels give are those of the plane that holds them
  pub pixel_rows_worked : Liftable w → patch_lines (line_at 0 w) w h (λ r. worked k w (pixel_line pixels middle (r * w))) x ≡ rows_worked k w 0 w h (loaded pixels middle w h x)
  pixel_rows_worked works = lines_is (line_at 0 w) w _ (loaded pixels middle w h x) rows_apart h _
      (λ i j a b. lines_in (line_at 0 w) w _ x rows_apart h i j a b ∙ worked_same k w works _ _ (λ c d. sample_at_lem i c a d) j b)
      (λ p off. lines_out (line_at 0 w) w _ x h p off ∙ sym (patch_above 0 (w * h) _ x p (omega (arith, past p off))))

  -- columns, worked from the pixels into all rows of a plane, are those of the plane that holds them
  pub pixel_columns_worked : Liftable h → (y : ℕ → ℤ) → ((r c : ℕ) → r < h → c < w → y (r * w + c) ≡ worked k h (λ i. pixel_line pixels middle (i * w) c) r) → ((q : ℕ) → w * h ≤ q → y q ≡ x q)
      → y ≡ columns_worked k w 0 w h (loaded pixels middle w h x)
  pixel_columns_worked tall y in_rows beyond = lines_is (line_at 0 w) w _ (loaded pixels middle w h x) rows_apart h y
      (λ i j a b. ap y (let e : line_at 0 w i + j ≡ i * w + j = omega arith in e) ∙ in_rows i j a b ∙ worked_same k h tall _ _ (λ r d. sample_at_lem r j d b) i a)
      (λ p off. beyond p (past p off) ∙ sym (patch_above 0 (w * h) _ x p (omega (arith, past p off))))

-- A strip's lines in the plane and in the line buffer, and a plane that is worked row by row or strip by strip. A row is a strip of one column whose stride is 1.
use Rattle.std.specs.Prelude.{◌≡◌, refl, List, ℕ, suc, ◌+◌, ◌*◌, ◌/◌, ◌<◌, ◌≤◌, ℤ, length}
use Rattle.std.proofs.Common.{sym, ap, ◌∙◌, mul-le-mul_left, mul-le-mul_right, mul_comm, add-mul, div-mul-le_self, le-div_iff_mul-le, arith}
use Rattle.lines.specs.Lines.{lows, highs, interleaved}
use Rattle.lines.specs.LineLaws.{even_place_lem, odd_place}
use Rattle.lifting.specs.declared.Kernel.{Kernel}
use Rattle.slices.specs.Patch.{patch}
use Rattle.slices.specs.PatchLines.{line_at, Lying, patch_lines, lines_more, lines_ext, lines_then, lines_to}
use Rattle.slices.specs.Runs.{as_type}
use Rattle.lifting.specs.Passes.{Liftable, evens, odds}
use Rattle.lifting.specs.Kernels.{worked, SafeKernel}
use Rattle.slices.specs.Parts.{Part}
use Rattle.slices.specs.PartLaws.{lines_after}
use Rattle.lifting.specs.Buffers.{Buffer, column, high_column, sizes, BufferHolds}

-- n lines of s values in the plane, line i from place from + i * stride on, and a line buffer with room for them
pub record StripRoom (plane buffer : List ℤ) (stride from s n : ℕ) : Type 0 where
  pub lines : Lying plane from stride n s
  pub some : 1 ≤ s
  pub two : Liftable n
  pub room : n * s ≤ length buffer

-- the line buffer y holds lines, split, that are safe for a kernel
pub record Ready (k : Kernel) (s n : ℕ) (y : ℕ → ℤ) : Type 0 where
  pub line : ℕ → ℕ → ℤ
  pub held : BufferHolds s n (λ j. evens (line j)) (λ j. odds (line j)) y
  pub safe : (j : ℕ) → j < s → SafeKernel k n (line j)

-- z is the plane x with a strip in it: the lines that the line buffer y holds, worked
abbrev pub Finished : Kernel → ℕ → ℕ → ℕ → ℕ → (ℕ → ℤ) → (ℕ → ℤ) → (ℕ → ℤ) → Type 0
Finished k stride from s n y x z =
    (line : ℕ → ℕ → ℤ) → BufferHolds s n (λ j. evens (line j)) (λ j. odds (line j)) y → z ≡ patch_lines (line_at from stride) s n (λ i j. worked k n (line j) i) x

-- the same strip, of slices as long
pub strip_of : {plane buffer : List ℤ} {stride from s n : ℕ} → StripRoom plane buffer stride from s n → (p t : List ℤ) → length p ≡ length plane → length t ≡ length buffer → StripRoom p t stride from s n
strip_of on p t e f = record {
  lines = record { some = on.lines.some; narrow = on.lines.narrow; few = on.lines.few; fits = λ r h. omega (arith, on.lines.fits r h) };
  some = on.some;
  two = on.two;
  room = omega (arith, on.room);
}

pub buffer_of : {plane buffer : List ℤ} {stride from s n : ℕ} → StripRoom plane buffer stride from s n → (t : List ℤ) → length t ≡ length buffer → Buffer t s n
buffer_of on t e = record { two = on.two; few = on.lines.few; room = omega (arith, on.room) }

-- the line buffer's lines, and some of them
pub buffer_lines : {plane buffer : List ℤ} {stride from s n : ℕ} → StripRoom plane buffer stride from s n → (t : List ℤ) → length t ≡ length buffer → Lying t 0 s n s
buffer_lines {s} {n} on t e = record {
  some = on.lines.some;
  few = on.lines.few;
  narrow = omega arith;
  fits = λ i p. omega (arith, mul-le-mul_right {m = suc i} {n = n} s (omega arith), on.room);
}

-- lines 2 i and 2 i + 1 in the plane, and where they go in the line buffer
pub record Two (plane buffer : List ℤ) (stride from s n i : ℕ) : Type 0 where
  pub even : line_at from stride (2 * i) ≡ from + 2 * i * stride
  pub odd : line_at from stride (2 * i + 1) ≡ from + 2 * i * stride + stride
  pub both : from + 2 * i * stride + stride + s ≤ length plane
  pub apart : s ≤ stride
  pub low : i * s + s ≤ lows n * s
  pub high : lows n * s + (i * s + s) ≤ length buffer

pub two_lines_lem : {plane buffer : List ℤ} {stride from s n : ℕ} → StripRoom plane buffer stride from s n → (i : ℕ) → i < highs n → Two plane buffer stride from s n i
two_lines_lem {stride} {from} {s} {n} on i h =
    let o : (2 * i + 1) * stride ≡ 2 * i * stride + stride = omega arith in
    let f = on.lines.fits (2 * i + 1) (omega arith) in record {
      even = refl;
      odd = omega arith;
      both = omega arith;
      apart = on.lines.narrow;
      low = omega (arith, mul-le-mul_right {m = suc i} {n = lows n} s (omega arith));
      high = omega (arith, on.room, mul-le-mul_right {m = lows n + suc i} {n = n} s (omega arith), add-mul (lows n) (suc i) s);
    }

-- the last line, which has no other beside it
pub record Last (plane buffer : List ℤ) (stride from s n : ℕ) : Type 0 where
  pub there : from + 2 * highs n * stride + s ≤ length plane
  pub low : highs n * s + s ≡ lows n * s
  pub high : lows n * s ≤ length buffer

pub last_line : {plane buffer : List ℤ} {stride from s n : ℕ} → StripRoom plane buffer stride from s n → highs n < lows n → Last plane buffer stride from s n
last_line {stride} {from} {s} {n} on h = record {
  there = on.lines.fits (2 * highs n) (omega arith);
  low = omega (arith, (sizes s n on.two).odd h);
  high = omega (arith, on.room, (sizes s n on.two).all);
}

pub plane_lines : {plane buffer : List ℤ} {stride from s n : ℕ} → StripRoom plane buffer stride from s n → (p : List ℤ) → length p ≡ length plane → Lying p from stride n s
plane_lines {buffer} on p e = (strip_of on p buffer e refl).lines

-- a strip whose stride is 1 has one column
pub one_column : {plane buffer : List ℤ} {stride from s n : ℕ} → StripRoom plane buffer stride from s n → stride ≡ 1 → s ≡ 1
one_column on e = omega (arith, on.lines.narrow, on.some)

pub as_row : {plane buffer : List ℤ} {stride from s n : ℕ} → StripRoom plane buffer stride from s n → stride ≡ 1 → StripRoom plane buffer 1 from 1 n
as_row {plane} {buffer} {from} {n} on e = as_type (λ u. StripRoom plane buffer (e u) from (one_column on e u) n) on

-- the lines of the lows, then those of the highs
pub both_halves : {A : Type 0} (from stride s n : ℕ) (new low high : ℕ → ℕ → A) (x y z : ℕ → A) → y ≡ patch_lines (line_at from stride) s (lows n) low x
    → z ≡ patch_lines (line_at (from + lows n * stride) stride) s (highs n) high y → ((i j : ℕ) → i < lows n → j < s → low i j ≡ new i j) → ((i j : ℕ) → i < highs n → j < s → high i j ≡ new (lows n + i) j)
    → z ≡ patch_lines (line_at from stride) s n new x
both_halves from stride s n new low high x y z e f ls hs =
    f ∙ lines_ext _ s high (λ i. new (lows n + i)) y (highs n) hs
    ∙ (λ u. patch_lines (λ i. lines_after from stride (lows n) (from + lows n * stride) i refl u) s (highs n) (λ i. new (lows n + i)) ((e ∙ lines_ext _ s low new x (lows n) ls) u))
    ∙ lines_then (line_at from stride) s new x (lows n) (highs n) ∙ ap (λ (k : ℕ). patch_lines (line_at from stride) s k new x) (let e : lows n + highs n ≡ n = omega arith in e)

-- ---- the line buffer's lines, each to its place: line i as it should be

abbrev pub woven : {A : Type 0} → ℕ → ℕ → (ℕ → A) → ℕ → ℕ → A
woven s n y i j = interleaved (column s y j) (high_column s n y j) i

module _ {A : Type 0} (from stride s n : ℕ) (y x : ℕ → A) where
  -- two lines more
  pub woven_pair : (i : ℕ) (p z : ℕ → A) → p ≡ patch_lines (line_at from stride) s (2 * i) (woven s n y) x
      → z ≡ patch (from + 2 * i * stride + stride) s (λ j. y (lows n * s + i * s + j)) (patch (from + 2 * i * stride) s (λ j. y (i * s + j)) p)
      → z ≡ patch_lines (line_at from stride) s (2 * (i + 1)) (woven s n y) x
  woven_pair i p z is e =
      let o : from + 2 * i * stride + stride ≡ line_at from stride (2 * i + 1) = omega arith in
      lines_to _ _ _ _ _ _ _
      (lines_more (line_at from stride) s (woven s n y) x (2 * i + 1) _ z _
      (lines_more (line_at from stride) s (woven s n y) x (2 * i) p _ _ is refl (λ j g. sym (even_place_lem (column s y j) (high_column s n y j) i)))
      (e ∙ ap (λ (u : ℕ). patch u s (λ j. y (lows n * s + i * s + j)) (patch (from + 2 * i * stride) s (λ j. y (i * s + j)) p)) o)
      (λ j g. ap y (omega arith) ∙ sym (odd_place (column s y j) (high_column s n y j) i)))
      (omega arith)

  -- the last line, which has no other beside it
  pub woven_last : highs n < lows n → (p z : ℕ → A) → p ≡ patch_lines (line_at from stride) s (2 * highs n) (woven s n y) x
      → z ≡ patch (from + 2 * highs n * stride) s (λ j. y (highs n * s + j)) p → z ≡ patch_lines (line_at from stride) s n (woven s n y) x
  woven_last h p z is e =
      lines_to _ _ _ _ _ _ _
      (lines_more (line_at from stride) s (woven s n y) x (2 * highs n) p z _ is e (λ j g. sym (even_place_lem (column s y j) (high_column s n y j) (highs n))))
      (omega arith)

  -- the lines of one column
  pub woven_row : stride ≡ 1 → s ≡ 1 → (z : ℕ → A) → z ≡ patch_lines (line_at from 1) 1 n (woven 1 n y) x → z ≡ patch_lines (line_at from stride) s n (woven s n y) x
  woven_row e f z is = is ∙ (λ u. patch_lines (line_at from (sym e u)) (sym f u) n (woven (sym f u) n y) x)

-- ---- how wide a strip may be, of h rows, in a line buffer of t values

pub some_width : (t h : ℕ) → 0 < h → h ≤ t → 1 ≤ t / h
some_width t h p l = (le-div_iff_mul-le {k = h} {x = 1} {y = t} p).1 (omega arith)

pub enough_room : (t h s : ℕ) → s ≤ t / h → h * s ≤ t
enough_room t h s l =
    let m : h * s ≤ h * (t / h) = mul-le-mul_left h l in
    let e : h * (t / h) ≡ t / h * h = mul_comm h (t / h) in
    omega (arith, div-mul-le_self t h)

-- the s columns after the first d, as a strip
pub part_strip : {plane : List ℤ} {stride from w h : ℕ} → Part plane stride from w h → Liftable h → (p t : List ℤ) → length p ≡ length plane → (d s : ℕ) → 1 ≤ s → d + s ≤ w → h * s ≤ length t → StripRoom p t stride (from + d) s h
part_strip part two p t e d s some among room = record {
  lines = record { some = omega (arith, two); few = omega (arith, part.few); narrow = omega (arith, part.narrow); fits = λ r l. omega (arith, part.fits r l) };
  some = some;
  two = two;
  room = room;
}

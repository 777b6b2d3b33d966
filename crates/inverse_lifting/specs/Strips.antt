-- Strips of a plane: where their columns come from, where they go, and what the steps leave of them in memory.
use Rattle.std.specs.Prelude.{◌≡◌, Bool, true, false, List, ℕ, ◌+◌, ◌*◌, ◌-◌, ◌^◌, ◌<◌, ◌≤◌, min, ltb, ℤ, length}
use Rattle.std.proofs.Common.{sym, ◌∙◌, lit<}
use Rattle.std.proofs.Math.Path.{ap, fun_ext}
use native.Mathlib.Omega.{arith}
use Rattle.lines.specs.Lines.{lows, highs, Liftable}
use Rattle.numbers.specs.Tests.{ltb-true, ltb-false}
use Rattle.slices.specs.Patch.{at, patch, patch_above}
use Rattle.slices.specs.PatchLines.{line_at, patch_lines, lines_out, lines_none, lines_more}
use Rattle.slices.specs.PartLaws.{value_as_was, strips_more}
use Rattle.stages.specs.Fixed.{cut}
use Rattle.inverse_lifting.specs.declared.ColumnsAt.{ColumnsAt}
use Rattle.inverse_lifting.specs.declared.ColumnsOf.{ColumnsOf}
use Rattle.inverse_lifting.specs.Fixed.{node_bits, fixed_inverse}
use Rattle.inverse_lifting.specs.Planes.{Safe}
use Rattle.inverse_lifting.specs.Single.{back_single}
use Rattle.inverse_lifting.specs.Columns.{pipeline_in, held_of, ColumnReady, SteppedAt}

-- Column j of n values, the lows first. The highs are stored: value k stands on line k of the plane. So do the lows where they are stored;
-- else a coarser level left them in the work area, low k on line 2 k.
unfoldable pub source : ColumnsAt → ℕ → (ℕ → ℤ) → (ℕ → ℤ) → ℕ → ℕ → ℤ
source a n plane work j k =
    elim (ltb k (lows n)) [
      | true ↦ elim a.stored [ true ↦ plane (line_at a.from a.width k + j) | false ↦ work (line_at a.from a.stride (2 * k) + j) ]
      | false ↦ plane (line_at a.from a.width k + j)
    ]

-- w columns inverted: they go to n lines of the work area
abbrev pub inverted : ColumnsAt → ℕ → ℕ → ℕ → ℕ → (ℕ → ℤ) → (ℕ → ℤ) → ℕ → ℤ
inverted a fl fh w n plane work = patch_lines (line_at a.from a.stride) w n (λ r j. fixed_inverse fl fh n (source a n plane work j) r) work

-- of a single line: each low goes there at the bits of a node
abbrev pub singles : ColumnsAt → ℕ → ℕ → (ℕ → ℤ) → (ℕ → ℤ) → ℕ → ℤ
singles a fl w plane x = patch a.from w (λ j. cut fl node_bits (source a 1 plane x j 0)) x

-- w columns of n lines lie in a plane and in a work area of so many values
pub record Lies (plane work : ℕ) (a : ColumnsAt) (w n : ℕ) : Type 0 where
  pub few : n < 2 ^ 31
  pub narrow : a.from + w ≤ a.stride
  pub in_plane : (k : ℕ) → k < n → line_at a.from a.width k + w ≤ plane
  pub in_work : (k : ℕ) → k < n → line_at a.from a.stride k + w ≤ work

-- a strip of two lines or more lies in a work area of so many values, and has room in a line of so many
pub record Placed (work line : ℕ) (a : ColumnsAt) (b : ColumnsOf) : Type 0 where
  pub two : Liftable b.lines
  pub few : b.lines < 2 ^ 31
  pub narrow : a.from + b.columns ≤ a.stride
  pub in_work : (k : ℕ) → k < b.lines → line_at a.from a.stride k + b.columns ≤ work
  pub spare : 2 * b.columns ≤ line
  pub lowbits : b.lowbits ≤ node_bits
  pub highbits : b.highbits ≤ node_bits

-- ---- low i comes next

pub record Fed (plane work low low' : List ℤ) (a : ColumnsAt) (b : ColumnsOf) (i : ℕ) : Type 0 where
  pub next : (j : ℕ) → j < b.columns → i < lows b.lines → at low' j ≡ source a b.lines (at plane) (at work) j i
  pub past : (j : ℕ) → lows b.lines ≤ i → at low' j ≡ at low j

-- ---- step i of a strip

-- where its high, or the last one, stands in the plane, and where its first line goes
abbrev pub high_place : ColumnsAt → ColumnsOf → ℕ → ℕ
high_place a b i = line_at a.from a.width (lows b.lines + min i (highs b.lines - 1))

abbrev pub even_place : ColumnsAt → ℕ → ℕ
even_place a i = line_at a.from a.stride (2 * (i - 2))

pub record PlaneStep (high low : List ℤ) (held : List (List ℤ)) (work line : ℕ) (a : ColumnsAt) (b : ColumnsOf) (i : ℕ) : Type 0 where
  pub placed : Placed work line a b
  pub some_high : b.columns ≤ length high
  pub some_low : b.columns ≤ length low
  pub room : b.columns ≤ length held
  pub within : i < lows b.lines + 2
  pub y : ℕ → ℕ → ℤ
  pub ready : (j : ℕ) → j < b.columns → ColumnReady b i (pipeline_in (held_of held j)) (at low j) (at high j) (y j)

pub record PlaneStepped (high low : List ℤ) (held held' : List (List ℤ)) (work work' : List ℤ) (a : ColumnsAt) (b : ColumnsOf) (i : ℕ) : Type 0 where
  pub stepped : (j : ℕ) → j < b.columns → SteppedAt high low held held' (λ k. at work' (even_place a i + k)) (λ k. at work' (even_place a i + a.stride + k)) b i j
  pub kept : (p : ℕ) → (2 ≤ i → (j : ℕ) → j < b.columns → p ≡ even_place a i + j → ⊥)
      → (2 ≤ i → i - 2 < highs b.lines → (j : ℕ) → j < b.columns → p ≡ even_place a i + a.stride + j → ⊥) → at work' p ≡ at work p

-- ---- a strip

pub record StripReady (plane work : List ℤ) (line : ℕ) (a : ColumnsAt) (b : ColumnsOf) : Type 0 where
  pub placed : Placed (length work) line a b
  pub in_plane : (k : ℕ) → k < b.lines → line_at a.from a.width k + b.columns ≤ length plane
  pub safe : (j : ℕ) → j < b.columns → Safe b.lowbits b.highbits b.lines (source a b.lines (at plane) (at work) j)

-- ---- proved of them

abbrev pub pick : {A : Type 0} → A → A → Bool → A
pick x y t = elim t [ true ↦ x | false ↦ y ]

-- where a value of a column stands
module _ (a : ColumnsAt) (n : ℕ) (plane work : ℕ → ℤ) (j k : ℕ) where
  pub source_low : k < lows n → source a n plane work j k ≡ pick (plane (line_at a.from a.width k + j)) (work (line_at a.from a.stride (2 * k) + j)) a.stored
  unfolding source
  source_low h = ap (pick (pick (plane (line_at a.from a.width k + j)) (work (line_at a.from a.stride (2 * k) + j)) a.stored) (plane (line_at a.from a.width k + j))) (ltb-true k (lows n) h)

  pub source_stored : k < lows n → a.stored ≡ true → source a n plane work j k ≡ plane (line_at a.from a.width k + j)
  source_stored h e = source_low h ∙ ap (pick (plane (line_at a.from a.width k + j)) (work (line_at a.from a.stride (2 * k) + j))) e

  pub source_left : k < lows n → a.stored ≡ false → source a n plane work j k ≡ work (line_at a.from a.stride (2 * k) + j)
  source_left h e = source_low h ∙ ap (pick (plane (line_at a.from a.width k + j)) (work (line_at a.from a.stride (2 * k) + j))) e

  pub source_high : lows n ≤ k → source a n plane work j k ≡ plane (line_at a.from a.width k + j)
  unfolding source
  source_high h = ap (pick (pick (plane (line_at a.from a.width k + j)) (work (line_at a.from a.stride (2 * k) + j)) a.stored) (plane (line_at a.from a.width k + j))) (ltb-false k (lows n) h)

-- low i comes next: from the plane or from the work area
module _ (plane work low low' : List ℤ) (a : ColumnsAt) (b : ColumnsOf) (i : ℕ) (among : i < lows b.lines) where
  pub fed_stored : a.stored ≡ true → ((j : ℕ) → j < b.columns → at low' j ≡ at plane (line_at a.from a.width i + j)) → Fed plane work low low' a b i
  fed_stored e same = record { next = λ j h g. same j h ∙ sym (source_stored a b.lines (at plane) (at work) j i among e); past = λ j h. absurd (omega arith) }

  pub fed_left : a.stored ≡ false → ((j : ℕ) → j < b.columns → at low' j ≡ at work (line_at a.from a.stride (2 * i) + j)) → Fed plane work low low' a b i
  fed_left e same = record { next = λ j h g. same j h ∙ sym (source_left a b.lines (at plane) (at work) j i among e); past = λ j h. absurd (omega arith) }

-- ---- strip by strip: the first d columns are inverted

-- s columns after them
abbrev pub after : ColumnsAt → ℕ → ColumnsAt
after a d = record { width = a.width; stride = a.stride; from = a.from + d; stored = a.stored }

module _ (a : ColumnsAt) (fl fh d s h : ℕ) (narrow : a.from + (d + s) ≤ a.stride) (plane x y : ℕ → ℤ) (is : y ≡ inverted a fl fh d h plane x) where
  pub source_as_was : (j : ℕ) → j < s → source (after a d) h plane y j ≡ source a h plane x (d + j)
  unfolding source
  source_as_was j g = fun_ext λ k. λ u. pick (pick (plane (line k u)) (value_as_was a.stride a.from d s h narrow _ x y is (2 * k) j g u) a.stored) (plane (line k u)) (ltb k (lows h))
    where
      line : (k : ℕ) → line_at (a.from + d) a.width k + j ≡ line_at a.from a.width k + (d + j)
      line k = omega arith

  pub inverted_more : (z : ℕ → ℤ) → z ≡ inverted (after a d) fl fh s h plane y → z ≡ inverted a fl fh (d + s) h plane x
  inverted_more z e = strips_more a.stride a.from d s h narrow _ x y is _ z e (λ i j p g. ap (λ (c : ℕ → ℤ). fixed_inverse fl fh h c i) (source_as_was j g))

pub inverted_none : (a : ColumnsAt) (fl fh h : ℕ) (plane x : ℕ → ℤ) → x ≡ inverted a fl fh 0 h plane x
inverted_none a fl fh h plane x = fun_ext λ p. sym (lines_out (line_at a.from a.stride) 0 _ x h p (λ i j l m e. omega arith))

-- ---- columns of a single value

pub inverted_single : (a : ColumnsAt) (fl fh w : ℕ) (plane x : ℕ → ℤ) → singles a fl w plane x ≡ inverted a fl fh w 1 plane x
inverted_single a fl fh w plane x =
    let first : a.from ≡ line_at a.from a.stride 0 = omega arith in
    lines_more (line_at a.from a.stride) w (λ r j. fixed_inverse fl fh 1 (source a 1 plane x j) r) x 0 x _ _ (lines_none (line_at a.from a.stride) w _ x)
    (ap (λ (p : ℕ). patch p w (λ j. cut fl node_bits (source a 1 plane x j 0)) x) first) (λ j h. sym (back_single fl fh 1 (source a 1 plane x j) 0 (lit< tt)))

-- the low of the column after the first j of them is still where it was
pub single_now : (a : ColumnsAt) (fl j : ℕ) (plane x y : ℕ → ℤ) → y ≡ singles a fl j plane x → source a 1 plane y j 0 ≡ source a 1 plane x j 0
single_now a fl j plane x y is =
    source_low a 1 plane y j 0 (lit< tt)
    ∙ ap (λ (z : ℤ). pick (plane (line_at a.from a.width 0 + j)) z a.stored)
    (ap (λ (f : ℕ → ℤ). f (line_at a.from a.stride (2 * 0) + j)) is ∙ patch_above a.from j _ x _ (omega arith))
    ∙ sym (source_low a 1 plane x j 0 (lit< tt))

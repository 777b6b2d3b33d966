-- A level inverted in memory: the columns of row-low, those of row-high, then the rows. Where the part that it works stands in memory
-- (`Standing`) and no value on the way is large, every pass is safe (`level_safe`), and what the level leaves stands in its rows
-- (`level_at`).
use Rattle.std.specs.Prelude.{ℕ, ◌+◌, ◌*◌, ◌-◌, ◌<◌, ◌≤◌, Bool, true, false, ◌≡◌, refl, ltb, eqb, ℤ, nat_abs}
use Rattle.std.proofs.Math.Path.{sym, ap}
use Rattle.std.proofs.Common.{◌∙◌, subst, eq-eqb, ne_eqb}
use native.Mathlib.Omega.{arith}
use Rattle.std.proofs.Math.Decide.{dec_lt, ℕ_discrete}
use Rattle.numbers.specs.Tests.{ltb-true, ltb-false, by_ltb}
use Rattle.exact.specs.Exact.{alpha, beta, gamma, delta, zeta, zeta_inverse}
use Rattle.lines.specs.Lines.{lows, highs, Liftable}
use Rattle.lines.specs.LineLaws.{some_highs_lem, Equal, lows_equal, highs_equal, interleaved_equal}
use Rattle.lines.specs.Neighbours.{on_highs_equal, on_lows_equal}
use Rattle.lines.specs.Planes.{Plane, columns}
use Rattle.lines.specs.PlaneLaws.{columns_first_in}
use Rattle.width_table.specs.Nodes.{G1, G2, Pass, Rows, LowColumns, HighColumns, column_pass}
use Rattle.width_table.specs.declared.WidthTable.{WidthTable}
use Rattle.stages.specs.Fixed.{cut, scale}
use Rattle.slices.specs.PatchLines.{line_at, lines_apart, lines_in, lines_out}
use Rattle.slices.specs.Parts.{row_of, rows_by}
use Rattle.slices.specs.PartLaws.{same_line}
use Rattle.pictures.specs.MemoryLaws.{Reads, one_reads}
use Rattle.inverse_lifting.specs.Fixed.{node_bits, inverse_bits, inverse_step, at_g1, at_g2, at_u2, at_p2, at_u1, at_p1, fixed_inverse_long, fixed_inverse, SmallLong, Small, limit}
use Rattle.inverse_lifting.specs.declared.ColumnsAt.{ColumnsAt}
use Rattle.inverse_lifting.specs.Planes.{Safe}
use Rattle.inverse_lifting.specs.Strips.{source, inverted, source_stored, source_left, source_high}
use Rattle.viewing.specs.View.{entering_bits, view_line, view_level}
use Rattle.viewing.specs.Claims.{LevelSmall}
use Rattle.viewing.specs.Words.{Bounded, columns_bounded}

-- ---- a line inverted reads its own values only: two or more

module _ (fl fh n : ℕ) (works : Liftable n) (x y : ℕ → ℤ) (same : Equal n x y) where
  same_G1 : Equal (lows n) (at_g1 fl fh n x) (at_g1 fl fh n y)
  unfolding at_g1
  same_G1 k h = ap (scale zeta_inverse inverse_bits fl node_bits) (lows_equal n same k h)

  same_G2 : Equal (highs n) (at_g2 fl fh n x) (at_g2 fl fh n y)
  unfolding at_g2
  same_G2 k h = ap (scale zeta inverse_bits fh node_bits) (highs_equal n same k h)

  same_U2 : Equal (lows n) (at_u2 fl fh n x) (at_u2 fl fh n y)
  unfolding at_u2
  same_U2 = on_lows_equal n same_G1 same_G2 (inverse_step delta) (some_highs_lem n works)

  same_P2 : Equal (highs n) (at_p2 fl fh n x) (at_p2 fl fh n y)
  unfolding at_p2
  same_P2 = on_highs_equal n same_U2 same_G2 (inverse_step gamma)

  same_U1 : Equal (lows n) (at_u1 fl fh n x) (at_u1 fl fh n y)
  unfolding at_u1
  same_U1 = on_lows_equal n same_U2 same_P2 (inverse_step beta) (some_highs_lem n works)

  same_P1 : Equal (highs n) (at_p1 fl fh n x) (at_p1 fl fh n y)
  unfolding at_p1
  same_P1 = on_highs_equal n same_U1 same_P2 (inverse_step alpha)

  long_same : Equal n (fixed_inverse_long fl fh n x) (fixed_inverse_long fl fh n y)
  unfolding fixed_inverse_long
  long_same = interleaved_equal n same_U1 same_P1

  -- and is safe where a line of the same values is
  small_long : SmallLong fl fh n y → SmallLong fl fh n x
  small_long s = record {
    g1 = λ k h. subst (λ (z : ℤ). nat_abs z ≤ limit) (sym (same_G1 k h)) (s.g1 k h);
    g2 = λ k h. subst (λ (z : ℤ). nat_abs z ≤ limit) (sym (same_G2 k h)) (s.g2 k h);
    u2 = λ k h. subst (λ (z : ℤ). nat_abs z ≤ limit) (sym (same_U2 k h)) (s.u2 k h);
    p2 = λ k h. subst (λ (z : ℤ). nat_abs z ≤ limit) (sym (same_P2 k h)) (s.p2 k h);
    u1 = λ k h. subst (λ (z : ℤ). nat_abs z ≤ limit) (sym (same_U1 k h)) (s.u1 k h);
    p1 = λ k h. subst (λ (z : ℤ). nat_abs z ≤ limit) (sym (same_P1 k h)) (s.p1 k h);
  }

-- from length 1
back_reads : (fl fh : ℕ) → Reads (fixed_inverse fl fh)
unfolding fixed_inverse
back_reads fl fh = one_reads (cut fl node_bits) (fixed_inverse_long fl fh) (long_same fl fh)

safe_same : (fl fh n : ℕ) (x y : ℕ → ℤ) → Equal n x y → ((k : ℕ) → k < n → nat_abs (y k) ≤ limit) → Small fl fh n y → Safe fl fh n x
safe_same fl fh n x y same small s = record {
  enters = λ k h. subst (λ (z : ℤ). nat_abs z ≤ limit) (sym (same k h)) (small k h);
  small = record {
    long = λ works. small_long fl fh n works x y same (s.long works);
    single = λ one k h. subst (λ (z : ℤ). nat_abs z ≤ limit) (sym (back_reads fl fh n x y same k h)) (s.single one k h);
  };
}

-- a pass of a level
pub line_reads : (t : WidthTable) (l : ℕ) (p : Pass) → Reads (view_line t l p)
unfolding view_line
line_reads t l p = back_reads (entering_bits t l p G1) (entering_bits t l p G2)

-- ---- one level

-- W is a row of the stored plane, S the way from row to row in the work area; w columns and h rows are inverted.
module _ (t : WidthTable) (l W S w : ℕ) where
  -- where the columns of row-low and of row-high come from and go to
  abbrev pub low_site : ColumnsAt
  low_site = record { width = W; stride = S; from = 0; stored = eqb l t.levels }

  abbrev pub high_site : ColumnsAt
  high_site = record { width = W; stride = S; from = lows w; stored = true }

  -- what the columns, and the level, leave in the work area x
  module _ (h : ℕ) (plane x : ℕ → ℤ) where
    abbrev pub lowed : ℕ → ℤ
    lowed = inverted low_site (entering_bits t l LowColumns G1) (entering_bits t l LowColumns G2) (lows w) h plane x

    abbrev pub columned : ℕ → ℤ
    columned = inverted high_site (entering_bits t l HighColumns G1) (entering_bits t l HighColumns G2) (highs w) h plane lowed

    abbrev pub level_inverse : ℕ → ℤ
    level_inverse = rows_by (view_line t l Rows) S w h columned

-- a pass is safe on a line
abbrev pub SafeLine : WidthTable → ℕ → Pass → ℕ → (ℕ → ℤ) → Type 0
SafeLine t l p n y = Safe (entering_bits t l p G1) (entering_bits t l p G2) n y

-- every pass of the level is
pub record SafeLevel (t : WidthTable) (l W S w h : ℕ) (plane x : ℕ → ℤ) : Type 0 where
  pub on_low_columns : (j : ℕ) → j < lows w → SafeLine t l LowColumns h (source (low_site t l W S w) h plane x j)
  pub on_high_columns : (j : ℕ) → j < highs w → SafeLine t l HighColumns h (source (high_site t l W S w) h plane (lowed t l W S w h plane x) j)
  pub on_rows : (r : ℕ) → r < h → SafeLine t l Rows w (row_of S 0 (columned t l W S w h plane x) r)

-- The part p that the level works stands in memory: what is stored, in the plane; what a coarser level left, in every second row of the
-- work area.
pub record Standing (t : WidthTable) (l W S w h : ℕ) (plane x : ℕ → ℤ) (p : Plane ℤ) : Type 0 where
  pub all : l ≡ t.levels → (r c : ℕ) → r < h → c < w → plane (r * W + c) ≡ p r c
  pub below : (r c : ℕ) → lows h ≤ r → r < h → c < w → plane (r * W + c) ≡ p r c
  pub beyond : (r c : ℕ) → lows w ≤ c → r < h → c < w → plane (r * W + c) ≡ p r c
  pub left : (l ≡ t.levels → ⊥) → (r c : ℕ) → r < lows h → c < lows w → x (line_at 0 S (2 * r) + c) ≡ p r c

module _ (t : WidthTable) (l W S w h : ℕ) (apart : w ≤ S) (plane x : ℕ → ℤ) (p : Plane ℤ) (stands : Standing t l W S w h plane x p) where
  -- the columns of the part inverted
  abbrev columns_of : Plane ℤ
  columns_of = columns (λ c. view_line t l (column_pass (ltb c (lows w)))) h p

  -- a column of row-low, as its pass reads it
  low_source : (j k : ℕ) → j < lows w → k < h → source (low_site t l W S w) h plane x j k ≡ p k j
  low_source j k m i = go (dec_lt k (lows h)) (ℕ_discrete l t.levels)
    where
      here : line_at 0 W k + j ≡ k * W + j
      here = omega arith

      go : Dec (k < lows h) → Dec (l ≡ t.levels) → source (low_site t l W S w) h plane x j k ≡ p k j
      go (no f) d = source_high (low_site t l W S w) h plane x j k (omega arith) ∙ ap plane here ∙ stands.below k j (omega arith) i (omega arith)
      go (yes g) (yes e) = source_stored (low_site t l W S w) h plane x j k g (eq-eqb l t.levels e) ∙ ap plane here ∙ stands.all e k j i (omega arith)
      go (yes g) (no f) = source_left (low_site t l W S w) h plane x j k g (ne_eqb l t.levels f) ∙ stands.left f k j g m

  -- one of row-high
  high_source : (y : ℕ → ℤ) (j k : ℕ) → j < highs w → k < h → source (high_site t l W S w) h plane y j k ≡ p k (lows w + j)
  high_source y j k m i = go (dec_lt k (lows h))
    where
      there : plane (line_at (lows w) W k + j) ≡ p k (lows w + j)
      there = let e : line_at (lows w) W k + j ≡ k * W + (lows w + j) = omega arith in ap plane e ∙ stands.beyond k (lows w + j) (omega arith) i (omega arith)

      go : Dec (k < lows h) → source (high_site t l W S w) h plane y j k ≡ p k (lows w + j)
      go (no f) = source_high (high_site t l W S w) h plane y j k (omega arith) ∙ there
      go (yes g) = source_stored (high_site t l W S w) h plane y j k g refl ∙ there

  -- what the columns leave
  pub column_at : (r c : ℕ) → r < h → c < w → columned t l W S w h plane x (line_at 0 S r + c) ≡ columns_of r c
  unfolding columns view_line
  column_at r c i j =
      by_ltb (λ q. columned t l W S w h plane x (line_at 0 S r + c) ≡ view_line t l (column_pass q) h (λ k. p k c) r) c (lows w)
      (λ a. lines_out (line_at (lows w) S) (highs w) _ _ h _ (λ u v d e f. omega (arith, (same_line 0 S u r (lows w + v) c (omega arith) (omega arith) (omega arith)).1))
      ∙ lines_in (line_at 0 S) (lows w) _ x (λ u v d. lines_apart 0 S (lows w) u v (omega arith) (omega arith)) h r c i a
      ∙ line_reads t l LowColumns h _ _ (λ k b. low_source c k a b) r i)
      (λ a. let e : line_at 0 S r + c ≡ line_at (lows w) S r + (c - lows w) = omega arith in
      let f : lows w + (c - lows w) ≡ c = omega arith in
      ap (columned t l W S w h plane x) e
      ∙ lines_in (line_at (lows w) S) (highs w) _ _ (λ u v d. lines_apart (lows w) S (highs w) u v (omega arith) (omega arith)) h r (c - lows w) i (omega arith)
      ∙ line_reads t l HighColumns h _ _ (λ k b. high_source _ (c - lows w) k (omega arith) b ∙ ap (p k) f) r i)

  -- what the level leaves
  pub level_at : (r c : ℕ) → r < h → c < w → level_inverse t l W S w h plane x (line_at 0 S r + c) ≡ view_level t l w h p r c
  unfolding columns
  level_at r c i j =
      lines_in (line_at 0 S) w _ (columned t l W S w h plane x) (λ u v d. lines_apart 0 S w u v apart (omega arith)) h r c i j
      ∙ line_reads t l Rows w _ _ (λ k b. column_at r k i b) c j
      ∙ sym (columns_first_in (view_line t l Rows) (λ low. view_line t l (column_pass low)) w h p r c i j)

  -- What lies past the part is as it was.
  module _ (N : ℕ) (fits : (r : ℕ) → r < h → line_at 0 S r + w ≤ N) where
    pub columned_beyond : (q : ℕ) → N ≤ q → columned t l W S w h plane x q ≡ x q
    columned_beyond q far =
        lines_out (line_at (lows w) S) (highs w) _ _ h q (λ u v d e f. omega (arith, fits u d))
        ∙ lines_out (line_at 0 S) (lows w) _ x h q (λ u v d e f. omega (arith, fits u d))

    pub level_beyond : (q : ℕ) → N ≤ q → level_inverse t l W S w h plane x q ≡ x q
    level_beyond q far = lines_out (line_at 0 S) w _ (columned t l W S w h plane x) h q (λ u v d e f. omega (arith, fits u d)) ∙ columned_beyond q far

  -- Every pass is safe.
  module _ (small : LevelSmall t l w h p) (bounded : Bounded w h p) where
    column_safe : (c : ℕ) → c < w → (q : Bool) → ltb c (lows w) ≡ q → (v : ℕ → ℤ) → ((r : ℕ) → r < h → v r ≡ p r c) → SafeLine t l (column_pass q) h v
    column_safe c j q e v same =
        safe_same (entering_bits t l (column_pass q) G1) (entering_bits t l (column_pass q) G2) h v (λ r. p r c) same (λ r i. bounded r c i j)
        (subst (λ (b : Bool). Small (entering_bits t l (column_pass b) G1) (entering_bits t l (column_pass b) G2) h (λ r. p r c)) e (small.in_columns c j))

    pub level_safe : SafeLevel t l W S w h plane x
    level_safe = record {
      on_low_columns = λ j a. column_safe j (omega arith) true (ltb-true j (lows w) a) _ (λ r i. low_source j r a i);
      on_high_columns = λ j a. column_safe (lows w + j) (omega arith) false (ltb-false (lows w + j) (lows w) (omega arith)) _ (λ r i. high_source _ j r a i);
      on_rows = λ r i. safe_same node_bits node_bits w _ (columns_of r) (λ c j. column_at r c i j) (λ c j. columns_bounded small r c i j) (small.in_rows r i);
    }

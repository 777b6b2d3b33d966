-- For the code: what is held is sound where it is in the row-low columns, which stand first, and in the row-high ones. Looks over lines of
-- them tell whether it is (`columns_tell`, `last_tells`, `both_sound`). Zeros are sound (`zeros_sound`).
use Rattle.std.specs.Prelude.{ℕ, zero, suc, ◌+◌, ◌*◌, ◌-◌, ◌<◌, ◌≤◌, Bool, true, false, List, ◌≡◌, T, length, drop, replicate, ℤ, pos}
use Rattle.std.proofs.Common.{sym, ◌∙◌, ap, drop-drop, length-take-le, lt-ltb, le-ltb}
use Rattle.std.proofs.Math.Path.{subst}
use native.Mathlib.Omega.{arith}
use Rattle.std.proofs.Math.Decide.{dec_lt}
use Rattle.std.proofs.lemmas.List.{length-replicate, get_or-replicate}
use Rattle.std.proofs.Math.ListN.{get_or-append}
use Rattle.std.proofs.Math.Seq.{drop-append-add, length_front}
use Rattle.lines.specs.Lines.{lows, highs}
use Rattle.slices.specs.Patch.{at}
use Rattle.slices.specs.PatchLines.{line_at}
use Rattle.slices.specs.Runs.{as_type}
use Rattle.width_table.specs.Nodes.{P1, U1, P2, Pass, LowColumns, HighColumns, column_pass}
use Rattle.width_table.specs.declared.WidthTable.{WidthTable}
use Rattle.width_table.specs.Table.{fraction_bits, input_bits}
use Rattle.slices.specs.Fronts.{zeroed}
use Rattle.pictures.specs.RangeChecks.{Tells, OfBits}
use Rattle.table_meaning.specs.NodeWidths.{InNodeWidth}
use Rattle.rolling_lines.specs.Schedule.{column_pass_at}
use Rattle.rolling_lines.specs.LentLines.{held_lines, held_in, FiveBits, Sound, KeptFrom}
use Rattle.rolling_lines.specs.Memory.{Lent, in_lent}
use Rattle.rolling_lines.specs.FiveBits.{zero_five}

-- in the n columns from column `from` on, which go by a pass
pub record ColumnsSound (t : WidthTable) (p : Pass) (w from n : ℕ) (m : ℕ → ℤ) : Type 0 where
  pub low : (j : ℕ) → j < n → FiveBits (input_bits t 1 p) (m (0 * w + (from + j)))
  pub high : (j : ℕ) → j < n → FiveBits (input_bits t 1 p) (m (1 * w + (from + j)))
  pub p1 : (j : ℕ) → j < n → FiveBits (fraction_bits t 1 p P1) (m (2 * w + (from + j)))
  pub u1 : (j : ℕ) → j < n → FiveBits (fraction_bits t 1 p U1) (m (3 * w + (from + j)))
  pub p2 : (j : ℕ) → j < n → FiveBits (fraction_bits t 1 p P2) (m (4 * w + (from + j)))

-- ---- a look

-- n columns of so many lines of w values, the first from place `from` on, are of five integer bits
abbrev pub FiveIn : (ℕ → ℤ) → ℕ → ℕ → ℕ → ℕ → ℕ → Type 0
FiveIn m w from n lines f = (i : ℕ) → i < lines → (j : ℕ) → j < n → FiveBits f (m (line_at from w i + j))

-- what a look over their bits tells
module _ (m : ℕ → ℤ) (w from n lines f : ℕ) (r : Bool) where
  pub tells_five : Tells ((i : ℕ) → i < lines → (j : ℕ) → j < n → OfBits (f + 4) (m (line_at from w i + j))) r → Tells (FiveIn m w from n lines f) r
  unfolding FiveBits InNodeWidth
  tells_five look = let same : f + 4 ≡ 5 + f - 1 = omega arith in subst (λ (k : ℕ). Tells ((i : ℕ) → i < lines → (j : ℕ) → j < n → OfBits k (m (line_at from w i + j))) r) same look

was_true : {P : Type 0} {r : Bool} → Tells P r → r ≡ true → P
was_true look e = look.holds (subst T (sym e) tt)

-- one look, and another where that one finds nothing
pub tells_next : {A B : Type 0} {a b v : Bool} → Tells A a → a ≡ true → Tells B b → v ≡ b → Tells (A × B) v
tells_next {A} {B} x e y is = subst (Tells (A × B)) (sym is) (record { holds = λ q. (was_true x e, y.holds q); told = λ s. y.told s.1 })

pub tells_stop : {A B : Type 0} {a v : Bool} → Tells A a → a ≡ false → v ≡ a → Tells (A × B) v
tells_stop {A} {B} x e is = subst (Tells (A × B)) (sym (is ∙ e)) (record { holds = λ q. absurd q; told = λ s. subst T e (x.told s.0) })

-- ---- looks over the columns of a pass

-- lines from line k on lie in what is lent
pub look_in : {held : List ℤ} {w : ℕ} → Lent held w → (k from n lines : ℕ) → from + n ≤ w → k + lines ≤ held_lines → (i : ℕ) → i < lines → line_at (k * w + from) w i + n ≤ length held
look_in lent k from n lines h l i a = omega (arith, in_lent lent (k + i) (omega arith))

module _ (t : WidthTable) (p : Pass) (w from n : ℕ) (m : ℕ → ℤ) where
  -- one line, by the bits that the code read
  module _ (k f g : ℕ) (e : g ≡ f) where
    look_of : ((j : ℕ) → j < n → FiveBits f (m (k * w + (from + j)))) → FiveIn m w (k * w + from) n 1 g
    look_of s zero a j b = let same : k * w + (from + j) ≡ k * w + from + 0 * w + j = omega arith in as_type (λ u. FiveBits (sym e u) (m (same u))) (s j b)
    look_of s (suc i) a j b = absurd (omega arith)

    of_look : FiveIn m w (k * w + from) n 1 g → (j : ℕ) → j < n → FiveBits f (m (k * w + (from + j)))
    of_look s j b = let same : k * w + from + 0 * w + j ≡ k * w + (from + j) = omega arith in as_type (λ u. FiveBits (e u) (m (same u))) (s 0 (omega arith) j b)

  -- the two lines that enter the pass
  module _ (g : ℕ) (e : g ≡ input_bits t 1 p) where
    entering : ColumnsSound t p w from n m → FiveIn m w from n 2 g
    entering s zero a j b = let same : 0 * w + (from + j) ≡ from + 0 * w + j = omega arith in as_type (λ u. FiveBits (sym e u) (m (same u))) (s.low j b)
    entering s (suc zero) a j b = let same : 1 * w + (from + j) ≡ from + 1 * w + j = omega arith in as_type (λ u. FiveBits (sym e u) (m (same u))) (s.high j b)
    entering s (suc (suc i)) a j b = absurd (omega arith)

    entered : FiveIn m w from n 2 g → (k : ℕ) → k < 2 → (j : ℕ) → j < n → FiveBits (input_bits t 1 p) (m (k * w + (from + j)))
    entered s k a j b = let same : from + k * w + j ≡ k * w + (from + j) = omega arith in as_type (λ u. FiveBits (e u) (m (same u))) (s k a j b)

  -- a look that finds another value
  other : {P : Type 0} (r : Bool) → Tells P r → r ≡ false → (ColumnsSound t p w from n m → P) → Tells (ColumnsSound t p w from n m) false
  other r look e of = record { holds = λ q. absurd q; told = λ s. subst T e (look.told (of s)) }

  pub no_entering : (g : ℕ) → g ≡ input_bits t 1 p → (r : Bool) → Tells (FiveIn m w from n 2 g) r → r ≡ false → Tells (ColumnsSound t p w from n m) false
  no_entering g e r look l = other r look l (entering g e)

  pub no_p1 : (g : ℕ) → g ≡ fraction_bits t 1 p P1 → (r : Bool) → Tells (FiveIn m w (2 * w + from) n 1 g) r → r ≡ false → Tells (ColumnsSound t p w from n m) false
  no_p1 g e r look l = other r look l (λ s. look_of 2 (fraction_bits t 1 p P1) g e s.p1)

  pub no_u1 : (g : ℕ) → g ≡ fraction_bits t 1 p U1 → (r : Bool) → Tells (FiveIn m w (3 * w + from) n 1 g) r → r ≡ false → Tells (ColumnsSound t p w from n m) false
  no_u1 g e r look l = other r look l (λ s. look_of 3 (fraction_bits t 1 p U1) g e s.u1)

  -- four looks, one after the other
  module _ (a b c d : ℕ) (ea : a ≡ input_bits t 1 p) (eb : b ≡ fraction_bits t 1 p P1) (ec : c ≡ fraction_bits t 1 p U1) (ed : d ≡ fraction_bits t 1 p P2) where
    pub columns_tell : {r : Bool} → Tells (((FiveIn m w from n 2 a × FiveIn m w (2 * w + from) n 1 b) × FiveIn m w (3 * w + from) n 1 c) × FiveIn m w (4 * w + from) n 1 d) r → Tells (ColumnsSound t p w from n m) r
    columns_tell look = record {
      holds = λ q. let (((in_a, in_b), in_c), in_d) = look.holds q in record {
        low = entered a ea in_a 0 (omega arith);
        high = entered a ea in_a 1 (omega arith);
        p1 = of_look 2 _ b eb in_b;
        u1 = of_look 3 _ c ec in_c;
        p2 = of_look 4 _ d ed in_d;
      };
      told = λ s. look.told (((entering a ea s, look_of 2 _ b eb s.p1), look_of 3 _ c ec s.u1), look_of 4 _ d ed s.p2);
    }

    pub last_tells : (x y z r : Bool) → Tells (FiveIn m w from n 2 a) x → x ≡ true → Tells (FiveIn m w (2 * w + from) n 1 b) y → y ≡ true → Tells (FiveIn m w (3 * w + from) n 1 c) z → z ≡ true
        → Tells (FiveIn m w (4 * w + from) n 1 d) r → Tells (ColumnsSound t p w from n m) r
    last_tells x y z r in-a ex in_b ey in_c ez look = record {
      holds = λ q. record {
        low = entered a ea (was_true in-a ex) 0 (omega arith);
        high = entered a ea (was_true in-a ex) 1 (omega arith);
        p1 = of_look 2 _ b eb (was_true in_b ey);
        u1 = of_look 3 _ c ec (was_true in_c ez);
        p2 = of_look 4 _ d ed (look.holds q);
      };
      told = λ s. look.told (look_of 4 _ d ed s.p2);
    }

-- ---- all columns

module _ (t : WidthTable) (w : ℕ) (held : List ℤ) where
  -- columns of one pass
  in_columns_lem : (p : Pass) (from n : ℕ) → from + n ≤ w → ((j : ℕ) → j < n → column_pass_at w (from + j) ≡ p) → Sound t w (held_in w held) → ColumnsSound t p w from n (at held)
  unfolding held_in
  in_columns_lem p from n h is s = record {
    low = λ j a. subst (λ (q : Pass). FiveBits (input_bits t 1 q) (at held (0 * w + (from + j)))) (is j a) (s.low (from + j) (omega arith));
    high = λ j a. subst (λ (q : Pass). FiveBits (input_bits t 1 q) (at held (1 * w + (from + j)))) (is j a) (s.high (from + j) (omega arith));
    p1 = λ j a. subst (λ (q : Pass). FiveBits (fraction_bits t 1 q P1) (at held (2 * w + (from + j)))) (is j a) (s.p1 (from + j) (omega arith));
    u1 = λ j a. subst (λ (q : Pass). FiveBits (fraction_bits t 1 q U1) (at held (3 * w + (from + j)))) (is j a) (s.u1 (from + j) (omega arith));
    p2 = λ j a. subst (λ (q : Pass). FiveBits (fraction_bits t 1 q P2) (at held (4 * w + (from + j)))) (is j a) (s.p2 (from + j) (omega arith));
  }

  low_pass : (c : ℕ) → c < lows w → column_pass_at w c ≡ LowColumns
  low_pass c h = ap column_pass (lt-ltb c (lows w) h)

  high_pass : (c : ℕ) → lows w ≤ c → column_pass_at w c ≡ HighColumns
  high_pass c h = ap column_pass (le-ltb c (lows w) h)

  -- a line, column by column
  by_parts : (f : Pass → ℕ) (k : ℕ) → ((j : ℕ) → j < lows w → FiveBits (f LowColumns) (at held (k * w + (0 + j)))) → ((j : ℕ) → j < highs w → FiveBits (f HighColumns) (at held (k * w + (lows w + j))))
      → (c : ℕ) → c < w → FiveBits (f (column_pass_at w c)) (at held (k * w + c))
  by_parts f k low high c h = go (dec_lt c (lows w))
    where
      go : Dec (c < lows w) → FiveBits (f (column_pass_at w c)) (at held (k * w + c))
      go (yes l) = let same : k * w + (0 + c) ≡ k * w + c = omega arith in as_type (λ u. FiveBits (f (sym (low_pass c l) u)) (at held (same u))) (low c l)
      go (no l) =
          let same : k * w + (lows w + (c - lows w)) ≡ k * w + c = omega arith in
          as_type (λ u. FiveBits (f (sym (high_pass c (omega arith)) u)) (at held (same u))) (high (c - lows w) (omega arith))

  -- the two parts
  abbrev pub LowSound : Type 0
  LowSound = ColumnsSound t LowColumns w 0 (lows w) (at held)

  abbrev pub HighSound : Type 0
  HighSound = ColumnsSound t HighColumns w (lows w) (highs w) (at held)

  parts_sound : LowSound → HighSound → Sound t w (held_in w held)
  unfolding held_in
  parts_sound a b = record {
    low = by_parts (input_bits t 1) 0 a.low b.low;
    high = by_parts (input_bits t 1) 1 a.high b.high;
    p1 = by_parts (λ p. fraction_bits t 1 p P1) 2 a.p1 b.p1;
    u1 = by_parts (λ p. fraction_bits t 1 p U1) 3 a.u1 b.u1;
    p2 = by_parts (λ p. fraction_bits t 1 p P2) 4 a.p2 b.p2;
  }

  -- what a look over each tells
  pub low_unsound : (r : Bool) → Tells LowSound r → r ≡ false → Sound t w (held_in w held) → ⊥
  low_unsound r look e s = subst T e (look.told (in_columns_lem LowColumns 0 (lows w) (omega arith) (λ j h. low_pass (0 + j) (omega arith)) s))

  pub high_unsound : (r : Bool) → Tells HighSound r → r ≡ false → Sound t w (held_in w held) → ⊥
  high_unsound r look e s = subst T e (look.told (in_columns_lem HighColumns (lows w) (highs w) (omega arith) (λ j h. high_pass (lows w + j) (omega arith)) s))

  pub both_sound : (r q : Bool) → Tells LowSound r → r ≡ true → Tells HighSound q → q ≡ true → Sound t w (held_in w held)
  both_sound r q low e high e' = parts_sound (was_true low e) (was_true high e')

-- ---- zeros

-- in the five lines that are held
module _ (w : ℕ) (held : List ℤ) where
  pub zero_at_lem : (k : ℕ) → k < 5 * w → at (zeroed (5 * w) held) k ≡ pos 0
  zero_at_lem k h =
      get_or-append (replicate (5 * w) (pos 0)) _ (pos 0) k (omega (arith, length-replicate (5 * w) (pos 0))) ∙ get_or-replicate (5 * w) k (pos 0) (pos 0) h

  zero_held : (f k : ℕ) → k < 5 * w → FiveBits f (at (zeroed (5 * w) held) k)
  zero_held f k h = subst (FiveBits f) (sym (zero_at_lem k h)) (zero_five f)

  pub zeros_sound : (t : WidthTable) → Sound t w (held_in w (zeroed (5 * w) held))
  unfolding held_in
  zeros_sound t = record {
    low = λ c h. zero_held _ (0 * w + c) (omega arith);
    high = λ c h. zero_held _ (1 * w + c) (omega arith);
    p1 = λ c h. zero_held _ (2 * w + c) (omega arith);
    u1 = λ c h. zero_held _ (3 * w + c) (omega arith);
    p2 = λ c h. zero_held _ (4 * w + c) (omega arith);
  }

  -- and change nothing past what is lent
  pub past_zeros : held_lines * w ≤ length held → KeptFrom (held_lines * w) held (zeroed (5 * w) held)
  past_zeros room =
      let front = replicate (5 * w) (pos 0) in
      let n = length-replicate (5 * w) (pos 0) in
      let seven : held_lines * w ≡ length front + 2 * w = omega arith in
      record {
        length_kept = length_front held front (length front) (sym (length-take-le (length front) held (omega arith)));
        past_kept = ap (λ (k : ℕ). drop k (zeroed (5 * w) held)) seven ∙ drop-append-add front (drop (length front) held) (2 * w) ∙ drop-drop (2 * w) (length front) held ∙ ap (λ (k : ℕ). drop k held) (sym seven);
      }

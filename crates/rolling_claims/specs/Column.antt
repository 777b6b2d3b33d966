-- One column of the schedule: what the held lines contain after n lines, and what comes out, are values of the column's pass.
use Prim.Native.Nat.{ℕ, zero, suc, ◌+◌, ◌*◌, ◌<◌, ◌≤◌}
use Rattle.std.specs.Prelude.{List, [], ◌∷◌, ◌≡◌, length, ℤ, pos}
use Rattle.std.proofs.Math.Path.{refl, sym, ap}
use Rattle.std.proofs.Common.{◌∙◌, subst, arith}
use Rattle.exact.specs.Exact.{alpha, beta, gamma, delta, zeta, zeta_inverse}
use Rattle.lines.specs.Lines.{lows, low_after, high_before, high_after, on_highs, on_lows, lows_first, interleaved}
use Rattle.lines.specs.LineLaws.{first_low_lem, first_high, even_place_lem, odd_place}
use Rattle.lines.specs.OneLaws.{one_single, one_long}
use Rattle.width_table.specs.Nodes.{Node, P1, U1, P2, U2, G1, G2, Pass}
use Rattle.width_table.specs.declared.WidthTable.{WidthTable}
use Rattle.width_table.specs.Table.{constant_bits, fraction_bits, input_bits}
use Rattle.stages.specs.Fixed.{cut, step, scale}
use Rattle.table_meaning.specs.Products.{product_of}
use Rattle.fixed_stages.specs.Fixed.{at_p1, at_u1, at_p2, at_u2, at_g1, at_g2, value_at, count_at, fixed_long, fixed_pass, fixed_line}
use Rattle.rolling_lines.specs.declared.Taken.{Taken}
use Rattle.rolling_lines.specs.declared.Taken.TheVariants.{Zero, One, Two, Three, Four, OddMany, EvenMany}
use Rattle.rolling_lines.specs.Schedule.{Line, Held, next, holds_p2, column_pass_at, before, stacked, line_p1, line_u1, line_p2, line_u2, line_g1, line_g2, line_single, new_p1, new_u1, new_p2, new_u2, held_after, line_gives, last_p2, last_u2, odd_u1, odd_p2, odd_u2, end_odd, end_gives}
use Rattle.rolling_lines.specs.LentLines.{FiveBits, SameHeld}
use Rattle.rolling_lines.specs.FiveBits.{zero_five}
use Rattle.rolling_claims.specs.Claims.{ready}

-- ---- the five lines at one column

pub record Contains (c : ℕ) (held : Held) (l g p u q : ℤ) : Type 0 where
  pub low : held.low c ≡ l
  pub high : held.high c ≡ g
  pub p1 : held.p1 c ≡ p
  pub u1 : held.u1 c ≡ u
  pub p2 : held.p2 c ≡ q

contains_same : (w c : ℕ) (a b : Held) {l g p u q : ℤ} → c < w → SameHeld w a b → Contains c b l g p u q → Contains c a l g p u q
contains_same w c a b i s d = record {
  low = s.low c i ∙ d.low;
  high = s.high c i ∙ d.high;
  p1 = s.p1 c i ∙ d.p1;
  u1 = s.u1 c i ∙ d.u1;
  p2 = s.p2 c i ∙ d.p2;
}

-- ---- the stages at one place

module _ (t : WidthTable) (p : Pass) (h : ℕ) (x : ℕ → ℤ) where
  -- the values of the column's pass over two lines or more
  abbrev pub val_p1 : ℕ → ℤ
  val_p1 = at_p1 (constant_bits t) (product_of t 1 p) (input_bits t 1 p) (fraction_bits t 1 p) h x

  abbrev pub val_u1 : ℕ → ℤ
  val_u1 = at_u1 (constant_bits t) (product_of t 1 p) (input_bits t 1 p) (fraction_bits t 1 p) h x

  abbrev pub val_p2 : ℕ → ℤ
  val_p2 = at_p2 (constant_bits t) (product_of t 1 p) (input_bits t 1 p) (fraction_bits t 1 p) h x

  abbrev pub val_u2 : ℕ → ℤ
  val_u2 = at_u2 (constant_bits t) (product_of t 1 p) (input_bits t 1 p) (fraction_bits t 1 p) h x

  abbrev pub val_g1 : ℕ → ℤ
  val_g1 = at_g1 (constant_bits t) (product_of t 1 p) (input_bits t 1 p) (fraction_bits t 1 p) h x

  abbrev pub val_g2 : ℕ → ℤ
  val_g2 = at_g2 (constant_bits t) (product_of t 1 p) (input_bits t 1 p) (fraction_bits t 1 p) h x

  -- what the column's pass leaves
  abbrev pub val_pass : ℕ → ℤ
  val_pass = fixed_line t 1 p h x

  -- line k of low 0, high 0, low 1, ..
  abbrev pub line_value : ℕ → ℤ
  line_value = interleaved val_pass (λ i. val_pass (lows h + i))

  pass_long : 2 ≤ h → (k : ℕ) → val_pass k ≡ lows_first h val_g1 val_g2 k
  unfolding fixed_line fixed_pass fixed_long
  pass_long two k = one_long (cut (input_bits t 1 p) (fraction_bits t 1 p G1)) (fixed_long (constant_bits t) (product_of t 1 p) (input_bits t 1 p) (fraction_bits t 1 p)) h x k (record { least = two })

  pub low_turn : (i : ℕ) → 2 ≤ h → 2 * i < h → line_value (2 * i) ≡ val_g1 i
  low_turn i two room = even_place_lem val_pass (λ i. val_pass (lows h + i)) i ∙ pass_long two i ∙ first_low_lem h val_g1 val_g2 i (omega arith)

  pub high_turn : (i : ℕ) → 2 ≤ h → line_value (2 * i + 1) ≡ val_g2 i
  high_turn i two = odd_place val_pass (λ i. val_pass (lows h + i)) i ∙ pass_long two (lows h + i) ∙ first_high h val_g1 val_g2 i

  -- a single line
  single_turn : h ≡ 1 → line_value 0 ≡ cut (input_bits t 1 p) (fraction_bits t 1 p G1) (x 0)
  unfolding fixed_line fixed_pass
  single_turn one = even_place_lem val_pass (λ i. val_pass (lows h + i)) 0 ∙ one_single (cut (input_bits t 1 p) (fraction_bits t 1 p G1)) (fixed_long (constant_bits t) (product_of t 1 p) (input_bits t 1 p) (fraction_bits t 1 p)) h x 0 (omega arith)

-- The same at a column of w: what P1 (V1), U1 (W1), P2 (V2) and U2 (W2) leave.
module _ (t : WidthTable) (w h c : ℕ) (x : ℕ → ℤ) where
  abbrev pub V1 : ℕ → ℤ
  V1 = val_p1 t (column_pass_at w c) h x

  abbrev pub W1 : ℕ → ℤ
  W1 = val_u1 t (column_pass_at w c) h x

  abbrev pub V2 : ℕ → ℤ
  V2 = val_p2 t (column_pass_at w c) h x

  abbrev pub W2 : ℕ → ℤ
  W2 = val_u2 t (column_pass_at w c) h x

  p1_is : (i j : ℕ) (own a b : Line) → own c ≡ x (2 * i + 1) → a c ≡ x (2 * i) → b c ≡ x (2 * j) → j ≡ low_after h i → line_p1 t w own a b c ≡ V1 i
  unfolding line_p1 at_p1 on_highs
  p1_is i j own a b d e f g = λ u. step (product_of t 1 (column_pass_at w c) P1) alpha (constant_bits t P1) (input_bits t 1 (column_pass_at w c)) (input_bits t 1 (column_pass_at w c)) (fraction_bits t 1 (column_pass_at w c) P1) (d u) (e u) ((f ∙ ap (λ (k : ℕ). x (2 * k)) g) u)

  u1_is : (i j k : ℕ) (own a b : Line) → own c ≡ x (2 * i) → a c ≡ V1 j → b c ≡ V1 k → j ≡ high_before i → k ≡ high_after h i → line_u1 t w own a b c ≡ W1 i
  unfolding line_u1 at_u1 on_lows
  u1_is i j k own a b d e f g s = λ u. step (product_of t 1 (column_pass_at w c) U1) beta (constant_bits t U1) (fraction_bits t 1 (column_pass_at w c) P1) (input_bits t 1 (column_pass_at w c)) (fraction_bits t 1 (column_pass_at w c) U1) (d u) ((e ∙ ap V1 g) u) ((f ∙ ap V1 s) u)

  p2_is : (i j : ℕ) (own a b : Line) → own c ≡ V1 i → a c ≡ W1 i → b c ≡ W1 j → j ≡ low_after h i → line_p2 t w own a b c ≡ V2 i
  unfolding line_p2 at_p2 on_highs
  p2_is i j own a b d e f g = λ u. step (product_of t 1 (column_pass_at w c) P2) gamma (constant_bits t P2) (fraction_bits t 1 (column_pass_at w c) U1) (fraction_bits t 1 (column_pass_at w c) P1) (fraction_bits t 1 (column_pass_at w c) P2) (d u) (e u) ((f ∙ ap W1 g) u)

  u2_is : (i j k : ℕ) (own a b : Line) → own c ≡ W1 i → a c ≡ V2 j → b c ≡ V2 k → j ≡ high_before i → k ≡ high_after h i → line_u2 t w own a b c ≡ W2 i
  unfolding line_u2 at_u2 on_lows
  u2_is i j k own a b d e f g s = λ u. step (product_of t 1 (column_pass_at w c) U2) delta (constant_bits t U2) (fraction_bits t 1 (column_pass_at w c) P2) (fraction_bits t 1 (column_pass_at w c) U1) (fraction_bits t 1 (column_pass_at w c) U2) (d u) ((e ∙ ap V2 g) u) ((f ∙ ap V2 s) u)

  g1_is : (i : ℕ) (a : Line) → a c ≡ W2 i → line_g1 t w a c ≡ val_g1 t (column_pass_at w c) h x i
  unfolding line_g1 at_g1
  g1_is i a e = ap (scale zeta (constant_bits t G1) (fraction_bits t 1 (column_pass_at w c) U2) (fraction_bits t 1 (column_pass_at w c) G1)) e

  g2_is : (i : ℕ) (a : Line) → a c ≡ V2 i → line_g2 t w a c ≡ val_g2 t (column_pass_at w c) h x i
  unfolding line_g2 at_g2
  g2_is i a e = ap (scale zeta_inverse (constant_bits t G2) (fraction_bits t 1 (column_pass_at w c) P2) (fraction_bits t 1 (column_pass_at w c) G2)) e

  -- ---- what is held

  -- After n lines: the last low and high line; P1 and U1 of the high and the low line before the last low line; P2 of the high line
  -- before those; zeros where there is none yet.
  pub data Holding (held : Held) : ℕ → Taken → Type 0 where
    zero_lines : Holding held 0 Zero
    one_line : Contains c held (x 0) (pos 0) (pos 0) (pos 0) (pos 0) → Holding held 1 One
    two_lines_lem : Contains c held (x 0) (x 1) (pos 0) (pos 0) (pos 0) → Holding held 2 Two
    three_lines : Contains c held (x 2) (x 1) (V1 0) (W1 0) (pos 0) → Holding held 3 Three
    four_lines : Contains c held (x 2) (x 3) (V1 0) (W1 0) (pos 0) → Holding held 4 Four
    odd_many : (m n : ℕ) → n ≡ 2 * m + 5 → Contains c held (x (2 * suc (suc m))) (x (2 * suc m + 1)) (V1 (suc m)) (W1 (suc m)) (V2 m) → Holding held n OddMany
    even_many : (m n : ℕ) → n ≡ 2 * m + 6 → Contains c held (x (2 * suc (suc m))) (x (2 * suc (suc m) + 1)) (V1 (suc m)) (W1 (suc m)) (V2 m) → Holding held n EvenMany

  -- the same lines hold the same
  pub holding_same : (a b : Held) (n : ℕ) (k : Taken) → c < w → (1 ≤ n → SameHeld w a b) → Holding b n k → Holding a n k
  holding_same a b n k i s zero_lines = zero_lines
  holding_same a b n k i s (one_line d) = one_line (contains_same w c a b i (s (omega arith)) d)
  holding_same a b n k i s (two_lines_lem d) = two_lines_lem (contains_same w c a b i (s (omega arith)) d)
  holding_same a b n k i s (three_lines d) = three_lines (contains_same w c a b i (s (omega arith)) d)
  holding_same a b n k i s (four_lines d) = four_lines (contains_same w c a b i (s (omega arith)) d)
  holding_same a b n k i s (odd_many m n' q d) = odd_many m n' q (contains_same w c a b i (s (omega arith)) d)
  holding_same a b n k i s (even_many m n' q d) = even_many m n' q (contains_same w c a b i (s (omega arith)) d)

  -- ---- what a low line makes ready

  -- the first time: P1 and U1 of the first high and the first low line
  record FirstReady (held : Held) (row : Line) : Type 0 where
    p1 : new_p1 t w Two held row c ≡ V1 0
    u1 : new_u1 t w Two held row c ≡ W1 0

  -- later: P1 and U1 at i + 1, P2 and U2 at i
  record AllReady (k : Taken) (held : Held) (row : Line) (i : ℕ) : Type 0 where
    p1 : new_p1 t w k held row c ≡ V1 (suc i)
    u1 : new_u1 t w k held row c ≡ W1 (suc i)
    p2 : new_p2 t w k held row c ≡ V2 i
    u2 : new_u2 t w k held row c ≡ W2 i

  module _ (held : Held) (row : Line) (j : ℕ) (new : row c ≡ x (2 * j)) where
    low_two : 2 ≤ h → j ≡ low_after h 0 → Contains c held (x 0) (x 1) (pos 0) (pos 0) (pos 0) → FirstReady held row
    unfolding new_p1 new_u1 high_before high_after
    low_two room q d =
        let a = p1_is 0 j held.high held.low row d.high d.low new q in
        record { p1 = a; u1 = u1_is 0 0 0 held.low (new_p1 t w Two held row) (new_p1 t w Two held row) d.low a a refl (omega arith) }

    low_four : 4 ≤ h → j ≡ low_after h 1 → Contains c held (x 2) (x 3) (V1 0) (W1 0) (pos 0) → AllReady Four held row 0
    unfolding new_p1 new_u1 new_p2 new_u2 low_after high_before high_after
    low_four room q d =
        let a = p1_is 1 j held.high held.low row d.high d.low new q in
        let b = u1_is 1 0 1 held.low held.p1 (new_p1 t w Four held row) d.low d.p1 a refl (omega arith) in
        let b' = p2_is 0 1 held.p1 held.u1 (new_u1 t w Four held row) d.p1 d.u1 b (omega arith) in
        record { p1 = a; u1 = b; p2 = b'; u2 = u2_is 0 0 0 held.u1 (new_p2 t w Four held row) (new_p2 t w Four held row) d.u1 b' b' refl (omega arith) }

    low_even : (m : ℕ) → 2 * m + 6 ≤ h → j ≡ low_after h (suc (suc m)) → Contains c held (x (2 * suc (suc m))) (x (2 * suc (suc m) + 1)) (V1 (suc m)) (W1 (suc m)) (V2 m) → AllReady EvenMany held row (suc m)
    unfolding new_p1 new_u1 new_p2 new_u2 low_after high_before high_after
    low_even m room q d =
        let a = p1_is (suc (suc m)) j held.high held.low row d.high d.low new q in
        let b = u1_is (suc (suc m)) (suc m) (suc (suc m)) held.low held.p1 (new_p1 t w EvenMany held row) d.low d.p1 a (omega arith) (omega arith) in
        let b' = p2_is (suc m) (suc (suc m)) held.p1 held.u1 (new_u1 t w EvenMany held row) d.p1 d.u1 b (omega arith) in
        record { p1 = a; u1 = b; p2 = b'; u2 = u2_is (suc m) m (suc m) held.u1 held.p2 (new_p2 t w EvenMany held row) d.u1 d.p2 b' (omega arith) (omega arith) }

  -- ---- a line

  module _ (held : Held) (row : Line) where
    pub holding_next : (n : ℕ) (k : Taken) → Holding held n k → suc n ≤ h → row c ≡ x n → Holding (held_after t w k held row) (suc n) (next k)
    unfolding held_after low_after
    holding_next n k zero_lines room e = one_line (record { low = e; high = refl; p1 = refl; u1 = refl; p2 = refl })
    holding_next n k (one_line d) room e = two_lines_lem (record { low = d.low; high = e; p1 = d.p1; u1 = d.u1; p2 = d.p2 })
    holding_next n k (two_lines_lem d) room e =
        let r = low_two held row 1 e (omega arith) (omega arith) d in
        three_lines (record { low = e; high = d.high; p1 = r.p1; u1 = r.u1; p2 = d.p2 })
    holding_next n k (three_lines d) room e = four_lines (record { low = d.low; high = e; p1 = d.p1; u1 = d.u1; p2 = d.p2 })
    holding_next n k (four_lines d) room e =
        let r = low_four held row 2 e (omega arith) (omega arith) d in
        odd_many 0 5 refl (record { low = e; high = d.high; p1 = r.p1; u1 = r.u1; p2 = r.p2 })
    holding_next n k (odd_many m n' q d) room e = even_many m (suc n') (omega arith) (record { low = d.low; high = e ∙ ap x (omega arith); p1 = d.p1; u1 = d.u1; p2 = d.p2 })
    holding_next n k (even_many m n' q d) room e =
        let e' : row c ≡ x (2 * suc (suc (suc m))) = e ∙ ap x (omega arith) in
        let r = low_even held row (suc (suc (suc m))) e' m (omega arith) (omega arith) d in
        odd_many (suc m) (suc n') (omega arith) (record { low = e'; high = d.high; p1 = r.p1; u1 = r.u1; p2 = r.p2 })

  -- ---- what comes out

  abbrev pub O : ℕ → ℤ
  O = line_value t (column_pass_at w c) h x

  low_at_lem : (i s r : ℕ) (a : Line) → 2 ≤ h → 2 * i < h → s + r ≡ 2 * i → a c ≡ W2 i → line_g1 t w a c ≡ O (s + r)
  low_at_lem i s r a two room q e = g1_is i a e ∙ sym (ap O q ∙ low_turn t (column_pass_at w c) h x i two room)

  high_at_lem : (i s r : ℕ) (a : Line) → 2 ≤ h → s + r ≡ 2 * i + 1 → a c ≡ V2 i → line_g2 t w a c ≡ O (s + r)
  high_at_lem i s r a two q e = g2_is i a e ∙ sym (ap O q ∙ high_turn t (column_pass_at w c) h x i two)

  -- each of these lines is the one that is due after s lines
  abbrev pub Due : ℕ → List Line → Type 0
  Due s lines = (r : ℕ) → r < length lines → stacked lines r c ≡ O (s + r)

  due_none : (s : ℕ) → Due s []
  due_none s r i = absurd (omega arith)

  due_one : (a : Line) → h ≡ 1 → a c ≡ x 0 → Due 0 (line_single t w a ∷ [])
  unfolding line_single
  due_one a one e zero j = ap (cut (input_bits t 1 (column_pass_at w c)) (fraction_bits t 1 (column_pass_at w c) G1)) e ∙ sym (single_turn t (column_pass_at w c) h x one)
  due_one a one e (suc r) j = absurd (omega arith)

  due_two : (i s : ℕ) (a b : Line) → 2 * i + 2 ≤ h → s ≡ 2 * i → a c ≡ W2 i → b c ≡ V2 i → Due s (line_g1 t w a ∷ line_g2 t w b ∷ [])
  due_two i s a b room q d e zero j = low_at_lem i s 0 a (omega arith) (omega arith) (omega arith) d
  due_two i s a b room q d e (suc zero) j = high_at_lem i s 1 b (omega arith) (omega arith) e
  due_two i s a b room q d e (suc (suc r)) j = absurd (omega arith)

  due_three : (i s : ℕ) (a b a' : Line) → 2 * i + 3 ≤ h → s ≡ 2 * i → a c ≡ W2 i → b c ≡ V2 i → a' c ≡ W2 (suc i) → Due s (line_g1 t w a ∷ line_g2 t w b ∷ line_g1 t w a' ∷ [])
  due_three i s a b a' room q d e d' zero j = low_at_lem i s 0 a (omega arith) (omega arith) (omega arith) d
  due_three i s a b a' room q d e d' (suc zero) j = high_at_lem i s 1 b (omega arith) (omega arith) e
  due_three i s a b a' room q d e d' (suc (suc zero)) j = low_at_lem (suc i) s 2 a' (omega arith) (omega arith) (omega arith) d'
  due_three i s a b a' room q d e d' (suc (suc (suc r))) j = absurd (omega arith)

  due_four : (i s : ℕ) (a b a' b' : Line) → 2 * i + 4 ≤ h → s ≡ 2 * i → a c ≡ W2 i → b c ≡ V2 i → a' c ≡ W2 (suc i) → b' c ≡ V2 (suc i) → Due s (line_g1 t w a ∷ line_g2 t w b ∷ line_g1 t w a' ∷ line_g2 t w b' ∷ [])
  due_four i s a b a' b' room q d e d' e' zero j = low_at_lem i s 0 a (omega arith) (omega arith) (omega arith) d
  due_four i s a b a' b' room q d e d' e' (suc zero) j = high_at_lem i s 1 b (omega arith) (omega arith) e
  due_four i s a b a' b' room q d e d' e' (suc (suc zero)) j = low_at_lem (suc i) s 2 a' (omega arith) (omega arith) (omega arith) d'
  due_four i s a b a' b' room q d e d' e' (suc (suc (suc zero))) j = high_at_lem (suc i) s 3 b' (omega arith) (omega arith) e'
  due_four i s a b a' b' room q d e d' e' (suc (suc (suc (suc r)))) j = absurd (omega arith)

  module _ (held : Held) (row : Line) where
    pub line_due : (n : ℕ) (k : Taken) → Holding held n k → suc n ≤ h → row c ≡ x n → Due (ready n) (line_gives t w k held row)
    unfolding line_gives low_after
    line_due n k zero_lines room e = due_none _
    line_due n k (one_line d) room e = due_none _
    line_due n k (two_lines_lem d) room e = due_none _
    line_due n k (three_lines d) room e = due_none _
    line_due n k (four_lines d) room e =
        let r = low_four held row 2 e (omega arith) (omega arith) d in
        due_two 0 (ready 4) (new_u2 t w Four held row) (new_p2 t w Four held row) (omega arith) refl r.u2 r.p2
    line_due n k (odd_many m n' q d) room e = due_none _
    line_due n k (even_many m n' q d) room e =
        let e' : row c ≡ x (2 * suc (suc (suc m))) = e ∙ ap x (omega arith) in
        let r = low_even held row (suc (suc (suc m))) e' m (omega arith) (omega arith) d in
        due_two (suc m) (ready n') (new_u2 t w EvenMany held row) (new_p2 t w EvenMany held row) (omega arith) (omega arith) r.u2 r.p2

  -- ---- the end

  module _ (held : Held) where
    -- after an even number of lines, the last at i
    last_even : (k : Taken) (i j : ℕ) → h ≡ 2 * i + 2 → j ≡ high_before i → held.p1 c ≡ V1 i → held.u1 c ≡ W1 i
        → (last_p2 t w k held c ≡ V2 i → before (holds_p2 k) held.p2 (last_p2 t w k held) c ≡ V2 j)
        → (last_p2 t w k held c ≡ V2 i) × (last_u2 t w k held c ≡ W2 i)
    unfolding last_p2 last_u2 low_after high_after
    last_even k i j q b d e f =
        let a = p2_is i i held.p1 held.u1 held.u1 d e e (omega arith) in
        (a, u2_is i j i held.u1 (before (holds_p2 k) held.p2 (last_p2 t w k held)) (last_p2 t w k held) e (f a) a b (omega arith))

    -- after an odd number, the last high line at i
    record OddReady (k : Taken) (i : ℕ) : Type 0 where
      u1 : odd_u1 t w k held c ≡ W1 (suc i)
      p2 : odd_p2 t w k held c ≡ V2 i
      u2 : odd_u2 t w k held c ≡ W2 i
      last : line_u2 t w (odd_u1 t w k held) (odd_p2 t w k held) (odd_p2 t w k held) c ≡ W2 (suc i)

    odd_ready : (k : Taken) (i j : ℕ) → h ≡ 2 * i + 3 → j ≡ high_before i → held.low c ≡ x (2 * suc i) → held.p1 c ≡ V1 i → held.u1 c ≡ W1 i
        → (odd_p2 t w k held c ≡ V2 i → before (holds_p2 k) held.p2 (odd_p2 t w k held) c ≡ V2 j)
        → OddReady k i
    unfolding odd_u1 odd_p2 odd_u2 low_after high_before high_after
    odd_ready k i j q b d e f g =
        let a = u1_is (suc i) i i held.low held.p1 held.p1 d e e (omega arith) (omega arith) in
        let p = p2_is i (suc i) held.p1 held.u1 (odd_u1 t w k held) e f a (omega arith) in
        record {
          u1 = a;
          p2 = p;
          u2 = u2_is i j i held.u1 (before (holds_p2 k) held.p2 (odd_p2 t w k held)) (odd_p2 t w k held) f (g p) p b (omega arith);
          last = u2_is (suc i) i i (odd_u1 t w k held) (odd_p2 t w k held) (odd_p2 t w k held) a p p (omega arith) (omega arith);
        }

    last_odd : (k : Taken) (i s : ℕ) → h ≡ 2 * i + 3 → OddReady k i → s ≡ 2 * i → Due s (end_odd t w k held)
    last_odd k i s q r z = due_three i s (odd_u2 t w k held) (odd_p2 t w k held) (line_u2 t w (odd_u1 t w k held) (odd_p2 t w k held) (odd_p2 t w k held)) (omega arith) z r.u2 r.p2 r.last

  pub end_due : (held : Held) (n : ℕ) (k : Taken) → Holding held n k → n ≡ h → Due (ready n) (end_gives t w k held)
  unfolding end_gives line_gives held_after low_after high_before
  end_due held n k zero_lines q = due_none _
  end_due held n k (one_line d) q = due_one held.low (omega arith) d.low
  end_due held n k (two_lines_lem d) q =
      let r = low_two held held.low 0 d.low (omega arith) (omega arith) d in
      let held' = held_after t w Two held held.low in
      let l = last_even held' Three 0 0 (omega arith) refl r.p1 r.u1 (λ e. e) in
      due_two 0 (ready 2) (last_u2 t w Three held') (last_p2 t w Three held') (omega arith) refl l.1 l.0
  end_due held n k (three_lines d) q = last_odd held Three 0 (ready 3) (omega arith) (odd_ready held Three 0 0 (omega arith) refl d.low d.p1 d.u1 (λ e. e)) refl
  end_due held n k (four_lines d) q =
      let r = low_four held held.low 1 d.low (omega arith) (omega arith) d in
      let held' = held_after t w Four held held.low in
      let l = last_even held' OddMany 1 0 (omega arith) refl r.p1 r.u1 (λ e. r.p2) in
      due_four 0 (ready 4) (new_u2 t w Four held held.low) (new_p2 t w Four held held.low) (last_u2 t w OddMany held') (last_p2 t w OddMany held') (omega arith) refl r.u2 r.p2 l.1 l.0
  end_due held n k (odd_many m n' z d) q = last_odd held OddMany (suc m) (ready n') (omega arith) (odd_ready held OddMany (suc m) m (omega arith) (omega arith) d.low d.p1 d.u1 (λ e. d.p2)) (omega arith)
  end_due held n k (even_many m n' z d) q =
      let r = low_even held held.low (suc (suc m)) d.low m (omega arith) (omega arith) d in
      let held' = held_after t w EvenMany held held.low in
      let l = last_even held' OddMany (suc (suc m)) (suc m) (omega arith) (omega arith) r.p1 r.u1 (λ e. r.p2) in
      due_four (suc m) (ready n') (new_u2 t w EvenMany held held.low) (new_p2 t w EvenMany held held.low) (last_u2 t w OddMany held') (last_p2 t w OddMany held') (omega arith) (omega arith) r.u2 r.p2 l.1 l.0

  -- ---- five integer bits

  -- what is held at the column is of five integer bits
  pub record SoundAt (held : Held) : Type 0 where
    pub low : FiveBits (input_bits t 1 (column_pass_at w c)) (held.low c)
    pub high : FiveBits (input_bits t 1 (column_pass_at w c)) (held.high c)
    pub p1 : FiveBits (fraction_bits t 1 (column_pass_at w c) P1) (held.p1 c)
    pub u1 : FiveBits (fraction_bits t 1 (column_pass_at w c) U1) (held.u1 c)
    pub p2 : FiveBits (fraction_bits t 1 (column_pass_at w c) P2) (held.p2 c)

  module _ (given : (k : ℕ) → k < h → FiveBits (input_bits t 1 (column_pass_at w c)) (x k))
      (inside : (i : Node) (k : ℕ) → k < count_at h i → FiveBits (fraction_bits t 1 (column_pass_at w c) i) (value_at (constant_bits t) (product_of t 1 (column_pass_at w c)) (input_bits t 1 (column_pass_at w c)) (fraction_bits t 1 (column_pass_at w c)) h x i k)) where
    sound_of : (held : Held) {l g p u q : ℤ} → Contains c held l g p u q → FiveBits (input_bits t 1 (column_pass_at w c)) l → FiveBits (input_bits t 1 (column_pass_at w c)) g
        → FiveBits (fraction_bits t 1 (column_pass_at w c) P1) p → FiveBits (fraction_bits t 1 (column_pass_at w c) U1) u → FiveBits (fraction_bits t 1 (column_pass_at w c) P2) q → SoundAt held
    sound_of held d l g p u q = record {
      low = subst (FiveBits (input_bits t 1 (column_pass_at w c))) (sym d.low) l;
      high = subst (FiveBits (input_bits t 1 (column_pass_at w c))) (sym d.high) g;
      p1 = subst (FiveBits (fraction_bits t 1 (column_pass_at w c) P1)) (sym d.p1) p;
      u1 = subst (FiveBits (fraction_bits t 1 (column_pass_at w c) U1)) (sym d.u1) u;
      p2 = subst (FiveBits (fraction_bits t 1 (column_pass_at w c) P2)) (sym d.p2) q;
    }

    pub holding_sound : (held : Held) (n : ℕ) (k : Taken) → Holding held n k → 1 ≤ n → n ≤ h → SoundAt held
    holding_sound held n k zero_lines some room = absurd (omega arith)
    holding_sound held n k (one_line d) some room = sound_of held d (given 0 (omega arith)) (zero_five _) (zero_five _) (zero_five _) (zero_five _)
    holding_sound held n k (two_lines_lem d) some room = sound_of held d (given 0 (omega arith)) (given 1 (omega arith)) (zero_five _) (zero_five _) (zero_five _)
    holding_sound held n k (three_lines d) some room = sound_of held d (given 2 (omega arith)) (given 1 (omega arith)) (inside P1 0 (omega arith)) (inside U1 0 (omega arith)) (zero_five _)
    holding_sound held n k (four_lines d) some room = sound_of held d (given 2 (omega arith)) (given 3 (omega arith)) (inside P1 0 (omega arith)) (inside U1 0 (omega arith)) (zero_five _)
    holding_sound held n k (odd_many m n' q d) some room =
        sound_of held d (given (2 * suc (suc m)) (omega arith)) (given (2 * suc m + 1) (omega arith)) (inside P1 (suc m) (omega arith)) (inside U1 (suc m) (omega arith)) (inside P2 m (omega arith))
    holding_sound held n k (even_many m n' q d) some room =
        sound_of held d (given (2 * suc (suc m)) (omega arith)) (given (2 * suc (suc m) + 1) (omega arith)) (inside P1 (suc m) (omega arith)) (inside U1 (suc m) (omega arith)) (inside P2 m (omega arith))

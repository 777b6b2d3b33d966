-- For the code: its changes of lines leave what the schedule says.
use Prim.Native.Nat.{ℕ, zero, suc, ◌+◌, ◌*◌, ◌-◌, ◌^◌, ◌<◌, ◌≤◌}
use Rattle.std.specs.Prelude.{List, [], ◌⊎◌, ◌≡◌, refl, length, drop, ℤ, neg_ℤ, nat_abs, ◌≤ℤ◌, ◌<ℤ◌}
use Rattle.std.proofs.Common.{inl, inr, sym, ◌∙◌, subst, arith, le_trans, length-drop, get_or-drop, ext_get_or, pow-add}
use Rattle.std.proofs.Math.Path.{ap}
use Rattle.std.proofs.Math.Nat.{mul-le-mul_right}
use Rattle.std.proofs.Math.IntN.{pos}
use Rattle.numbers.specs.Dif.{by_dif, difs}
use Rattle.width_table.specs.Nodes.{P1, U1, P2}
use Rattle.width_table.specs.declared.WidthTable.{WidthTable}
use Rattle.width_table.specs.Table.{fraction_bits, input_bits}
use Rattle.slices.specs.Patch.{at, patch_above}
use Rattle.pictures.specs.MemoryLaws.{stands_over}
use Rattle.table_meaning.specs.NodeWidths.{InNodeWidth}
use Rattle.rolling_lines.specs.declared.Taken.TheVariants.{Zero, One, Two, Three, Four, OddMany, EvenMany}
use Rattle.rolling_lines.specs.declared.Taken.{Taken}
use Rattle.rolling_lines.specs.Schedule.{Line, stacked, line_p1, line_u1, line_p2, line_u2, line_g1, line_g2, line_single, new_p1, new_u1, new_p2, new_u2, held_after, line_gives, last_p2, last_u2, odd_u1, odd_p2, odd_u2, end_gives}
use Rattle.rolling_lines.specs.LentLines.{held_lines, out_lines, held_in, FiveBits, Sound, SameHeld, KeptFrom, out_after}
use Rattle.rolling_lines.specs.Growth.{Within}
use Rattle.rolling_lines.specs.Memory.{line_in, set_line, moved, column, put, column_set, line_own, line_other}
use Rattle.rolling_lines.specs.Rows.{LineRight, row_of}
use Rattle.rolling_lines.specs.FiveBits.{line_five}
use Rattle.rolling_lines.specs.Program.{Enters, HeldFits, FirstFits, LaterFits, first_done, second_done, first_kept, later_done, later_kept, two_given, one_ended, two_ended, even_ended, odd_done, odd_ended, set_u1, set_u2, own_within, other_within}
use Rattle.rolling_lines.specs.ColumnLaws.{move, keep_first, do_first, do_second, on, at_u1, at_u2, column_moved, column_U1, column_U2, column_first, column_second, column_kept}
use Rattle.rolling_lines.specs.Worked.{OutWorked, Later, fifth, later, EndWorked}

-- ---- five integer bits

below_abs : (H : ℕ) (v : ℤ) → (neg_ℤ (pos H) ≤ℤ v) × (v <ℤ pos H) → nat_abs v ≤ H
below_abs H = by_dif _ λ a b. simp difs (omega arith)

five_within : (b f : ℕ) (v : ℤ) → 16 ≤ b → FiveBits f v → Within b f v
unfolding FiveBits InNodeWidth
five_within b f v h s =
    le_trans (below_abs (2 ^ (5 + f - 1)) v s)
    (le_trans (subst (λ (k : ℕ). 2 ^ k ≤ 16 * 2 ^ f) (bits f) (subst (λ (n : ℕ). n ≤ 16 * 2 ^ f) (sym (pow-add 2 4 f)) (omega arith))) (mul-le-mul_right (2 ^ f) h))
  where
    bits : (f : ℕ) → 4 + f ≡ 5 + f - 1
    bits f = omega arith

-- sound lines fit
pub sound_fits : (t : WidthTable) (w : ℕ) (held : List ℤ) → Sound t w (held_in w held) → HeldFits t w (at held)
unfolding held_in
sound_fits t w held s = record {
  low = λ c i. five_within 16 _ _ (omega arith) (s.low c i);
  high = λ c i. five_within 16 _ _ (omega arith) (s.high c i);
  p1 = λ c i. five_within 81 _ _ (omega arith) (s.p1 c i);
  u1 = λ c i. five_within 38 _ _ (omega arith) (s.u1 c i);
  p2 = λ c i. five_within 158 _ _ (omega arith) (s.p2 c i);
}

-- and so does a line worked along its row
pub row_enters : (t : WidthTable) (pixels : List ℕ) (w : ℕ) → LineRight t pixels w → Enters t w (row_of t pixels w)
row_enters t pixels w r c i = five_within 16 _ _ (omega arith) (line_five t r.accepted pixels w r.side r.below c i)

-- with a low line in line 5
module _ (t : WidthTable) (w : ℕ) (row : Line) (m : ℕ → ℤ) where
  pub low_fits : HeldFits t w m → HeldFits t w (set_line w 5 row m)
  low_fits fits = record {
    low = other_within 16 (input_bits t 1) w 5 row m 0 (λ q. absurd (omega arith)) fits.low;
    high = other_within 16 (input_bits t 1) w 5 row m 1 (λ q. absurd (omega arith)) fits.high;
    p1 = other_within 81 (λ p. fraction_bits t 1 p P1) w 5 row m 2 (λ q. absurd (omega arith)) fits.p1;
    u1 = other_within 38 (λ p. fraction_bits t 1 p U1) w 5 row m 3 (λ q. absurd (omega arith)) fits.u1;
    p2 = other_within 158 (λ p. fraction_bits t 1 p P2) w 5 row m 4 (λ q. absurd (omega arith)) fits.p2;
  }

  pub low_enters : Enters t w row → Enters t w (line_in w (set_line w 5 row m) 5)
  low_enters h = own_within 16 (input_bits t 1) w 5 row m h

module _ (t : WidthTable) (w : ℕ) (m : ℕ → ℤ) (fits : HeldFits t w m) (row : Enters t w (line_in w m 5)) where
  first_fits : (before : ℕ) → (before ≡ 2) ⊎ (before ≡ 6) → FirstFits t w before m
  first_fits before which = record { low = fits.low; high = fits.high; row = row; p1 = fits.p1; which = which }

  pub two_fits : FirstFits t w 6 m
  two_fits = first_fits 6 (inr refl)

  pub later_fits : (before : ℕ) → (before ≡ 2) ⊎ (before ≡ 4) → LaterFits t w before m
  later_fits before which = record { first = first_fits 2 (inl refl); u1 = fits.u1; p2 = fits.p2; before_is = which }

-- ---- nothing past a place changes

pub kept_from : (n : ℕ) (old new : List ℤ) → length new ≡ length old → ((p : ℕ) → n ≤ p → at new p ≡ at old p) → KeptFrom n old new
kept_from n old new e same = record {
  length_kept = e;
  past_kept = ext_get_or (pos 0) (drop n new) (drop n old) (length-drop n new ∙ ap (λ (k : ℕ). k - n) e ∙ sym (length-drop n old))
      (λ i h. get_or-drop n new i (pos 0) ∙ same (n + i) (omega arith) ∙ sym (get_or-drop n old i (pos 0)));
}

pub kept_then : (n : ℕ) (a b c : List ℤ) → KeptFrom n a b → KeptFrom n b c → KeptFrom n a c
kept_then n a b c f g = record { length_kept = g.length_kept ∙ f.length_kept; past_kept = g.past_kept ∙ f.past_kept }

-- a line does not reach past n lines
above : (w k : ℕ) (l : Line) (m : ℕ → ℤ) (n : ℕ) → k < n → (p : ℕ) → n * w ≤ p → set_line w k l m p ≡ m p
unfolding set_line
above w k l m n h p i = patch_above (k * w) w l m p (omega (arith, mul-le-mul_right {m = suc k} {n = n} w h))

-- ---- lines given stand in the output

-- given lines, each in its place
pub given_over : (w : ℕ) (lines : List Line) (out out' : List ℤ) → 1 ≤ w → length lines * w ≤ length out → length out' ≡ length out
    → ((r c : ℕ) → r < length lines → c < w → column w c (at out') r ≡ stacked lines r c) → ((p : ℕ) → length lines * w ≤ p → at out' p ≡ at out p) → out' ≡ out_after w lines out
given_over w lines out out' some room e stands past = stands_over w (length lines) (stacked lines) out out' some (omega arith) e stands (λ p h. past p (omega arith))

-- where no line is given the output stays
pub quiet : (t : WidthTable) (w : ℕ) (k : Taken) (row : Line) (held out : List ℤ) → 1 ≤ w → line_gives t w k (held_in w held) row ≡ [] → OutWorked t w k row held out out
quiet t w k row held out some e = record {
  past = subst (λ (lines : List Line). KeptFrom (length lines * w) out out) (sym e) (record { length_kept = refl; past_kept = refl });
  works = λ sound. subst (λ (lines : List Line). out ≡ out_after w lines out) (sym e) (given_over w [] out out some (omega arith) refl (λ r c h i. absurd (omega arith)) (λ p h. refl));
}

pub quiet_end : (t : WidthTable) (w : ℕ) (k : Taken) (held held' out : List ℤ) → 1 ≤ w → KeptFrom (held_lines * w) held held' → end_gives t w k (held_in w held) ≡ [] → EndWorked t w k held out held' out
quiet_end t w k held held' out some past e = record {
  held_past = past;
  out_past = subst (λ (lines : List Line). KeptFrom (length lines * w) out out) (sym e) (record { length_kept = refl; past_kept = refl });
  works = λ sound. subst (λ (lines : List Line). out ≡ out_after w lines out) (sym e) (given_over w [] out out some (omega arith) refl (λ r c h i. absurd (omega arith)) (λ p h. refl));
}

-- ---- the column of an output

module _ (t : WidthTable) (w c : ℕ) (inside : c < w) where
  column_two : (place : ℕ) (m out : ℕ → ℤ) → column w c (two_given t w place m out) ≡ put (place + 1) (line_g2 t w (line_in w m 2) c) (put place (line_g1 t w (line_in w m 3) c) (column w c out))
  column_two place m out = column_set w c inside (place + 1) (line_g2 t w (line_in w m 2)) _ ∙ ap (put (place + 1) (line_g2 t w (line_in w m 2) c)) (column_set w c inside place (line_g1 t w (line_in w m 3)) out)

  column_later : (before : ℕ) (m : ℕ → ℤ) → column w c (later_done t w before m) ≡ do_second t w c 0 before (do_first t w c 2 (column w c m))
  column_later before m = column_second t w c inside 0 before (first_done t w 2 m) ∙ ap (do_second t w c 0 before) (column_first t w c inside 2 m)

  column_later_kept : (before : ℕ) (m : ℕ → ℤ) → column w c (later_kept t w before m) ≡ keep_first (move 4 2 (do_second t w c 0 before (do_first t w c 2 (column w c m))))
  column_later_kept before m = column_kept t w c inside (moved w 4 2 (later_done t w before m)) ∙ ap keep_first (column_moved t w c inside 4 2 (later_done t w before m) ∙ ap (move 4 2) (column_later before m))

-- ---- lines

module _ (t : WidthTable) (w : ℕ) (row : Line) (held : List ℤ) where
  -- the memory of a low line
  abbrev pub low_memory : ℕ → ℤ
  low_memory = set_line w 5 row (at held)

  -- the first line
  pub zero_same : (held₀ held' : List ℤ) → ((k : ℕ) → k < 5 * w → at held₀ k ≡ pos 0) → at held' ≡ set_line w 0 row (at held₀) → SameHeld w (held_in w held') (held_after t w Zero (held_in w held) row)
  unfolding held_in held_after
  zero_same held₀ held' none e = record {
    low = λ c i. ap (λ (m : ℕ → ℤ). line_in w m 0 c) e ∙ line_own w c i 0 row (at held₀);
    high = λ c i. zeros 1 c i (omega arith) (λ q. absurd (omega arith));
    p1 = λ c i. zeros 2 c i (omega arith) (λ q. absurd (omega arith));
    u1 = λ c i. zeros 3 c i (omega arith) (λ q. absurd (omega arith));
    p2 = λ c i. zeros 4 c i (omega arith) (λ q. absurd (omega arith));
  }
    where
      zeros : (k c : ℕ) → c < w → k < 5 → ¬ (k ≡ 0) → at held' (k * w + c) ≡ pos 0
      zeros k c i h off = ap (λ (m : ℕ → ℤ). m (k * w + c)) e ∙ line_other w c i k 0 row (at held₀) off ∙ none (k * w + c) (omega (arith, mul-le-mul_right {m = suc k} {n = 5} w h))

  -- a high line
  module _ (held' : List ℤ) (e : at held' ≡ set_line w 1 row (at held)) where
    other_kept : (k c : ℕ) → c < w → ¬ (k ≡ 1) → at held' (k * w + c) ≡ at held (k * w + c)
    other_kept k c i off = ap (λ (m : ℕ → ℤ). m (k * w + c)) e ∙ line_other w c i k 1 row (at held) off

    high_kept : SameHeld w (held_in w held') (record { low = (held_in w held).low; high = row; p1 = (held_in w held).p1; u1 = (held_in w held).u1; p2 = (held_in w held).p2 })
    unfolding held_in
    high_kept = record {
      low = λ c i. other_kept 0 c i (λ q. absurd (omega arith));
      high = λ c i. ap (λ (m : ℕ → ℤ). line_in w m 1 c) e ∙ line_own w c i 1 row (at held);
      p1 = λ c i. other_kept 2 c i (λ q. absurd (omega arith));
      u1 = λ c i. other_kept 3 c i (λ q. absurd (omega arith));
      p2 = λ c i. other_kept 4 c i (λ q. absurd (omega arith));
    }

    pub one_same : SameHeld w (held_in w held') (held_after t w One (held_in w held) row)
    unfolding held_after
    one_same = high_kept

    pub three_same : SameHeld w (held_in w held') (held_after t w Three (held_in w held) row)
    unfolding held_after
    three_same = high_kept

    pub odd_same : SameHeld w (held_in w held') (held_after t w OddMany (held_in w held) row)
    unfolding held_after
    odd_same = high_kept

  -- the low line after two lines
  pub two_same : (held' : List ℤ) → at held' ≡ first_kept w (first_done t w 6 low_memory) → SameHeld w (held_in w held') (held_after t w Two (held_in w held) row)
  unfolding held_in held_after new_p1 new_u1 line_p1 line_u1
  two_same held' e = record {
    low = λ c i. ap (λ (u : ℕ → ℤ). u 0) (now c i);
    high = λ c i. ap (λ (u : ℕ → ℤ). u 1) (now c i);
    p1 = λ c i. ap (λ (u : ℕ → ℤ). u 2) (now c i);
    u1 = λ c i. ap (λ (u : ℕ → ℤ). u 3) (now c i);
    p2 = λ c i. ap (λ (u : ℕ → ℤ). u 4) (now c i);
  }
    where
      now : (c : ℕ) → c < w → column w c (at held') ≡ keep_first (do_first t w c 6 (put 5 (row c) (column w c (at held))))
      now c i = ap (column w c) e ∙ column_kept t w c i (first_done t w 6 low_memory) ∙ ap keep_first (column_first t w c i 6 low_memory ∙ ap (do_first t w c 6) (column_set w c i 5 row (at held)))

  -- the low line after four
  later_now : (before : ℕ) (held' : List ℤ) → at held' ≡ later_kept t w before low_memory → (c : ℕ) → c < w
      → column w c (at held') ≡ keep_first (move 4 2 (do_second t w c 0 before (do_first t w c 2 (put 5 (row c) (column w c (at held))))))
  later_now before held' e c i = ap (column w c) e ∙ column_later_kept t w c i before low_memory ∙ ap (λ (u : ℕ → ℤ). keep_first (move 4 2 (do_second t w c 0 before (do_first t w c 2 u)))) (column_set w c i 5 row (at held))

  many_same : (before : ℕ) (held' : List ℤ) → at held' ≡ later_kept t w before low_memory → SameHeld w (held_in w held') (held_after t w EvenMany (held_in w held) row)
  unfolding held_in held_after new_p1 new_u1 new_p2 line_p1 line_u1 line_p2
  many_same before held' e = record {
    low = λ c i. ap (λ (u : ℕ → ℤ). u 0) (later_now before held' e c i);
    high = λ c i. ap (λ (u : ℕ → ℤ). u 1) (later_now before held' e c i);
    p1 = λ c i. ap (λ (u : ℕ → ℤ). u 2) (later_now before held' e c i);
    u1 = λ c i. ap (λ (u : ℕ → ℤ). u 3) (later_now before held' e c i);
    p2 = λ c i. ap (λ (u : ℕ → ℤ). u 4) (later_now before held' e c i);
  }

  pub later_same : {k : Taken} {before : ℕ} → Later k before → (held' : List ℤ) → at held' ≡ later_kept t w before low_memory → SameHeld w (held_in w held') (held_after t w k (held_in w held) row)
  unfolding held_after new_p1 new_u1 new_p2
  later_same fifth held' e = many_same 2 held' e
  later_same later held' e = many_same 4 held' e

  -- and what goes out then
  module _ (some : 1 ≤ w) (out out' : List ℤ) (room : out_lines * w ≤ length out) (same : length out' ≡ length out) where
    -- the rest of the output stays
    two_past : (m : ℕ → ℤ) → at out' ≡ two_given t w 0 m (at out) → (p : ℕ) → 2 * w ≤ p → at out' p ≡ at out p
    two_past m e p h = ap (λ (u : ℕ → ℤ). u p) e ∙ above w 1 _ _ 2 (omega arith) p h ∙ above w 0 _ _ 2 (omega arith) p h

    later_out : (before : ℕ) → at out' ≡ two_given t w 0 (later_done t w before low_memory) (at out) → (c : ℕ) → c < w
        → column w c (at out') ≡ put 1 (line_g2 t w (line_in w (later_done t w before low_memory) 2) c) (put 0 (line_g1 t w (line_in w (later_done t w before low_memory) 3) c) (column w c (at out)))
    later_out before e c i = ap (column w c) e ∙ column_two t w c i 0 (later_done t w before low_memory) (at out)

    later_lines : (before : ℕ) (c : ℕ) → c < w → column w c (later_done t w before low_memory) ≡ do_second t w c 0 before (do_first t w c 2 (put 5 (row c) (column w c (at held))))
    later_lines before c i = column_later t w c i before low_memory ∙ ap (λ (u : ℕ → ℤ). do_second t w c 0 before (do_first t w c 2 u)) (column_set w c i 5 row (at held))

    four_out : at out' ≡ two_given t w 0 (later_done t w 2 low_memory) (at out) → out' ≡ out_after w (line_gives t w Four (held_in w held) row) out
    unfolding held_in line_gives new_p1 new_u1 new_p2 new_u2 line_p1 line_u1 line_p2 line_u2 line_g1 line_g2
    four_out e = given_over w (line_gives t w Four (held_in w held) row) out out' some (omega arith) same stands (two_past (later_done t w 2 low_memory) e)
      where
        stands : (r c : ℕ) → r < 2 → c < w → column w c (at out') r ≡ stacked (line_gives t w Four (held_in w held) row) r c
        stands zero c h i = ap (λ (u : ℕ → ℤ). u 0) (later_out 2 e c i) ∙ ap (λ (u : ℕ → ℤ). line_g1 t w (λ d. u 3) c) (later_lines 2 c i)
        stands (suc zero) c h i = ap (λ (u : ℕ → ℤ). u 1) (later_out 2 e c i) ∙ ap (λ (u : ℕ → ℤ). line_g2 t w (λ d. u 2) c) (later_lines 2 c i)
        stands (suc (suc r)) c h i = absurd (omega arith)

    many_out : at out' ≡ two_given t w 0 (later_done t w 4 low_memory) (at out) → out' ≡ out_after w (line_gives t w EvenMany (held_in w held) row) out
    unfolding held_in line_gives new_p1 new_u1 new_p2 new_u2 line_p1 line_u1 line_p2 line_u2 line_g1 line_g2
    many_out e = given_over w (line_gives t w EvenMany (held_in w held) row) out out' some (omega arith) same stands (two_past (later_done t w 4 low_memory) e)
      where
        stands : (r c : ℕ) → r < 2 → c < w → column w c (at out') r ≡ stacked (line_gives t w EvenMany (held_in w held) row) r c
        stands zero c h i = ap (λ (u : ℕ → ℤ). u 0) (later_out 4 e c i) ∙ ap (λ (u : ℕ → ℤ). line_g1 t w (λ d. u 3) c) (later_lines 4 c i)
        stands (suc zero) c h i = ap (λ (u : ℕ → ℤ). u 1) (later_out 4 e c i) ∙ ap (λ (u : ℕ → ℤ). line_g2 t w (λ d. u 2) c) (later_lines 4 c i)
        stands (suc (suc r)) c h i = absurd (omega arith)

    pub later_given : {k : Taken} {before : ℕ} → Later k before → at out' ≡ two_given t w 0 (later_done t w before low_memory) (at out) → out' ≡ out_after w (line_gives t w k (held_in w held) row) out
    later_given fifth e = four_out e
    later_given later e = many_out e

    pub later_kept_lem : {k : Taken} {before : ℕ} → Later k before → (m : ℕ → ℤ) → at out' ≡ two_given t w 0 m (at out) → KeptFrom (length (line_gives t w k (held_in w held) row) * w) out out'
    unfolding line_gives
    later_kept_lem fifth m e = kept_from (2 * w) out out' same (two_past m e)
    later_kept_lem later m e = kept_from (2 * w) out out' same (two_past m e)

-- ---- the end

module _ (t : WidthTable) (w : ℕ) (held : List ℤ) (some : 1 ≤ w) (out out' : List ℤ) (room : out_lines * w ≤ length out) (same : length out' ≡ length out) where
  -- after one line
  module _ (m : ℕ → ℤ) (e : at out' ≡ one_ended t w m (at out)) where
    one_end_past : (p : ℕ) → 1 * w ≤ p → at out' p ≡ at out p
    one_end_past p h = ap (λ (u : ℕ → ℤ). u p) e ∙ above w 0 _ _ 1 (omega arith) p h

    pub one_end_kept : KeptFrom (1 * w) out out'
    one_end_kept = kept_from (1 * w) out out' same one_end_past

  pub one_ended_lem : at out' ≡ one_ended t w (at held) (at out) → out' ≡ out_after w (end_gives t w One (held_in w held)) out
  unfolding held_in end_gives
  one_ended_lem e = given_over w (end_gives t w One (held_in w held)) out out' some (omega arith) same stands (one_end_past (at held) e)
    where
      stands : (r c : ℕ) → r < 1 → c < w → column w c (at out') r ≡ stacked (end_gives t w One (held_in w held)) r c
      stands zero c h i = ap (λ (u : ℕ → ℤ). u 0) (ap (column w c) e ∙ column_set w c i 0 (line_single t w (line_in w (at held) 0)) (at out))
      stands (suc r) c h i = absurd (omega arith)

  -- after two lines
  module _ (m : ℕ → ℤ) (e : at out' ≡ two_given t w 0 (second_done t w 3 2 (first_kept w (first_done t w 6 m))) (at out)) where
    two_end_past : (p : ℕ) → 2 * w ≤ p → at out' p ≡ at out p
    two_end_past p h = ap (λ (u : ℕ → ℤ). u p) e ∙ above w 1 _ _ 2 (omega arith) p h ∙ above w 0 _ _ 2 (omega arith) p h

    pub two_end_kept : KeptFrom (2 * w) out out'
    two_end_kept = kept_from (2 * w) out out' same two_end_past

  pub two_ended_lem : at out' ≡ two_ended t w (at held) (at out) → out' ≡ out_after w (end_gives t w Two (held_in w held)) out
  unfolding held_in end_gives line_gives held_after new_p1 new_u1 last_p2 last_u2 line_p1 line_u1 line_p2 line_u2 line_g1 line_g2
  two_ended_lem e = given_over w (end_gives t w Two (held_in w held)) out out' some (omega arith) same stands (two_end_past (moved w 5 0 (at held)) e)
    where
      lines : (c : ℕ) → c < w → column w c (second_done t w 3 2 (first_kept w (first_done t w 6 (moved w 5 0 (at held))))) ≡ do_second t w c 3 2 (keep_first (do_first t w c 6 (move 5 0 (column w c (at held)))))
      lines c i =
          column_second t w c i 3 2 (first_kept w (first_done t w 6 (moved w 5 0 (at held))))
          ∙ ap (do_second t w c 3 2) (column_kept t w c i (first_done t w 6 (moved w 5 0 (at held))) ∙ ap keep_first (column_first t w c i 6 (moved w 5 0 (at held)) ∙ ap (do_first t w c 6) (column_moved t w c i 5 0 (at held))))

      stands : (r c : ℕ) → r < 2 → c < w → column w c (at out') r ≡ stacked (end_gives t w Two (held_in w held)) r c
      stands zero c h i = ap (λ (u : ℕ → ℤ). u 0) (ap (column w c) e ∙ column_two t w c i 0 (second_done t w 3 2 (first_kept w (first_done t w 6 (moved w 5 0 (at held))))) (at out)) ∙ ap (λ (u : ℕ → ℤ). line_g1 t w (λ d. u 3) c) (lines c i)
      stands (suc zero) c h i = ap (λ (u : ℕ → ℤ). u 1) (ap (column w c) e ∙ column_two t w c i 0 (second_done t w 3 2 (first_kept w (first_done t w 6 (moved w 5 0 (at held))))) (at out)) ∙ ap (λ (u : ℕ → ℤ). line_g2 t w (λ d. u 2) c) (lines c i)
      stands (suc (suc r)) c h i = absurd (omega arith)

  -- after an even number from four on
  module _ (before : ℕ) (m : ℕ → ℤ) (e : at out' ≡ even_ended t w before m (at out)) where
    even_end_past : (p : ℕ) → 4 * w ≤ p → at out' p ≡ at out p
    even_end_past p h = ap (λ (u : ℕ → ℤ). u p) e ∙ above w 3 _ _ 4 (omega arith) p h ∙ above w 2 _ _ 4 (omega arith) p h ∙ above w 1 _ _ 4 (omega arith) p h ∙ above w 0 _ _ 4 (omega arith) p h

    pub even_end_kept : KeptFrom (4 * w) out out'
    even_end_kept = kept_from (4 * w) out out' same even_end_past

    even_out : (c : ℕ) → c < w
        → column w c (at out') ≡ put 3 (line_g2 t w (line_in w (second_done t w 3 4 (later_kept t w before (moved w 5 0 m))) 2) c) (put 2 (line_g1 t w (line_in w (second_done t w 3 4 (later_kept t w before (moved w 5 0 m))) 3) c) (put 1 (line_g2 t w (line_in w (later_done t w before (moved w 5 0 m)) 2) c) (put 0 (line_g1 t w (line_in w (later_done t w before (moved w 5 0 m)) 3) c) (column w c (at out)))))
    even_out c i =
        let last = second_done t w 3 4 (later_kept t w before (moved w 5 0 m)) in
        let first = later_done t w before (moved w 5 0 m) in
        ap (column w c) e ∙ column_two t w c i 2 last (two_given t w 0 first (at out))
        ∙ ap (λ (u : ℕ → ℤ). put 3 (line_g2 t w (line_in w last 2) c) (put 2 (line_g1 t w (line_in w last 3) c) u)) (column_two t w c i 0 first (at out))

    even_first : (c : ℕ) → c < w → column w c (later_done t w before (moved w 5 0 m)) ≡ do_second t w c 0 before (do_first t w c 2 (move 5 0 (column w c m)))
    even_first c i = column_later t w c i before (moved w 5 0 m) ∙ ap (λ (u : ℕ → ℤ). do_second t w c 0 before (do_first t w c 2 u)) (column_moved t w c i 5 0 m)

    even_last : (c : ℕ) → c < w → column w c (second_done t w 3 4 (later_kept t w before (moved w 5 0 m))) ≡ do_second t w c 3 4 (keep_first (move 4 2 (do_second t w c 0 before (do_first t w c 2 (move 5 0 (column w c m))))))
    even_last c i =
        column_second t w c i 3 4 (later_kept t w before (moved w 5 0 m))
        ∙ ap (do_second t w c 3 4) (column_later_kept t w c i before (moved w 5 0 m) ∙ ap (λ (u : ℕ → ℤ). keep_first (move 4 2 (do_second t w c 0 before (do_first t w c 2 u)))) (column_moved t w c i 5 0 m))

  pub four_ended : at out' ≡ even_ended t w 2 (at held) (at out) → out' ≡ out_after w (end_gives t w Four (held_in w held)) out
  unfolding held_in end_gives line_gives held_after new_p1 new_u1 new_p2 new_u2 last_p2 last_u2 line_p1 line_u1 line_p2 line_u2 line_g1 line_g2
  four_ended e = given_over w (end_gives t w Four (held_in w held)) out out' some room same stands (even_end_past 2 (at held) e)
    where
      stands : (r c : ℕ) → r < 4 → c < w → column w c (at out') r ≡ stacked (end_gives t w Four (held_in w held)) r c
      stands zero c h i = ap (λ (u : ℕ → ℤ). u 0) (even_out 2 (at held) e c i) ∙ ap (λ (u : ℕ → ℤ). line_g1 t w (λ d. u 3) c) (even_first 2 (at held) e c i)
      stands (suc zero) c h i = ap (λ (u : ℕ → ℤ). u 1) (even_out 2 (at held) e c i) ∙ ap (λ (u : ℕ → ℤ). line_g2 t w (λ d. u 2) c) (even_first 2 (at held) e c i)
      stands (suc (suc zero)) c h i = ap (λ (u : ℕ → ℤ). u 2) (even_out 2 (at held) e c i) ∙ ap (λ (u : ℕ → ℤ). line_g1 t w (λ d. u 3) c) (even_last 2 (at held) e c i)
      stands (suc (suc (suc zero))) c h i = ap (λ (u : ℕ → ℤ). u 3) (even_out 2 (at held) e c i) ∙ ap (λ (u : ℕ → ℤ). line_g2 t w (λ d. u 2) c) (even_last 2 (at held) e c i)
      stands (suc (suc (suc (suc r)))) c h i = absurd (omega arith)

  pub many_ended : at out' ≡ even_ended t w 4 (at held) (at out) → out' ≡ out_after w (end_gives t w EvenMany (held_in w held)) out
  unfolding held_in end_gives line_gives held_after new_p1 new_u1 new_p2 new_u2 last_p2 last_u2 line_p1 line_u1 line_p2 line_u2 line_g1 line_g2
  many_ended e = given_over w (end_gives t w EvenMany (held_in w held)) out out' some room same stands (even_end_past 4 (at held) e)
    where
      stands : (r c : ℕ) → r < 4 → c < w → column w c (at out') r ≡ stacked (end_gives t w EvenMany (held_in w held)) r c
      stands zero c h i = ap (λ (u : ℕ → ℤ). u 0) (even_out 4 (at held) e c i) ∙ ap (λ (u : ℕ → ℤ). line_g1 t w (λ d. u 3) c) (even_first 4 (at held) e c i)
      stands (suc zero) c h i = ap (λ (u : ℕ → ℤ). u 1) (even_out 4 (at held) e c i) ∙ ap (λ (u : ℕ → ℤ). line_g2 t w (λ d. u 2) c) (even_first 4 (at held) e c i)
      stands (suc (suc zero)) c h i = ap (λ (u : ℕ → ℤ). u 2) (even_out 4 (at held) e c i) ∙ ap (λ (u : ℕ → ℤ). line_g1 t w (λ d. u 3) c) (even_last 4 (at held) e c i)
      stands (suc (suc (suc zero))) c h i = ap (λ (u : ℕ → ℤ). u 3) (even_out 4 (at held) e c i) ∙ ap (λ (u : ℕ → ℤ). line_g2 t w (λ d. u 2) c) (even_last 4 (at held) e c i)
      stands (suc (suc (suc (suc r)))) c h i = absurd (omega arith)

  -- after an odd number
  module _ (before : ℕ) (m : ℕ → ℤ) (e : at out' ≡ odd_ended t w before m (at out)) where
    odd_end_past : (p : ℕ) → 3 * w ≤ p → at out' p ≡ at out p
    odd_end_past p h = ap (λ (u : ℕ → ℤ). u p) e ∙ above w 2 _ _ 3 (omega arith) p h ∙ above w 1 _ _ 3 (omega arith) p h ∙ above w 0 _ _ 3 (omega arith) p h

    pub odd_end_kept : KeptFrom (3 * w) out out'
    odd_end_kept = kept_from (3 * w) out out' same odd_end_past

    odd_out : (c : ℕ) → c < w
        → column w c (at out') ≡ put 2 (line_g1 t w (line_in w (set_u2 t w 0 2 2 (odd_done t w before m)) 0) c) (put 1 (line_g2 t w (line_in w (odd_done t w before m) 2) c) (put 0 (line_g1 t w (line_in w (odd_done t w before m) 3) c) (column w c (at out))))
    odd_out c i =
        let last = line_g1 t w (line_in w (set_u2 t w 0 2 2 (odd_done t w before m)) 0) in
        ap (column w c) e ∙ column_set w c i 2 last (two_given t w 0 (odd_done t w before m) (at out)) ∙ ap (put 2 (last c)) (column_two t w c i 0 (odd_done t w before m) (at out))

    odd_lines : (c : ℕ) → c < w → column w c (odd_done t w before m) ≡ do_second t w c 0 before (on t w c (at_u1 t w c) 0 2 2 (column w c m))
    odd_lines c i = column_second t w c i 0 before (set_u1 t w 0 2 2 m) ∙ ap (do_second t w c 0 before) (column_U1 t w c i 0 2 2 m)

    odd_last : (c : ℕ) → c < w → column w c (set_u2 t w 0 2 2 (odd_done t w before m)) ≡ on t w c (at_u2 t w c) 0 2 2 (do_second t w c 0 before (on t w c (at_u1 t w c) 0 2 2 (column w c m)))
    odd_last c i = column_U2 t w c i 0 2 2 (odd_done t w before m) ∙ ap (on t w c (at_u2 t w c) 0 2 2) (odd_lines c i)

  pub three_ended : at out' ≡ odd_ended t w 2 (at held) (at out) → out' ≡ out_after w (end_gives t w Three (held_in w held)) out
  unfolding held_in end_gives odd_u1 odd_p2 odd_u2 line_u1 line_p2 line_u2 line_g1 line_g2
  three_ended e = given_over w (end_gives t w Three (held_in w held)) out out' some (omega arith) same stands (odd_end_past 2 (at held) e)
    where
      stands : (r c : ℕ) → r < 3 → c < w → column w c (at out') r ≡ stacked (end_gives t w Three (held_in w held)) r c
      stands zero c h i = ap (λ (u : ℕ → ℤ). u 0) (odd_out 2 (at held) e c i) ∙ ap (λ (u : ℕ → ℤ). line_g1 t w (λ d. u 3) c) (odd_lines 2 (at held) e c i)
      stands (suc zero) c h i = ap (λ (u : ℕ → ℤ). u 1) (odd_out 2 (at held) e c i) ∙ ap (λ (u : ℕ → ℤ). line_g2 t w (λ d. u 2) c) (odd_lines 2 (at held) e c i)
      stands (suc (suc zero)) c h i = ap (λ (u : ℕ → ℤ). u 2) (odd_out 2 (at held) e c i) ∙ ap (λ (u : ℕ → ℤ). line_g1 t w (λ d. u 0) c) (odd_last 2 (at held) e c i)
      stands (suc (suc (suc r))) c h i = absurd (omega arith)

  pub odd_ended_lem : at out' ≡ odd_ended t w 4 (at held) (at out) → out' ≡ out_after w (end_gives t w OddMany (held_in w held)) out
  unfolding held_in end_gives odd_u1 odd_p2 odd_u2 line_u1 line_p2 line_u2 line_g1 line_g2
  odd_ended_lem e = given_over w (end_gives t w OddMany (held_in w held)) out out' some (omega arith) same stands (odd_end_past 4 (at held) e)
    where
      stands : (r c : ℕ) → r < 3 → c < w → column w c (at out') r ≡ stacked (end_gives t w OddMany (held_in w held)) r c
      stands zero c h i = ap (λ (u : ℕ → ℤ). u 0) (odd_out 4 (at held) e c i) ∙ ap (λ (u : ℕ → ℤ). line_g1 t w (λ d. u 3) c) (odd_lines 4 (at held) e c i)
      stands (suc zero) c h i = ap (λ (u : ℕ → ℤ). u 1) (odd_out 4 (at held) e c i) ∙ ap (λ (u : ℕ → ℤ). line_g2 t w (λ d. u 2) c) (odd_lines 4 (at held) e c i)
      stands (suc (suc zero)) c h i = ap (λ (u : ℕ → ℤ). u 2) (odd_out 4 (at held) e c i) ∙ ap (λ (u : ℕ → ℤ). line_g1 t w (λ d. u 0) c) (odd_last 4 (at held) e c i)
      stands (suc (suc (suc r))) c h i = absurd (omega arith)

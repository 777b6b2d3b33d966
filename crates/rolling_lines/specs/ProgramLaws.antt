-- For the code: where its lines fit, each stage of a low line and of the end may be taken, and what it leaves fits the next.
use Rattle.std.specs.Prelude.{ℕ, ◌<◌, ◌⊎◌, ◌≡◌, refl, ℤ}
use Rattle.std.proofs.Common.{inl, inr, sym, ◌∙◌, ap, subst, arith}
use Rattle.width_table.specs.Nodes.{P1, U1, P2, U2, Pass}
use Rattle.width_table.specs.declared.WidthTable.{WidthTable}
use Rattle.width_table.specs.Table.{fraction_bits, input_bits}
use Rattle.rolling_lines.specs.declared.Columns.{Columns}
use Rattle.rolling_lines.specs.Schedule.{Line}
use Rattle.rolling_lines.specs.LentLines.{held_lines}
use Rattle.rolling_lines.specs.Memory.{line_in, set_line, moved, staged, SafeStage, SafeScaling, Apart, past_set}
use Rattle.rolling_lines.specs.Program.{AsColumns, Enters, FromP1, FromU1, FromP2, FromU2, own_within, other_within, P1-within, U1-within, P2-within, U2-within, P1-line, P1-may, U1-line, U1-may, P2-line, P2-may, U2-line, U2-may, set_p1, set_u1, set_p2, set_u2, FirstFits, SecondFits, GiveFits, LaterFits, HeldFits, LastFits, G1-may, LineWithin, first_done, second_done, first_kept, later_done, later_kept, odd_done, PastSame}

module _ (cs : Columns) (stages : AsColumns cs) (w : ℕ) where
  abbrev t : WidthTable
  t = cs.table

  -- a stage in the form in which it is run
  module _ (own a b : ℕ) (m y : ℕ → ℤ) (is : y ≡ m) (z : ℕ → ℤ) where
    pub P1-done : z ≡ staged cs.low.first.highs cs.high.first.highs w own a b y → z ≡ set_p1 t w own a b m
    P1-done e = e ∙ ap (λ (l : Line). set_line w own l y) (P1-line cs stages w (line_in w y own) (line_in w y a) (line_in w y b)) ∙ ap (set_p1 t w own a b) is

    pub U1-done : z ≡ staged cs.low.first.lows cs.high.first.lows w own a b y → z ≡ set_u1 t w own a b m
    U1-done e = e ∙ ap (λ (l : Line). set_line w own l y) (U1-line cs stages w (line_in w y own) (line_in w y a) (line_in w y b)) ∙ ap (set_u1 t w own a b) is

    pub P2-done : z ≡ staged cs.low.second.highs cs.high.second.highs w own a b y → z ≡ set_p2 t w own a b m
    P2-done e = e ∙ ap (λ (l : Line). set_line w own l y) (P2-line cs stages w (line_in w y own) (line_in w y a) (line_in w y b)) ∙ ap (set_p2 t w own a b) is

    pub U2-done : z ≡ staged cs.low.second.lows cs.high.second.lows w own a b y → z ≡ set_u2 t w own a b m
    U2-done e = e ∙ ap (λ (l : Line). set_line w own l y) (U2-line cs stages w (line_in w y own) (line_in w y a) (line_in w y b)) ∙ ap (set_u2 t w own a b) is

  -- ---- the first stages

  module _ (before : ℕ) (m : ℕ → ℤ) (fits : FirstFits t w before m) where
    -- with the high line in line 6, and with its P1 there
    abbrev m1 : ℕ → ℤ
    m1 = moved w 6 1 m

    abbrev m2 : ℕ → ℤ
    m2 = set_p1 t w 6 0 5 m1

    pub before_apart : Apart 0 before
    before_apart = go fits.which
      where
        go : (before ≡ 2) ⊎ (before ≡ 6) → Apart 0 before
        go (inl e) = record { one = omega arith; other = omega arith; apart = λ q. absurd (omega arith) }
        go (inr e) = record { one = omega arith; other = omega arith; apart = λ q. absurd (omega arith) }

    high_1 : Enters t w (line_in w m1 6)
    high_1 = own_within 16 (input_bits t 1) w 6 (line_in w m 1) m fits.high

    low_1 : Enters t w (line_in w m1 0)
    low_1 = other_within 16 (input_bits t 1) w 6 (line_in w m 1) m 0 (λ e. absurd (omega arith)) fits.low

    row_1 : Enters t w (line_in w m1 5)
    row_1 = other_within 16 (input_bits t 1) w 6 (line_in w m 1) m 5 (λ e. absurd (omega arith)) fits.row

    pub first_P1 : SafeStage cs.low.first.highs cs.high.first.highs w 6 0 5 m1
    first_P1 = P1-may cs stages w _ _ _ high_1 low_1 row_1

    p1_2 : FromP1 t w (line_in w m2 6)
    p1_2 = own_within 81 (λ p. fraction_bits t 1 p P1) w 6 _ m1 (P1-within cs stages w _ _ _ high_1 low_1 row_1)

    low_2 : Enters t w (line_in w m2 0)
    low_2 = other_within 16 (input_bits t 1) w 6 _ m1 0 (λ e. absurd (omega arith)) low_1

    before_2 : FromP1 t w (line_in w m2 before)
    before_2 = go fits.which
      where
        go : (before ≡ 2) ⊎ (before ≡ 6) → FromP1 t w (line_in w m2 before)
        go (inl e) =
            subst (λ (b : ℕ). FromP1 t w (line_in w m2 b)) (sym e)
            (other_within 81 (λ p. fraction_bits t 1 p P1) w 6 _ m1 2 (λ q. absurd (omega arith)) (other_within 81 (λ p. fraction_bits t 1 p P1) w 6 (line_in w m 1) m 2 (λ q. absurd (omega arith)) fits.p1))
        go (inr e) = subst (λ (b : ℕ). FromP1 t w (line_in w m2 b)) (sym e) p1_2

    pub first_U1 : SafeStage cs.low.first.lows cs.high.first.lows w 0 before 6 m2
    first_U1 = U1-may cs stages w _ _ _ low_2 before_2 p1_2

    -- what they leave
    pub first_u1 : FromU1 t w (line_in w (first_done t w before m) 0)
    first_u1 = own_within 38 (λ p. fraction_bits t 1 p U1) w 0 _ m2 (U1-within cs stages w _ _ _ low_2 before_2 p1_2)

    pub first_p1 : FromP1 t w (line_in w (first_done t w before m) 6)
    first_p1 = other_within 81 (λ p. fraction_bits t 1 p P1) w 0 _ m2 6 (λ q. absurd (omega arith)) p1_2

  -- ---- the second stages

  module _ (after before : ℕ) (m : ℕ → ℤ) (fits : SecondFits t w after before m) where
    pub after_apart : Apart 2 after
    after_apart = go fits.after_is
      where
        go : (after ≡ 0) ⊎ (after ≡ 3) → Apart 2 after
        go (inl e) = record { one = omega arith; other = omega arith; apart = λ q. absurd (omega arith) }
        go (inr e) = record { one = omega arith; other = omega arith; apart = λ q. absurd (omega arith) }

    pub before_apart_2 : Apart 3 before
    before_apart_2 = go fits.before_is
      where
        go : (before ≡ 2) ⊎ (before ≡ 4) → Apart 3 before
        go (inl e) = record { one = omega arith; other = omega arith; apart = λ q. absurd (omega arith) }
        go (inr e) = record { one = omega arith; other = omega arith; apart = λ q. absurd (omega arith) }

    -- with P2 in line 2
    abbrev m3 : ℕ → ℤ
    m3 = set_p2 t w 2 3 after m

    pub second_P2 : SafeStage cs.low.second.highs cs.high.second.highs w 2 3 after m
    second_P2 = P2-may cs stages w _ _ _ fits.p1 fits.u1 fits.next

    p2_1 : FromP2 t w (line_in w m3 2)
    p2_1 = own_within 158 (λ p. fraction_bits t 1 p P2) w 2 _ m (P2-within cs stages w _ _ _ fits.p1 fits.u1 fits.next)

    u1_1 : FromU1 t w (line_in w m3 3)
    u1_1 = other_within 38 (λ p. fraction_bits t 1 p U1) w 2 _ m 3 (λ q. absurd (omega arith)) fits.u1

    p2_before : FromP2 t w (line_in w m3 before)
    p2_before = go fits.before_is
      where
        go : (before ≡ 2) ⊎ (before ≡ 4) → FromP2 t w (line_in w m3 before)
        go (inl e) = subst (λ (b : ℕ). FromP2 t w (line_in w m3 b)) (sym e) p2_1
        go (inr e) = subst (λ (b : ℕ). FromP2 t w (line_in w m3 b)) (sym e) (other_within 158 (λ p. fraction_bits t 1 p P2) w 2 _ m 4 (λ q. absurd (omega arith)) fits.p2)

    pub second_U2 : SafeStage cs.low.second.lows cs.high.second.lows w 3 before 2 m3
    second_U2 = U2-may cs stages w _ _ _ u1_1 p2_before p2_1

    -- what they leave
    second_u2 : FromU2 t w (line_in w (second_done t w after before m) 3)
    second_u2 = own_within 197 (λ p. fraction_bits t 1 p U2) w 3 _ m3 (U2-within cs stages w _ _ _ u1_1 p2_before p2_1)

    second_p2 : FromP2 t w (line_in w (second_done t w after before m) 2)
    second_p2 = other_within 158 (λ p. fraction_bits t 1 p P2) w 3 _ m3 2 (λ q. absurd (omega arith)) p2_1

    pub second_give : GiveFits t w (second_done t w after before m)
    second_give = record { u2 = second_u2; p2 = second_p2 }

  -- ---- a low line after four lines or more

  -- a line that the first stages leave alone
  first_other : (b : ℕ) (f : Pass → ℕ) (before j : ℕ) (m : ℕ → ℤ) → ¬ (j ≡ 0) → ¬ (j ≡ 6) → LineWithin b f w (line_in w m j) → LineWithin b f w (line_in w (first_done t w before m) j)
  first_other b f before j m off0 off6 h = other_within b f w 0 _ _ j off0 (other_within b f w 6 _ _ j off6 (other_within b f w 6 _ m j off6 h))

  module _ (before : ℕ) (m : ℕ → ℤ) (fits : LaterFits t w before m) where
    pub later_second : SecondFits t w 0 before (first_done t w 2 m)
    later_second = record {
      p1 = first_other 81 (λ p. fraction_bits t 1 p P1) 2 2 m (λ q. absurd (omega arith)) (λ q. absurd (omega arith)) fits.first.p1;
      u1 = first_other 38 (λ p. fraction_bits t 1 p U1) 2 3 m (λ q. absurd (omega arith)) (λ q. absurd (omega arith)) fits.u1;
      next = first_u1 2 m fits.first;
      p2 = first_other 158 (λ p. fraction_bits t 1 p P2) 2 4 m (λ q. absurd (omega arith)) (λ q. absurd (omega arith)) fits.p2;
      after_is = inl refl;
      before_is = fits.before_is;
    }

    later_give : GiveFits t w (later_done t w before m)
    later_give = second_give 0 before (first_done t w 2 m) later_second

    -- the lines that the end works with then
    p1_left : FromP1 t w (line_in w (later_done t w before m) 6)
    p1_left = other_within 81 (λ p. fraction_bits t 1 p P1) w 3 _ _ 6 (λ q. absurd (omega arith)) (other_within 81 (λ p. fraction_bits t 1 p P1) w 2 _ _ 6 (λ q. absurd (omega arith)) (first_p1 2 m fits.first))

    u1_left : FromU1 t w (line_in w (later_done t w before m) 0)
    u1_left = other_within 38 (λ p. fraction_bits t 1 p U1) w 3 _ _ 0 (λ q. absurd (omega arith)) (other_within 38 (λ p. fraction_bits t 1 p U1) w 2 _ _ 0 (λ q. absurd (omega arith)) (first_u1 2 m fits.first))

  -- lines that are kept: P1 in line 2, U1 in line 3, and line 4
  module _ (b : ℕ) (f : Pass → ℕ) (m : ℕ → ℤ) where
    kept_p1 : LineWithin b f w (line_in w m 6) → LineWithin b f w (line_in w (first_kept w m) 2)
    kept_p1 h = other_within b f w 0 _ _ 2 (λ q. absurd (omega arith)) (other_within b f w 3 _ _ 2 (λ q. absurd (omega arith)) (own_within b f w 2 _ m h))

    kept_u1 : LineWithin b f w (line_in w m 0) → LineWithin b f w (line_in w (first_kept w m) 3)
    kept_u1 h = other_within b f w 0 _ _ 3 (λ q. absurd (omega arith)) (own_within b f w 3 _ _ (other_within b f w 2 _ m 0 (λ q. absurd (omega arith)) h))

    kept_p2 : LineWithin b f w (line_in w m 4) → LineWithin b f w (line_in w (first_kept w m) 4)
    kept_p2 h = other_within b f w 0 _ _ 4 (λ q. absurd (omega arith)) (other_within b f w 3 _ _ 4 (λ q. absurd (omega arith)) (other_within b f w 2 _ m 4 (λ q. absurd (omega arith)) h))

  -- ---- the end

  -- after four lines or more, the last two stages
  pub later_last : (before : ℕ) (m : ℕ → ℤ) → LaterFits t w before m → SecondFits t w 3 4 (later_kept t w before m)
  later_last before m fits =
      let u1 = kept_u1 38 (λ p. fraction_bits t 1 p U1) (moved w 4 2 (later_done t w before m)) (other_within 38 (λ p. fraction_bits t 1 p U1) w 4 _ (later_done t w before m) 0 (λ q. absurd (omega arith)) (u1_left before m fits)) in
      record {
        p1 = kept_p1 81 (λ p. fraction_bits t 1 p P1) (moved w 4 2 (later_done t w before m)) (other_within 81 (λ p. fraction_bits t 1 p P1) w 4 _ (later_done t w before m) 6 (λ q. absurd (omega arith)) (p1_left before m fits));
        u1 = u1;
        next = u1;
        p2 = kept_p2 158 (λ p. fraction_bits t 1 p P2) (moved w 4 2 (later_done t w before m)) (own_within 158 (λ p. fraction_bits t 1 p P2) w 4 _ (later_done t w before m) (later_give before m fits).p2);
        after_is = inr refl;
        before_is = inr refl;
      }

  -- after two lines
  pub first_last : (m : ℕ → ℤ) → FirstFits t w 6 m → FromP2 t w (line_in w m 4) → SecondFits t w 3 2 (first_kept w (first_done t w 6 m))
  first_last m fits p2 =
      let u1 = kept_u1 38 (λ p. fraction_bits t 1 p U1) (first_done t w 6 m) (first_u1 6 m fits) in
      record {
        p1 = kept_p1 81 (λ p. fraction_bits t 1 p P1) (first_done t w 6 m) (first_p1 6 m fits);
        u1 = u1;
        next = u1;
        p2 = kept_p2 158 (λ p. fraction_bits t 1 p P2) (first_done t w 6 m) (first_other 158 (λ p. fraction_bits t 1 p P2) 6 4 m (λ q. absurd (omega arith)) (λ q. absurd (omega arith)) p2);
        after_is = inr refl;
        before_is = inl refl;
      }

  -- the last low line comes once more
  module _ (m : ℕ → ℤ) (fits : HeldFits t w m) where
    held_first : (before : ℕ) → (before ≡ 2) ⊎ (before ≡ 6) → FirstFits t w before (moved w 5 0 m)
    held_first before which = record {
      low = other_within 16 (input_bits t 1) w 5 _ m 0 (λ q. absurd (omega arith)) fits.low;
      high = other_within 16 (input_bits t 1) w 5 _ m 1 (λ q. absurd (omega arith)) fits.high;
      row = own_within 16 (input_bits t 1) w 5 _ m fits.low;
      p1 = other_within 81 (λ p. fraction_bits t 1 p P1) w 5 _ m 2 (λ q. absurd (omega arith)) fits.p1;
      which = which;
    }

    pub two_first : FirstFits t w 6 (moved w 5 0 m)
    two_first = held_first 6 (inr refl)

    pub two_last : SecondFits t w 3 2 (first_kept w (first_done t w 6 (moved w 5 0 m)))
    two_last = first_last (moved w 5 0 m) two_first (other_within 158 (λ p. fraction_bits t 1 p P2) w 5 _ m 4 (λ q. absurd (omega arith)) fits.p2)

    pub even_later : (before : ℕ) → (before ≡ 2) ⊎ (before ≡ 4) → LaterFits t w before (moved w 5 0 m)
    even_later before which = record {
      first = held_first 2 (inl refl);
      u1 = other_within 38 (λ p. fraction_bits t 1 p U1) w 5 _ m 3 (λ q. absurd (omega arith)) fits.u1;
      p2 = other_within 158 (λ p. fraction_bits t 1 p P2) w 5 _ m 4 (λ q. absurd (omega arith)) fits.p2;
      before_is = which;
    }

    -- after an odd number
    pub odd_U1 : SafeStage cs.low.first.lows cs.high.first.lows w 0 2 2 m
    odd_U1 = U1-may cs stages w _ _ _ fits.low fits.p1 fits.p1

    module _ (before : ℕ) (which : (before ≡ 2) ⊎ (before ≡ 4)) where
      pub odd_second : SecondFits t w 0 before (set_u1 t w 0 2 2 m)
      odd_second = record {
        p1 = other_within 81 (λ p. fraction_bits t 1 p P1) w 0 _ m 2 (λ q. absurd (omega arith)) fits.p1;
        u1 = other_within 38 (λ p. fraction_bits t 1 p U1) w 0 _ m 3 (λ q. absurd (omega arith)) fits.u1;
        next = own_within 38 (λ p. fraction_bits t 1 p U1) w 0 _ m (U1-within cs stages w _ _ _ fits.low fits.p1 fits.p1);
        p2 = other_within 158 (λ p. fraction_bits t 1 p P2) w 0 _ m 4 (λ q. absurd (omega arith)) fits.p2;
        after_is = inl refl;
        before_is = which;
      }

      odd_give : GiveFits t w (odd_done t w before m)
      odd_give = second_give 0 before (set_u1 t w 0 2 2 m) odd_second

      u1_last : FromU1 t w (line_in w (odd_done t w before m) 0)
      u1_last = other_within 38 (λ p. fraction_bits t 1 p U1) w 3 _ _ 0 (λ q. absurd (omega arith)) (other_within 38 (λ p. fraction_bits t 1 p U1) w 2 _ (set_u1 t w 0 2 2 m) 0 (λ q. absurd (omega arith)) odd_second.next)

      pub odd_last : LastFits t w (odd_done t w before m)
      odd_last = record { u1 = u1_last; p2 = odd_give.p2 }

  module _ (m : ℕ → ℤ) (fits : LastFits t w m) where
    pub last_U2 : SafeStage cs.low.second.lows cs.high.second.lows w 0 2 2 m
    last_U2 = U2-may cs stages w _ _ _ fits.u1 fits.p2 fits.p2

    pub last_G1 : SafeScaling cs.low.low cs.high.low w (line_in w (set_u2 t w 0 2 2 m) 0)
    last_G1 = G1-may cs stages w _ (own_within 197 (λ p. fraction_bits t 1 p U2) w 0 _ m (U2-within cs stages w _ _ _ fits.u1 fits.p2 fits.p2))

-- ---- nothing past seven lines changes

module _ (w : ℕ) where
  pub past_then : {a b c : ℕ → ℤ} → PastSame w a b → PastSame w b c → PastSame w a c
  past_then f g p i = g p i ∙ f p i

  -- by one line
  pub past_one : (k : ℕ) (l : Line) (m : ℕ → ℤ) → k < held_lines → PastSame w m (set_line w k l m)
  past_one k l m h p i = past_set w k l m h p i

  pub past_kept : (m : ℕ → ℤ) → PastSame w m (first_kept w m)
  past_kept m = past_then (past_then (past_one 2 _ m (omega arith)) (past_one 3 _ _ (omega arith))) (past_one 0 _ _ (omega arith))

  module _ (t : WidthTable) where
    pub past_first : (before : ℕ) (m : ℕ → ℤ) → PastSame w m (first_done t w before m)
    past_first before m = past_then (past_then (past_one 6 _ m (omega arith)) (past_one 6 _ _ (omega arith))) (past_one 0 _ _ (omega arith))

    pub past_second : (after before : ℕ) (m : ℕ → ℤ) → PastSame w m (second_done t w after before m)
    past_second after before m = past_then (past_one 2 _ m (omega arith)) (past_one 3 _ _ (omega arith))

    pub past_later : (before : ℕ) (m : ℕ → ℤ) → PastSame w m (later_kept t w before m)
    past_later before m = past_then (past_then (past_then (past_first 2 m) (past_second 0 before _)) (past_one 4 _ _ (omega arith))) (past_kept _)

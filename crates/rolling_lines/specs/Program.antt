-- For the code: the stages of a low line and of the end as changes of lines in memory, and that each may be taken.
use Rattle.std.specs.Prelude.{ℕ, ◌+◌, ◌*◌, ◌<◌, ◌≤◌, Bool, true, false, cond, ◌⊎◌, ◌≡◌, ltb, ℤ}
use Rattle.std.proofs.Common.{sym, ◌∙◌, subst}
use Rattle.std.proofs.Math.Path.{fun_ext}
use Rattle.exact.specs.Exact.{alpha, beta, gamma, delta, zeta, zeta_inverse}
use Rattle.lines.specs.Lines.{lows}
use Rattle.width_table.specs.Nodes.{Node, P1, U1, P2, U2, G1, G2, Pass, LowColumns, HighColumns, column_pass}
use Rattle.width_table.specs.declared.WidthTable.{WidthTable}
use Rattle.width_table.specs.Table.{constant_bits, fraction_bits, input_bits}
use Rattle.lifting.specs.declared.Step.{Step}
use Rattle.lifting.specs.declared.Factor.{Factor}
use Rattle.lifting.specs.Steps.{SameStep, SameFactor}
use Rattle.stages.specs.Stages.{Product}
use Rattle.precision.specs.Promise.{promise}
use Rattle.table_meaning.specs.Products.{product_of}
use Rattle.fixed_stages.specs.StepLaws.{step_applied, scale_applied, single_applied}
use Rattle.fixed_stages.specs.Kernels.{s_p1, s_u1, s_p2, s_u2, s_g1, s_g2, single_for, AsStages}
use Rattle.fixed_stages.specs.Safe.{Limits}
use Rattle.precision.specs.Verdict.{IsLevel}
use Rattle.fixed_stages.specs.LineLaws.{bits_right}
use Rattle.rolling_lines.specs.declared.Columns.{Columns}
use Rattle.rolling_lines.specs.LentLines.{held_lines}
use Rattle.rolling_lines.specs.Schedule.{Line, column_pass_at, line_p1, line_u1, line_p2, line_u2, line_g1, line_g2, line_single}
use Rattle.rolling_lines.specs.Growth.{Within, P1-grows, U1-grows, P2-grows, U2-grows, P1-safe, U1-safe, P2-safe, U2-safe, G1-safe, G2-safe, cut_safe}
use Rattle.rolling_lines.specs.Memory.{line_in, set_line, moved, on_lines, SafeLines, scaled_line, SafeScaling, line_own, line_other}

-- the stages of both kinds of columns are those of a table of one level
pub record AsColumns (c : Columns) : Type 0 where
  pub is_level : IsLevel c.table 1
  pub low : AsStages c.table 1 LowColumns c.low
  pub high : AsStages c.table 1 HighColumns c.high

-- ---- lines within limits

-- at most b in magnitude, at bits that go by the column's pass
abbrev pub LineWithin : ℕ → (Pass → ℕ) → ℕ → Line → Type 0
LineWithin b f w l = (c : ℕ) → c < w → Within b (f (column_pass_at w c)) (l c)

module _ (t : WidthTable) (w : ℕ) where
  -- lines that enter the columns, and lines that a stage left
  abbrev pub Enters : Line → Type 0
  Enters = LineWithin 16 (input_bits t 1) w

  abbrev pub FromP1 : Line → Type 0
  FromP1 = LineWithin 81 (λ p. fraction_bits t 1 p P1) w

  abbrev pub FromU1 : Line → Type 0
  FromU1 = LineWithin 38 (λ p. fraction_bits t 1 p U1) w

  abbrev pub FromP2 : Line → Type 0
  FromP2 = LineWithin 158 (λ p. fraction_bits t 1 p P2) w

  abbrev pub FromU2 : Line → Type 0
  FromU2 = LineWithin 197 (λ p. fraction_bits t 1 p U2) w

-- of lines in memory: the one that is replaced, and another
module _ (b : ℕ) (f : Pass → ℕ) (w k : ℕ) (l : Line) (m : ℕ → ℤ) where
  pub own_within : LineWithin b f w l → LineWithin b f w (line_in w (set_line w k l m) k)
  own_within h c i = subst (Within b (f (column_pass_at w c))) (sym (line_own w c i k l m)) (h c i)

  pub other_within : (j : ℕ) → ¬ (j ≡ k) → LineWithin b f w (line_in w m j) → LineWithin b f w (line_in w (set_line w k l m) j)
  other_within j off h c i = subst (Within b (f (column_pass_at w c))) (sym (line_other w c i j k l m off)) (h c i)

-- ---- the stages

-- the form of either kind of columns does what the stage of the column's pass does
same_at : (stage : Pass → Step) (low high : Step) → SameStep (stage LowColumns) low → SameStep (stage HighColumns) high → (q : Bool) → SameStep (stage (column_pass q)) (cond q low high)
same_at stage low high a b true = a
same_at stage low high a b false = b

same_factor_at : (stage : Pass → Factor) (low high : Factor) → SameFactor (stage LowColumns) low → SameFactor (stage HighColumns) high → (q : Bool) → SameFactor (stage (column_pass q)) (cond q low high)
same_factor_at stage low high a b true = a
same_factor_at stage low high a b false = b

module _ (cs : Columns) (stages : AsColumns cs) (w : ℕ) where
  abbrev t : WidthTable
  t = cs.table

  abbrev F : Node → ℕ
  F = constant_bits t

  limits : (p : Pass) → Limits F (input_bits t 1 p) (fraction_bits t 1 p)
  limits p = bits_right t (promise t stages.is_level.accepted) 1 stages.is_level.least stages.is_level.most p

  -- a stage in a pass of the table's one level
  abbrev stage : ((Node → ℕ) → (Node → Product) → ℕ → (Node → ℕ) → Step) → Pass → Step
  stage form p = form F (product_of t 1 p) (input_bits t 1 p) (fraction_bits t 1 p)

  -- in each column the form of a stage does what the stage of the column's pass does
  abbrev Same : (Pass → Step) → Step → Step → Type 0
  Same of low high = (c : ℕ) → SameStep (of (column_pass_at w c)) (cond (ltb c (lows w)) low high)

  same_p1 : Same (stage s_p1) cs.low.first.highs cs.high.first.highs
  same_p1 c = same_at (stage s_p1) _ _ stages.low.first.on_highs_lem stages.high.first.on_highs_lem (ltb c (lows w))

  same_u1 : Same (stage s_u1) cs.low.first.lows cs.high.first.lows
  same_u1 c = same_at (stage s_u1) _ _ stages.low.first.on_lows_lem stages.high.first.on_lows_lem (ltb c (lows w))

  same_p2 : Same (stage s_p2) cs.low.second.highs cs.high.second.highs
  same_p2 c = same_at (stage s_p2) _ _ stages.low.second.on_highs_lem stages.high.second.on_highs_lem (ltb c (lows w))

  same_u2 : Same (stage s_u2) cs.low.second.lows cs.high.second.lows
  same_u2 c = same_at (stage s_u2) _ _ stages.low.second.on_lows_lem stages.high.second.on_lows_lem (ltb c (lows w))

  module _ (own a b : Line) where
    pub P1-within : Enters t w own → Enters t w a → Enters t w b → FromP1 t w (line_p1 t w own a b)
    unfolding line_p1
    P1-within ho ha hb c i = P1-grows F (product_of t 1 (column_pass_at w c)) _ _ (limits (column_pass_at w c)) (own c) (a c) (b c) (ho c i) (ha c i) (hb c i)

    pub U1-within : Enters t w own → FromP1 t w a → FromP1 t w b → FromU1 t w (line_u1 t w own a b)
    unfolding line_u1
    U1-within ho ha hb c i = U1-grows F (product_of t 1 (column_pass_at w c)) _ _ (limits (column_pass_at w c)) (own c) (a c) (b c) (ho c i) (ha c i) (hb c i)

    pub P2-within : FromP1 t w own → FromU1 t w a → FromU1 t w b → FromP2 t w (line_p2 t w own a b)
    unfolding line_p2
    P2-within ho ha hb c i = P2-grows F (product_of t 1 (column_pass_at w c)) _ _ (limits (column_pass_at w c)) (own c) (a c) (b c) (ho c i) (ha c i) (hb c i)

    pub U2-within : FromU1 t w own → FromP2 t w a → FromP2 t w b → FromU2 t w (line_u2 t w own a b)
    unfolding line_u2
    U2-within ho ha hb c i = U2-grows F (product_of t 1 (column_pass_at w c)) _ _ (limits (column_pass_at w c)) (own c) (a c) (b c) (ho c i) (ha c i) (hb c i)

    -- what the forms make of lines, and that they may be taken
    pub P1-line : on_lines cs.low.first.highs cs.high.first.highs w own a b ≡ line_p1 t w own a b
    unfolding line_p1
    P1-line = fun_ext λ c. (same_p1 c).same (own c) (a c) (b c) ∙ step_applied _ alpha (F P1) _ _ _ (own c) (a c) (b c)

    pub P1-may : Enters t w own → Enters t w a → Enters t w b → SafeLines cs.low.first.highs cs.high.first.highs w own a b
    P1-may ho ha hb c i = (same_p1 c).safe (own c) (a c) (b c) (P1-safe F (product_of t 1 (column_pass_at w c)) _ _ (limits (column_pass_at w c)) (own c) (a c) (b c) (ho c i) (ha c i) (hb c i))

    pub U1-line : on_lines cs.low.first.lows cs.high.first.lows w own a b ≡ line_u1 t w own a b
    unfolding line_u1
    U1-line = fun_ext λ c. (same_u1 c).same (own c) (a c) (b c) ∙ step_applied _ beta (F U1) _ _ _ (own c) (a c) (b c)

    pub U1-may : Enters t w own → FromP1 t w a → FromP1 t w b → SafeLines cs.low.first.lows cs.high.first.lows w own a b
    U1-may ho ha hb c i = (same_u1 c).safe (own c) (a c) (b c) (U1-safe F (product_of t 1 (column_pass_at w c)) _ _ (limits (column_pass_at w c)) (own c) (a c) (b c) (ho c i) (ha c i) (hb c i))

    pub P2-line : on_lines cs.low.second.highs cs.high.second.highs w own a b ≡ line_p2 t w own a b
    unfolding line_p2
    P2-line = fun_ext λ c. (same_p2 c).same (own c) (a c) (b c) ∙ step_applied _ gamma (F P2) _ _ _ (own c) (a c) (b c)

    pub P2-may : FromP1 t w own → FromU1 t w a → FromU1 t w b → SafeLines cs.low.second.highs cs.high.second.highs w own a b
    P2-may ho ha hb c i = (same_p2 c).safe (own c) (a c) (b c) (P2-safe F (product_of t 1 (column_pass_at w c)) _ _ (limits (column_pass_at w c)) (own c) (a c) (b c) (ho c i) (ha c i) (hb c i))

    pub U2-line : on_lines cs.low.second.lows cs.high.second.lows w own a b ≡ line_u2 t w own a b
    unfolding line_u2
    U2-line = fun_ext λ c. (same_u2 c).same (own c) (a c) (b c) ∙ step_applied _ delta (F U2) _ _ _ (own c) (a c) (b c)

    pub U2-may : FromU1 t w own → FromP2 t w a → FromP2 t w b → SafeLines cs.low.second.lows cs.high.second.lows w own a b
    U2-may ho ha hb c i = (same_u2 c).safe (own c) (a c) (b c) (U2-safe F (product_of t 1 (column_pass_at w c)) _ _ (limits (column_pass_at w c)) (own c) (a c) (b c) (ho c i) (ha c i) (hb c i))

  module _ (x : Line) where
    pub G1-line : scaled_line cs.low.low cs.high.low w x ≡ line_g1 t w x
    unfolding line_g1
    G1-line = fun_ext λ c.
        (same_factor_at (λ p. s_g1 F (product_of t 1 p) (input_bits t 1 p) (fraction_bits t 1 p)) _ _ stages.low.low stages.high.low (ltb c (lows w))).same (x c) ∙ scale_applied zeta (F G1) _ _ (x c)

    pub G1-may : FromU2 t w x → SafeScaling cs.low.low cs.high.low w x
    G1-may h c i =
        (same_factor_at (λ p. s_g1 F (product_of t 1 p) (input_bits t 1 p) (fraction_bits t 1 p)) _ _ stages.low.low stages.high.low (ltb c (lows w))).safe (x c) (G1-safe F (product_of t 1 (column_pass_at w c)) _ _ (limits (column_pass_at w c)) (x c) (h c i))

    pub G2-line : scaled_line cs.low.high cs.high.high w x ≡ line_g2 t w x
    unfolding line_g2
    G2-line = fun_ext λ c.
        (same_factor_at (λ p. s_g2 F (product_of t 1 p) (input_bits t 1 p) (fraction_bits t 1 p)) _ _ stages.low.high stages.high.high (ltb c (lows w))).same (x c) ∙ scale_applied zeta_inverse (F G2) _ _ (x c)

    pub G2-may : FromP2 t w x → SafeScaling cs.low.high cs.high.high w x
    G2-may h c i =
        (same_factor_at (λ p. s_g2 F (product_of t 1 p) (input_bits t 1 p) (fraction_bits t 1 p)) _ _ stages.low.high stages.high.high (ltb c (lows w))).safe (x c) (G2-safe F (product_of t 1 (column_pass_at w c)) _ _ (limits (column_pass_at w c)) (x c) (h c i))

-- the cut of a single line (document 02, job 6), in the forms that are run in either kind of columns
module _ (t : WidthTable) (w : ℕ) (low high : Factor) (as-low : SameFactor (single_for t 1 LowColumns) low) (as_high : SameFactor (single_for t 1 HighColumns) high) (x : Line) where
  pub single_line_lem : scaled_line low high w x ≡ line_single t w x
  unfolding line_single
  single_line_lem = fun_ext λ c. (same_factor_at (single_for t 1) low high as-low as_high (ltb c (lows w))).same (x c) ∙ single_applied _ _ (x c)

  pub single_may : IsLevel t 1 → Enters t w x → SafeScaling low high w x
  single_may level h c i =
      (same_factor_at (single_for t 1) low high as-low as_high (ltb c (lows w))).safe (x c)
      (cut_safe (constant_bits t) _ (fraction_bits t 1 (column_pass_at w c)) (bits_right t (promise t level.accepted) 1 level.least level.most (column_pass_at w c)) (x c) (h c i))

-- ---- lines in memory

-- P1, U1 and the low line go to their places
abbrev pub first_kept : ℕ → (ℕ → ℤ) → ℕ → ℤ
first_kept w m = moved w 0 5 (moved w 3 0 (moved w 2 6 m))

module _ (t : WidthTable) (w : ℕ) where
  -- line `own` becomes what a stage makes of it, with lines a and b beside it
  abbrev pub set_p1 : ℕ → ℕ → ℕ → (ℕ → ℤ) → ℕ → ℤ
  set_p1 own a b m = set_line w own (line_p1 t w (line_in w m own) (line_in w m a) (line_in w m b)) m

  abbrev pub set_u1 : ℕ → ℕ → ℕ → (ℕ → ℤ) → ℕ → ℤ
  set_u1 own a b m = set_line w own (line_u1 t w (line_in w m own) (line_in w m a) (line_in w m b)) m

  abbrev pub set_p2 : ℕ → ℕ → ℕ → (ℕ → ℤ) → ℕ → ℤ
  set_p2 own a b m = set_line w own (line_p2 t w (line_in w m own) (line_in w m a) (line_in w m b)) m

  abbrev pub set_u2 : ℕ → ℕ → ℕ → (ℕ → ℤ) → ℕ → ℤ
  set_u2 own a b m = set_line w own (line_u2 t w (line_in w m own) (line_in w m a) (line_in w m b)) m

  -- P1 of the high line, in line 6, with the low line in line 5 after it; U1 of the low line before it, whose P1 before is in line `before`
  abbrev pub first_done : ℕ → (ℕ → ℤ) → ℕ → ℤ
  first_done before m = set_u1 0 before 6 (set_p1 6 0 5 (moved w 6 1 m))

  -- P2 in line 2, whose U1 after is in line `after`; U2 in line 3, whose P2 before is in line `before`
  abbrev pub second_done : ℕ → ℕ → (ℕ → ℤ) → ℕ → ℤ
  second_done after before m = set_u2 3 before 2 (set_p2 2 3 after m)

  -- lines 3 and 2, scaled, become lines `place` and `place` + 1 of the output
  abbrev pub two_given : ℕ → (ℕ → ℤ) → (ℕ → ℤ) → ℕ → ℤ
  two_given place m out = set_line w (place + 1) (line_g2 t w (line_in w m 2)) (set_line w place (line_g1 t w (line_in w m 3)) out)

  -- what the first stages, the second ones and the scalings take
  pub record FirstFits (before : ℕ) (m : ℕ → ℤ) : Type 0 where
    pub low : Enters t w (line_in w m 0)
    pub high : Enters t w (line_in w m 1)
    pub row : Enters t w (line_in w m 5)
    pub p1 : FromP1 t w (line_in w m 2)
    pub which : (before ≡ 2) ⊎ (before ≡ 6)

  pub record SecondFits (after before : ℕ) (m : ℕ → ℤ) : Type 0 where
    pub p1 : FromP1 t w (line_in w m 2)
    pub u1 : FromU1 t w (line_in w m 3)
    pub next : FromU1 t w (line_in w m after)
    pub p2 : FromP2 t w (line_in w m 4)
    pub after_is : (after ≡ 0) ⊎ (after ≡ 3)
    pub before_is : (before ≡ 2) ⊎ (before ≡ 4)

  pub record GiveFits (m : ℕ → ℤ) : Type 0 where
    pub u2 : FromU2 t w (line_in w m 3)
    pub p2 : FromP2 t w (line_in w m 2)

  -- a low line after four lines or more: all stages, and what is kept then
  abbrev pub later_done : ℕ → (ℕ → ℤ) → ℕ → ℤ
  later_done before m = second_done 0 before (first_done 2 m)

  abbrev pub later_kept : ℕ → (ℕ → ℤ) → ℕ → ℤ
  later_kept before m = first_kept w (moved w 4 2 (later_done before m))

  pub record LaterFits (before : ℕ) (m : ℕ → ℤ) : Type 0 where
    pub first : FirstFits 2 m
    pub u1 : FromU1 t w (line_in w m 3)
    pub p2 : FromP2 t w (line_in w m 4)
    pub before_is : (before ≡ 2) ⊎ (before ≡ 4)

  -- ---- the end

  -- lines that are held, each within the limit of what it is
  pub record HeldFits (m : ℕ → ℤ) : Type 0 where
    pub low : Enters t w (line_in w m 0)
    pub high : Enters t w (line_in w m 1)
    pub p1 : FromP1 t w (line_in w m 2)
    pub u1 : FromU1 t w (line_in w m 3)
    pub p2 : FromP2 t w (line_in w m 4)

  -- what goes out after one line: that line, cut
  abbrev pub one_ended : (ℕ → ℤ) → (ℕ → ℤ) → ℕ → ℤ
  one_ended m out = set_line w 0 (line_single t w (line_in w m 0)) out

  -- after two lines: the last low line comes once more
  abbrev pub two_ended : (ℕ → ℤ) → (ℕ → ℤ) → ℕ → ℤ
  two_ended m out = two_given 0 (second_done 3 2 (first_kept w (first_done 6 (moved w 5 0 m)))) out

  -- after an even number from four on
  abbrev pub even_ended : ℕ → (ℕ → ℤ) → (ℕ → ℤ) → ℕ → ℤ
  even_ended before m out = two_given 2 (second_done 3 4 (later_kept before (moved w 5 0 m))) (two_given 0 (later_done before (moved w 5 0 m)) out)

  -- after an odd number
  abbrev pub odd_done : ℕ → (ℕ → ℤ) → ℕ → ℤ
  odd_done before m = second_done 0 before (set_u1 0 2 2 m)

  -- U2 of the last low line
  abbrev pub last_given : (ℕ → ℤ) → (ℕ → ℤ) → ℕ → ℤ
  last_given m out = set_line w 2 (line_g1 t w (line_in w (set_u2 0 2 2 m) 0)) out

  pub record LastFits (m : ℕ → ℤ) : Type 0 where
    pub u1 : FromU1 t w (line_in w m 0)
    pub p2 : FromP2 t w (line_in w m 2)

  abbrev pub odd_ended : ℕ → (ℕ → ℤ) → (ℕ → ℤ) → ℕ → ℤ
  odd_ended before m out = last_given (odd_done before m) (two_given 0 (odd_done before m) out)

-- nothing past seven lines changes
abbrev pub PastSame : ℕ → (ℕ → ℤ) → (ℕ → ℤ) → Type 0
PastSame w m m' = (p : ℕ) → held_lines * w ≤ p → m' p ≡ m p

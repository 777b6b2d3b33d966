-- A strip of columns inverted step by step side by side: what the steps ask of memory, and what they leave there.
use Rattle.std.specs.Prelude.{◌≡◌, refl, Bool, true, List, [], ℕ, ◌+◌, ◌-◌, ◌^◌, ◌<◌, ◌≤◌, min, ℤ, pos, nat_abs, length, get_or, set}
use Rattle.std.proofs.Common.{sym, ap, subst, ◌∙◌, arith, get_or-set_same, get_or-set_other}
use Rattle.std.proofs.Math.Decide.{dec_lt}
use Rattle.lines.specs.Lines.{lows, highs, Liftable}
use Rattle.slices.specs.Patch.{at}
use Rattle.slices.specs.Runs.{as_type}
use Rattle.inverse_lifting.specs.declared.Pipeline.{Pipeline}
use Rattle.inverse_lifting.specs.declared.ColumnsOf.{ColumnsOf}
use Rattle.inverse_lifting.specs.Fixed.{node_bits, at_g1, at_g2, limit}
use Rattle.inverse_lifting.specs.Planes.{Safe}
use Rattle.inverse_lifting.specs.Stages.{scaled_by, cut_bits, at_inverse, at_zeta, scaled_inverse, scaled_zeta}
use Rattle.inverse_lifting.specs.Steps.{Line, PipelineHolds, Stepped, SamePipeline, stepped_as, Ready}

-- ---- what is held of a column: g2, u2, p2 and u1

abbrev pub pipeline_in : List ℤ → Pipeline
pipeline_in x = record { g2 = at x 0; u2 = at x 1; p2 = at x 2; u1 = at x 3; even = pos 0; odd = pos 0 }

-- with the two values that a step gave
abbrev pub pipeline_out : List ℤ → ℤ → ℤ → Pipeline
pipeline_out x even odd = record { g2 = at x 0; u2 = at x 1; p2 = at x 2; u1 = at x 3; even = even; odd = odd }

-- of column j
abbrev pub held_of : List (List ℤ) → ℕ → List ℤ
held_of held j = get_or held j []

-- ---- one column in one step

-- a column of a strip
abbrev pub column_line : ColumnsOf → (ℕ → ℤ) → Line
column_line b y = record { fl = b.lowbits; fh = b.highbits; n = b.lines; y = y }

-- column y is ready for step i: t is held, low and high are its next coefficients
pub record ColumnReady (b : ColumnsOf) (i : ℕ) (t : Pipeline) (low high : ℤ) (y : ℕ → ℤ) : Type 0 where
  pub safe : Safe b.lowbits b.highbits b.lines y
  pub held : 1 ≤ i → PipelineHolds (column_line b y) (i - 1) t
  pub low_is : low ≡ y (min i (lows b.lines - 1))
  pub high_is : high ≡ y (lows b.lines + min i (highs b.lines - 1))

-- the sizes that a step asks for
pub record StepSized (b : ColumnsOf) (i : ℕ) (inner : Bool) : Type 0 where
  pub two : Liftable b.lines
  pub few : b.lines < 2 ^ 31
  pub lowbits : b.lowbits ≤ node_bits
  pub highbits : b.highbits ≤ node_bits
  pub within : i < lows b.lines + 2
  pub middle : inner ≡ true → (2 ≤ i) × (i < highs b.lines)

pub record ColumnStep (held : List ℤ) (low high : ℤ) (b : ColumnsOf) (i : ℕ) (inner : Bool) : Type 0 where
  pub sized : StepSized b i inner
  pub y : ℕ → ℤ
  pub ready : ColumnReady b i (pipeline_in held) low high y

-- a step of a column leaves r
abbrev pub ColumnStepped : List ℤ → ℤ → ℤ → ColumnsOf → ℕ → Pipeline → Type 0
ColumnStepped held low high b i r =
    Stepped i (lows b.lines) (highs b.lines) (pipeline_in held) (scaled_by at_inverse (cut_bits b.lowbits) low) (scaled_by at_zeta (cut_bits b.highbits) high) r

-- ---- all columns of a strip in one step

pub record StripStep (high low : List ℤ) (held : List (List ℤ)) (even odd : ℕ) (b : ColumnsOf) (i : ℕ) (inner : Bool) : Type 0 where
  pub sized : StepSized b i inner
  pub some_high : b.columns ≤ length high
  pub some_low : b.columns ≤ length low
  pub room : b.columns ≤ length held
  pub some_even : b.columns ≤ even
  pub some_odd : b.columns ≤ odd
  pub y : ℕ → ℕ → ℤ
  pub ready : (j : ℕ) → j < b.columns → ColumnReady b i (pipeline_in (held_of held j)) (at low j) (at high j) (y j)

-- a step of column j: its two values stand in even and odd
abbrev pub SteppedAt : List ℤ → List ℤ → List (List ℤ) → List (List ℤ) → (ℕ → ℤ) → (ℕ → ℤ) → ColumnsOf → ℕ → ℕ → Type 0
SteppedAt high low held held' even odd b i j = ColumnStepped (held_of held j) (at low j) (at high j) b i (pipeline_out (held_of held' j) (even j) (odd j))

pub record StripStepped (high low : List ℤ) (held held' : List (List ℤ)) (even even' odd odd' : List ℤ) (b : ColumnsOf) (i : ℕ) : Type 0 where
  pub stepped : (j : ℕ) → j < b.columns → SteppedAt high low held held' (at even') (at odd') b i j
  pub evens : (p : ℕ) → b.columns ≤ p → at even' p ≡ at even p
  pub odds : (p : ℕ) → b.columns ≤ p → at odd' p ≡ at odd p

-- ---- proved of them

-- a column that is ready can take its step
module _ {b : ColumnsOf} {i : ℕ} {t : Pipeline} {low high : ℤ} {y : ℕ → ℤ} (q : ColumnReady b i t low high y) (two : Liftable b.lines) where
  pub low_size : nat_abs low ≤ limit
  low_size = subst (λ (z : ℤ). nat_abs z ≤ limit) (sym q.low_is) (q.safe.enters _ (omega (arith, two)))

  pub high_size : nat_abs high ≤ limit
  high_size = subst (λ (z : ℤ). nat_abs z ≤ limit) (sym q.high_is) (q.safe.enters _ (omega (arith, two)))

  pub column_line_lem : i < lows b.lines + 2 → Ready (column_line b y) i (lows b.lines) (highs b.lines) t (scaled_by at_inverse (cut_bits b.lowbits) low) (scaled_by at_zeta (cut_bits b.highbits) high)
  unfolding at_g1 at_g2
  column_line_lem within = record {
    invertible = record { two = two; small = q.safe.small.long two };
    lows_are = refl;
    highs_are = refl;
    within = within;
    held = q.held;
    low_is = λ u. scaled_inverse b.lowbits u (q.low_is u);
    high_is = λ u. scaled_zeta b.highbits u (q.high_is u);
  }

-- ---- column by column: the first c columns have taken their step

pub record StepsDone (high low : List ℤ) (held held' : List (List ℤ)) (even even' odd odd' : List ℤ) (b : ColumnsOf) (i c : ℕ) : Type 0 where
  pub stepped : (j : ℕ) → j < c → SteppedAt high low held held' (at even') (at odd') b i j
  pub ahead : (p : ℕ) → c ≤ p → held_of held' p ≡ held_of held p
  pub evens : (p : ℕ) → c ≤ p → at even' p ≡ at even p
  pub odds : (p : ℕ) → c ≤ p → at odd' p ≡ at odd p

pub none_done : (high low : List ℤ) (held : List (List ℤ)) (even odd : List ℤ) (b : ColumnsOf) (i : ℕ) → StepsDone high low held held even even odd odd b i 0
none_done high low held even odd b i = record { stepped = λ j h. absurd (omega arith); ahead = λ p h. refl; evens = λ p h. refl; odds = λ p h. refl }

module _ {high low : List ℤ} {held held' : List (List ℤ)} {even even' odd odd' : List ℤ} {b : ColumnsOf} {i c : ℕ} (done : StepsDone high low held held' even even' odd odd' b i c) where
  -- the next column is as it was
  pub ready_now : {y : ℕ → ℤ} → ColumnReady b i (pipeline_in (held_of held c)) (at low c) (at high c) y → ColumnReady b i (pipeline_in (held_of held' c)) (at low c) (at high c) y
  ready_now {y} q = subst (λ (x : List ℤ). ColumnReady b i (pipeline_in x) (at low c) (at high c) y) (sym (done.ahead c (omega arith))) q

  -- it takes its step
  module _ (room : c < length held') (some_even : c < length even') (some_odd : c < length odd') {t : Pipeline} (d : ColumnStepped (held_of held' c) (at low c) (at high c) b i t) (v : List ℤ) (e o : ℤ) where
    pub steps_more : SamePipeline i (highs b.lines) (pipeline_out v e o) t → StepsDone high low held (set held' c v) even (set even' c e) odd (set odd' c o) b i (c + 1)
    steps_more same = record {
      stepped = λ j h. go j h (dec_lt j c);
      ahead = λ p h. get_or-set_other held' c p v [] (omega arith) ∙ done.ahead p (omega arith);
      evens = λ p h. get_or-set_other even' c p e (pos 0) (omega arith) ∙ done.evens p (omega arith);
      odds = λ p h. get_or-set_other odd' c p o (pos 0) (omega arith) ∙ done.odds p (omega arith);
    }
      where
        now : SteppedAt high low held (set held' c v) (at (set even' c e)) (at (set odd' c o)) b i c
        now =
            let k : held_of (set held' c v) c ≡ v = get_or-set_same held' c v [] room in
            stepped_as (as_type (λ u. ColumnStepped (done.ahead c (omega arith) u) (at low c) (at high c) b i t) d) (record {
              g2 = ap (λ (x : List ℤ). at x 0) k ∙ same.g2;
              u2 = ap (λ (x : List ℤ). at x 1) k ∙ same.u2;
              p2 = ap (λ (x : List ℤ). at x 2) k ∙ same.p2;
              u1 = ap (λ (x : List ℤ). at x 3) k ∙ same.u1;
              even = λ h. get_or-set_same even' c e (pos 0) some_even ∙ same.even h;
              odd = λ h g. get_or-set_same odd' c o (pos 0) some_odd ∙ same.odd h g;
            })

        go : (j : ℕ) → j < c + 1 → Dec (j < c) → SteppedAt high low held (set held' c v) (at (set even' c e)) (at (set odd' c o)) b i j
        go j h (yes l) =
            let k : held_of (set held' c v) j ≡ held_of held' j = get_or-set_other held' c j v [] (omega arith) in
            stepped_as (done.stepped j l) (record {
              g2 = ap (λ (x : List ℤ). at x 0) k;
              u2 = ap (λ (x : List ℤ). at x 1) k;
              p2 = ap (λ (x : List ℤ). at x 2) k;
              u1 = ap (λ (x : List ℤ). at x 3) k;
              even = λ h. get_or-set_other even' c j e (pos 0) (omega arith);
              odd = λ h g. get_or-set_other odd' c j o (pos 0) (omega arith);
            })
        go j h (no f) =
            let k : c ≡ j = omega arith in
            subst (λ (j : ℕ). SteppedAt high low held (set held' c v) (at (set even' c e)) (at (set odd' c o)) b i j) k now

-- all columns have
pub steps_all : {high low : List ℤ} {held held' : List (List ℤ)} {even even' odd odd' : List ℤ} {b : ColumnsOf} {i c : ℕ} → StepsDone high low held held' even even' odd odd' b i c → c ≡ b.columns → StripStepped high low held held' even even' odd odd' b i
steps_all done e = record { stepped = λ j h. done.stepped j (omega arith); evens = λ p h. done.evens p (omega arith); odds = λ p h. done.odds p (omega arith) }

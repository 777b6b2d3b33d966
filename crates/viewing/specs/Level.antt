-- What a level inverted makes of good values: its columns, then its rows.
use Rattle.std.specs.Prelude.{ℕ, ◌+◌, ◌<◌, ◌≤◌, Bool, T, ltb, ℤ}
use Rattle.std.proofs.Math.Path.{subst}
use Rattle.std.proofs.Math.Bool.{true, false}
use Rattle.std.proofs.Common.{arith}
use Rattle.numbers.specs.Tests.{by_ltb, ltb-true, ltb-false}
use Rattle.lines.specs.Lines.{lows, highs}
use Rattle.lines.specs.Planes.{Plane, columns, rows}
use Rattle.exact.specs.Fractions.{Frac}
use Rattle.exact.specs.Inverse.{exact_inverse_pass}
use Rattle.stages.specs.Rule.{Bound}
use Rattle.stages.proofs.Sound.{Good}
use Rattle.width_table.specs.Nodes.{G1, G2, Pass, Rows, LowColumns, HighColumns, column_pass}
use Rattle.width_table.specs.declared.WidthTable.{WidthTable}
use Rattle.width_table.specs.Table.{fraction_bits}
use Rattle.inverse_lifting.specs.Fixed.{node_bits, Small}
use Rattle.view_precision.specs.Bounds.{stored, pass_bound, from_low, from_high, level_gives, pass_right}
use Rattle.viewing.specs.View.{entering_bits, view_line}
use Rattle.viewing.specs.Claims.{LevelSmall}
use Rattle.viewing.specs.Pass.{Fed, pass_good, pass_small}

-- What level l takes in a part of w columns and h rows: its low-low has bound b, the other three are stored with errors of so many steps.
pub record Takes (t : WidthTable) (steps l : ℕ) (b : Bound) (w h : ℕ) (p : Plane ℤ) (q : Plane Frac) : Type 0 where
  pub few : (s : Pass) → entering_bits t l s G1 ≤ node_bits
  pub ll : (r c : ℕ) → r < lows h → c < lows w → Good b (entering_bits t l LowColumns G1) (p r c) (q r c)
  pub lh : (r c : ℕ) → r < highs h → c < lows w → Good (stored t steps l LowColumns G2) (fraction_bits t l LowColumns G2) (p (lows h + r) c) (q (lows h + r) c)
  pub hl : (r c : ℕ) → r < lows h → lows w ≤ c → c < w → Good (stored t steps l HighColumns G1) (fraction_bits t l HighColumns G1) (p r c) (q r c)
  pub hh : (r c : ℕ) → r < highs h → lows w ≤ c → c < w → Good (stored t steps l HighColumns G2) (fraction_bits t l HighColumns G2) (p (lows h + r) c) (q (lows h + r) c)

-- after the columns
abbrev column_v : WidthTable → ℕ → ℕ → ℕ → Plane ℤ → Plane ℤ
column_v t l w h p = columns (λ c. view_line t l (column_pass (ltb c (lows w)))) h p

abbrev column_x : ℕ → Plane Frac → Plane Frac
column_x h q = columns (λ c. exact_inverse_pass) h q

module _ {t : WidthTable} {steps l : ℕ} {b : Bound} {w h : ℕ} {p : Plane ℤ} {q : Plane Frac} (g : Takes t steps l b w h p q) where
  -- what a column is fed, and what it gives, by whether it holds row-low values
  low_in : Bool → Bound
  low_in true = b
  low_in false = stored t steps l HighColumns G1

  high_in : Bool → Bound
  high_in s = stored t steps l (column_pass s) G2

  gives : Bool → Bound
  gives true = from_low t steps l b
  gives false = from_high t steps l b

  -- column c holds them or not
  OnSide : Bool → ℕ → Type 0
  OnSide true c = c < lows w
  OnSide false c = (lows w ≤ c) × (c < w)

  side_of_lem : (c : ℕ) → c < w → OnSide (ltb c (lows w)) c
  unfolding OnSide
  side_of_lem c i = by_ltb (λ s. OnSide s c) c (lows w) (λ j. j) (λ j. (j, i))

  column_fed : (s : Bool) (c : ℕ) → OnSide s c → Fed (entering_bits t l (column_pass s) G1) (entering_bits t l (column_pass s) G2) (low_in s) (high_in s) h (λ k. p k c) (λ k. q k c)
  unfolding OnSide low_in high_in
  column_fed true c i = record { few = g.few LowColumns; lows_good = λ r j. g.ll r c j i; highs_good = λ r j. g.lh r c j i }
  column_fed false c i = record { few = g.few HighColumns; lows_good = λ r j. g.hl r c j i.0 i.1; highs_good = λ r j. g.hh r c j i.0 i.1 }

  column_good : (s : Bool) (c : ℕ) → OnSide s c → (r : ℕ) → r < h → Good (gives s) node_bits (view_line t l (column_pass s) h (λ k. p k c) r) (exact_inverse_pass h (λ k. q k c) r)
  unfolding low_in high_in gives view_line from_low from_high
  column_good true c i = pass_good (column_fed true c i)
  column_good false c i = pass_good (column_fed false c i)

  columns_good : (r c : ℕ) → r < h → c < w → Good (gives (ltb c (lows w))) node_bits (column_v t l w h p r c) (column_x h q r c)
  unfolding columns
  columns_good r c i j = column_good (ltb c (lows w)) c (side_of_lem c j) r i

  row_fed : (r : ℕ) → r < h → Fed node_bits node_bits (from_low t steps l b) (from_high t steps l b) w (column_v t l w h p r) (column_x h q r)
  unfolding gives
  row_fed r i = record {
    few = omega arith;
    lows_good = λ c j. subst (λ (s : Bool). Good (gives s) node_bits (column_v t l w h p r c) (column_x h q r c)) (ltb-true c (lows w) j) (columns_good r c i (omega arith));
    highs_good = λ c j. subst (λ (s : Bool). Good (gives s) node_bits (column_v t l w h p r (lows w + c)) (column_x h q r (lows w + c))) (ltb-false (lows w + c) (lows w) (omega arith)) (columns_good r (lows w + c) i (omega arith));
  }

  pub level_good : (r c : ℕ) → r < h → c < w → Good (level_gives t steps l b) node_bits (rows (view_line t l Rows) w (column_v t l w h p) r c) (rows exact_inverse_pass w (column_x h q) r c)
  unfolding rows view_line level_gives
  level_good r c i j = pass_good (row_fed r i) c j

  -- no value on the way is above 2^15 where 13 does not turn the level away
  module _ (right : (s : Pass) → T (pass_right (pass_bound t steps l b s))) where
    column_small : (s : Bool) (c : ℕ) → OnSide s c → Small (entering_bits t l (column_pass s) G1) (entering_bits t l (column_pass s) G2) h (λ k. p k c)
    unfolding low_in high_in pass_bound
    column_small true c i = pass_small (column_fed true c i) (right LowColumns)
    column_small false c i = pass_small (column_fed false c i) (right HighColumns)

    pub level_small : LevelSmall t l w h p
    unfolding pass_bound
    level_small = record { in_columns = λ c j. column_small (ltb c (lows w)) c (side_of_lem c j); in_rows = λ r i. pass_small (row_fed r i) (right Rows) }

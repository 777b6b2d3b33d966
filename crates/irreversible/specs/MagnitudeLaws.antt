-- Under every accepted table each value on the way is below 2^10 in magnitude (`below_power_10`), and each one of level 1 below 2^4 (`first_below_power_4`).
use Rattle.std.specs.Prelude.{ℕ, suc, ◌+◌, ◌*◌, ◌-◌, ◌^◌, ◌<◌, ◌≤◌, ◌≡◌, Bool, List, ltb, ℤ, nat_abs}
use Rattle.std.proofs.Common.{sym, arith, mul-le-mul_right, lt_of_mul-lt-mul_right, pow-add}
use Rattle.std.proofs.Math.Bool.{true, false}
use Rattle.exact.specs.Fractions.{Frac}
use Rattle.exact.specs.FracLaws.{within_near}
use Rattle.stages.specs.Fixed.{fixed_value}
use Rattle.stages.proofs.Own.{pow_split}
use Rattle.stages.specs.Rule.{Bound}
use Rattle.stages.proofs.Sound.{Good}
use Rattle.lines.specs.Lines.{lows}
use Rattle.lines.specs.Planes.{Plane, side, levels}
use Rattle.width_table.specs.Nodes.{Node, G1, G2, Pass, Rows, LowColumns, HighColumns, column_pass, last_node}
use Rattle.width_table.specs.Limits.{form_levels, form_widths, form_input}
use Rattle.width_table.specs.declared.WidthTable.{WidthTable}
use Rattle.width_table.specs.Table.{max_fraction_bits, constant_bits, fraction_bits, input_bits}
use Rattle.table_meaning.specs.Products.{product_of}
use Rattle.precision.specs.Bounds.{node_bound, row_bound, pass_bound, entering, bound_of}
use Rattle.precision.specs.Verdict.{AcceptPromise}
use Rattle.precision.specs.Promise.{promise}
use Rattle.fixed_stages.specs.Fixed.{fixed_line}
use Rattle.irreversible.specs.Transforms.{fixed_after}
use Rattle.irreversible.specs.Claims.{Strip}
use Rattle.fixed_stages.specs.Safe.{BelowPower, LineBelowPower}
use Rattle.irreversible.specs.Magnitudes.{LevelBelowPower, AllBelowPower10, FirstBelowPower4}
use Rattle.irreversible.specs.LevelPlanes.{AtMost32, row_v, row_x}
use Rattle.irreversible.specs.Pass.{node_good, first_good}
use Rattle.irreversible.specs.Level.{row_good}
use Rattle.irreversible.specs.Demand3.{exact_after, after, strip_of}
use Rattle.irreversible.specs.Narrow.{eleven_bits, enters_eleven, five_bits_lem, enters_five}

-- range and error of at most 2^e - 2^-f
abbrev Room : ℕ → Bound → ℕ → Type 0
Room e b f = b.range + b.error + 2 ^ (32 - f) ≤ 2 ^ e * 2 ^ 32

good_sized : (e : ℕ) (b : Bound) (f : ℕ) (v : ℤ) (x : Frac) → f ≤ 32 → Room e b f → Good b f v x → BelowPower e f v
unfolding fixed_value
good_sized e b f v x small room g =
    rw (pow-add 2 e f)
    (lt_of_mul-lt-mul_right (2 ^ 32) (law (nat_abs v) (2 ^ f) (2 ^ (32 - f)) (2 ^ e) (b.range + b.error) (sym (pow_split f 32 small)) room (within_near g.range g.error).most))
  where
    law : (a P W E s : ℕ) → W * P ≡ 2 ^ 32 → s + W ≤ E * 2 ^ 32 → a * 2 ^ 32 ≤ s * P → a * 2 ^ 32 < E * P * 2 ^ 32
    law a P W E s q h k = omega (arith, mul-le-mul_right P h)

-- ---- a line

module _ (e : ℕ) (t : WidthTable) (l : ℕ) (p : Pass) (b : Bound) (n : ℕ) (v : ℕ → ℤ) (x : ℕ → Frac) (small : AtMost32 (fraction_bits t l p)) (room : (i : Node) → Room e (node_bound (constant_bits t) (product_of t l p) (input_bits t l p) b (fraction_bits t l p) i) (fraction_bits t l p i)) (given : (k : ℕ) → k < n → Good b (input_bits t l p) (v k) (x k)) where
  line_sized : LineBelowPower e t l p n v
  unfolding fixed_line
  line_sized = record {
    long = λ works i k h. good_sized e _ _ _ _ (small i) (room i) (node_good (constant_bits t) (product_of t l p) (input_bits t l p) b (fraction_bits t l p) n v x works small given i k h);
    single = λ one. good_sized e _ _ _ _ (small G1) (room G1) (first_good (constant_bits t) (product_of t l p) (input_bits t l p) b (fraction_bits t l p) n v x small given one);
  }

-- ---- a level

module _ (e : ℕ) (t : WidthTable) (l : ℕ) (bits : (p : Pass) (n : Node) → fraction_bits t l p n ≤ max_fraction_bits) (w h : ℕ) (b : Bound) (v : Plane ℤ) (x : Plane Frac) (given : (r c : ℕ) → r < h → c < w → Good b (input_bits t l Rows) (v r c) (x r c)) (room : (p : Pass) (n : Node) → Room e (pass_bound t l b p n) (fraction_bits t l p n)) where
  small : (p : Pass) → AtMost32 (fraction_bits t l p)
  small p n = omega (arith, bits p n)

  rows_sized : (r : ℕ) → r < h → LineBelowPower e t l Rows w (v r)
  unfolding pass_bound row_bound
  rows_sized r i = line_sized e t l Rows b w (v r) (x r) (small Rows) (room Rows) (λ k q. given r k i q)

  column_sized : (q : Bool) (c : ℕ) → ((k : ℕ) → k < h → Good (row_bound t l b (last_node q)) (fraction_bits t l Rows (last_node q)) (row_v t l w v k c) (row_x w x k c)) → LineBelowPower e t l (column_pass q) h (λ k. row_v t l w v k c)
  unfolding pass_bound
  column_sized true c g = line_sized e t l LowColumns (row_bound t l b G1) h (λ k. row_v t l w v k c) (λ k. row_x w x k c) (small LowColumns) (room LowColumns) g
  column_sized false c g = line_sized e t l HighColumns (row_bound t l b G2) h (λ k. row_v t l w v k c) (λ k. row_x w x k c) (small HighColumns) (room HighColumns) g

  columns_sized : (c : ℕ) → c < w → LineBelowPower e t l (column_pass (ltb c (lows w))) h (λ k. row_v t l w v k c)
  columns_sized c j = column_sized (ltb c (lows w)) c (λ k q. row_good t l bits w h b v x given k c q j)

-- ---- a level of a strip

module _ (e : ℕ) (t : WidthTable) (ok : AcceptPromise t) (pixels : List ℕ) (w h : ℕ) (strip : Strip t pixels w h) (k : ℕ) (i : k < t.levels)
    (enters : Room e (entering t (suc k)) (input_bits t (suc k) Rows)) (room : (p : Pass) (n : Node) → Room e (pass_bound t (suc k) (entering t (suc k)) p n) (fraction_bits t (suc k) p n)) where
  level_sized : LevelBelowPower e t (suc k) (side k w) (side k h) (fixed_after t k pixels w h)
  unfolding row_v
  level_sized =
      let bits : (p : Pass) (n : Node) → fraction_bits t (suc k) p n ≤ max_fraction_bits = λ p n. (form_widths t ok.form (suc k) (omega arith) i p n).2 in
      let good : (r c : ℕ) → r < side k h → c < side k w → Good (entering t (suc k)) (input_bits t (suc k) Rows) (fixed_after t k pixels w h r c) (exact_after t ok pixels w h strip k r c) = λ r c a b. (after t ok pixels w h strip k (omega arith)).inside r c (a, b) in
      record {
        given = λ r c a b. good_sized e _ _ _ _ (omega (arith, form_input t ok.form (suc k) (omega arith) i Rows)) enters (good r c a b);
        in_rows = rows_sized e t (suc k) bits (side k w) (side k h) (entering t (suc k)) (fixed_after t k pixels w h) (exact_after t ok pixels w h strip k) good room;
        in_columns = columns_sized e t (suc k) bits (side k w) (side k h) (entering t (suc k)) (fixed_after t k pixels w h) (exact_after t ok pixels w h strip k) good room;
      }

-- every level
pub below_power_10 : AllBelowPower10
unfolding bound_of
below_power_10 t pixels w h ok picture k i =
    let p = promise t ok in
    level_sized 10 t p pixels w h (strip_of picture) k i (enters_eleven t p (suc k) (omega arith) i) (eleven_bits t p (suc k) (omega arith) i)

-- level 1
pub first_below_power_4 : FirstBelowPower4
unfolding bound_of fixed_after levels side
first_below_power_4 t pixels w h ok strip =
    let p = promise t ok in
    level_sized 4 t p pixels w h strip 0 (form_levels t p.form).0 (enters_five t) (five_bits_lem t p)

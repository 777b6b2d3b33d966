-- One level: where the plane that it is fed is good, what it leaves is good at every place, and its values stay in their widths.
use Rattle.std.specs.Prelude.{ℕ, ◌+◌, ◌*◌, ◌-◌, ◌^◌, ◌<◌, ◌≤◌, Bool, ◌≡◌, refl, ltb, ℤ}
use Rattle.std.proofs.Math.Bool.{true, false}
use Rattle.std.proofs.Math.Path.{subst}
use Rattle.std.proofs.Common.{arith}
use Rattle.exact.specs.Fractions.{Frac}
use Rattle.width_table.specs.Nodes.{Node, G1, G2, Pass, Rows, LowColumns, HighColumns, column_pass, last_node}
use Rattle.lines.specs.Lines.{lows}
use Rattle.exact.specs.Exact.{exact_pass}
use Rattle.lines.specs.Planes.{Plane, rows, columns}
use Rattle.width_table.specs.declared.WidthTable.{WidthTable}
use Rattle.width_table.specs.Table.{max_fraction_bits, constant_bits, integer_bits, fraction_bits, input_bits}
use Rattle.stages.specs.Rule.{Bound}
use Rattle.table_meaning.specs.Products.{product_of}
use Rattle.precision.specs.Bounds.{node_bound, row_bound, pass_bound}
use Rattle.fixed_stages.specs.Fixed.{fixed_line}
use Rattle.irreversible.specs.Claims.{InWidth, LevelInWidth}
use Rattle.irreversible.specs.LevelPlanes.{row_v, row_x, new_v, new_x, AtMost32}
use Rattle.irreversible.specs.Pass.{pass_good, long_in_width, single_in_width}
use Rattle.stages.proofs.Sound.{Good}

module _ (t : WidthTable) (l : ℕ) (bits : (p : Pass) (n : Node) → fraction_bits t l p n ≤ max_fraction_bits) (w h : ℕ) (b : Bound) (v : Plane ℤ) (x : Plane Frac) (given : (r c : ℕ) → r < h → c < w → Good b (input_bits t l Rows) (v r c) (x r c)) where
  small : (p : Pass) → AtMost32 (fraction_bits t l p)
  small p n = omega (arith, bits p n)

  pub row_good : (r c : ℕ) → r < h → c < w → Good (row_bound t l b (last_node (ltb c (lows w)))) (fraction_bits t l Rows (last_node (ltb c (lows w)))) (row_v t l w v r c) (row_x w x r c)
  unfolding row_v row_x rows fixed_line row_bound
  row_good r c i j = pass_good (constant_bits t) (product_of t l Rows) (input_bits t l Rows) b (fraction_bits t l Rows) w (v r) (x r) (small Rows) (λ k q. given r k i q) c j

  -- the rows are good at column c, which holds row-low values or row-high ones
  RowsGood : Bool → ℕ → Type 0
  RowsGood q c = (k : ℕ) → k < h → Good (row_bound t l b (last_node q)) (fraction_bits t l Rows (last_node q)) (row_v t l w v k c) (row_x w x k c)

  column_good : (q : Bool) (c : ℕ) → RowsGood q c → (r : ℕ) → r < h → Good (pass_bound t l b (column_pass q) (last_node (ltb r (lows h)))) (fraction_bits t l (column_pass q) (last_node (ltb r (lows h)))) (fixed_line t l (column_pass q) h (λ k. row_v t l w v k c) r) (exact_pass h (λ k. row_x w x k c) r)
  unfolding RowsGood pass_bound fixed_line
  column_good true c g r i = pass_good (constant_bits t) (product_of t l LowColumns) (input_bits t l LowColumns) (row_bound t l b G1) (fraction_bits t l LowColumns) h (λ k. row_v t l w v k c) (λ k. row_x w x k c) (small LowColumns) g r i
  column_good false c g r i = pass_good (constant_bits t) (product_of t l HighColumns) (input_bits t l HighColumns) (row_bound t l b G2) (fraction_bits t l HighColumns) h (λ k. row_v t l w v k c) (λ k. row_x w x k c) (small HighColumns) g r i

  pub level_good : (r c : ℕ) → r < h → c < w → Good (pass_bound t l b (column_pass (ltb c (lows w))) (last_node (ltb r (lows h)))) (fraction_bits t l (column_pass (ltb c (lows w))) (last_node (ltb r (lows h)))) (new_v t l w h v r c) (new_x w h x r c)
  unfolding new_v new_x columns RowsGood
  level_good r c i j = column_good (ltb c (lows w)) c (λ k q. row_good k c q j) r i

  -- each value on the way stays in its width
  module _ (some : (p : Pass) (n : Node) → 1 ≤ integer_bits t l p n) (room : (p : Pass) (n : Node) → (pass_bound t l b p n).range + (pass_bound t l b p n).error + 2 ^ (32 - fraction_bits t l p n) ≤ 2 ^ (integer_bits t l p n - 1) * 2 ^ 32) where
    line_in_width : (p : Pass) (c : Bound) → ((n : Node) → pass_bound t l b p n ≡ node_bound (constant_bits t) (product_of t l p) (input_bits t l p) c (fraction_bits t l p) n) → (n : ℕ) (y : ℕ → ℤ) (z : ℕ → Frac) → ((k : ℕ) → k < n → Good c (input_bits t l p) (y k) (z k)) → InWidth t l p n y
    unfolding fixed_line
    line_in_width p c e n y z g =
        let fit : (i : Node) → (node_bound (constant_bits t) (product_of t l p) (input_bits t l p) c (fraction_bits t l p) i).range + (node_bound (constant_bits t) (product_of t l p) (input_bits t l p) c (fraction_bits t l p) i).error + 2 ^ (32 - fraction_bits t l p i) ≤ 2 ^ (integer_bits t l p i - 1) * 2 ^ 32 = λ i. subst (λ (q : Bound). q.range + q.error + 2 ^ (32 - fraction_bits t l p i) ≤ 2 ^ (integer_bits t l p i - 1) * 2 ^ 32) (e i) (room p i) in
        record {
          long = long_in_width (constant_bits t) (product_of t l p) (input_bits t l p) c (fraction_bits t l p) n y z (small p) g (integer_bits t l p) (some p) fit;
          single = single_in_width (constant_bits t) (product_of t l p) (input_bits t l p) c (fraction_bits t l p) n y z (small p) g (integer_bits t l p) (some p) fit;
        }

    rows_in_width : (r : ℕ) → r < h → InWidth t l Rows w (v r)
    unfolding pass_bound row_bound
    rows_in_width r i = line_in_width Rows b (λ n. refl) w (v r) (x r) (λ k q. given r k i q)

    column_in_width : (q : Bool) (c : ℕ) → RowsGood q c → InWidth t l (column_pass q) h (λ k. row_v t l w v k c)
    unfolding RowsGood pass_bound
    column_in_width true c g = line_in_width LowColumns (row_bound t l b G1) (λ n. refl) h (λ k. row_v t l w v k c) (λ k. row_x w x k c) g
    column_in_width false c g = line_in_width HighColumns (row_bound t l b G2) (λ n. refl) h (λ k. row_v t l w v k c) (λ k. row_x w x k c) g

    pub level_in_width : LevelInWidth t l w h v
    unfolding row_v RowsGood
    level_in_width = record { in_rows = rows_in_width; in_columns = λ c j. column_in_width (ltb c (lows w)) c (λ k q. row_good k c q j) }

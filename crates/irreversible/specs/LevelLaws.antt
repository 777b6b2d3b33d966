-- A level in memory: its rows, then the columns of row-low, then those of row-high. Where a plane stands and its values are
-- sized, every pass is safe (`level_safe`), and what the level leaves stands (`level_stands`).
use Rattle.std.specs.Prelude.{ℕ, ◌+◌, ◌*◌, ◌<◌, ◌≤◌, Bool, ◌≡◌, ltb, ℤ}
use Rattle.std.proofs.Math.Bool.{true, false}
use Rattle.std.proofs.Math.Path.{sym, subst}
use Rattle.std.proofs.Common.{◌∙◌, ap, arith}
use Rattle.numbers.specs.Tests.{ltb-true, ltb-false, by_ltb}
use Rattle.lines.specs.Lines.{lows, highs}
use Rattle.lines.specs.LineLaws.{first_equal}
use Rattle.lines.specs.Planes.{Plane, rows, columns, within, level_rows_first}
use Rattle.lines.specs.PlaneLaws.{by_part, within_in, within_below, within_beyond}
use Rattle.width_table.specs.Nodes.{G1, G2, Pass, Rows, LowColumns, HighColumns, column_pass, last_node}
use Rattle.width_table.specs.declared.WidthTable.{WidthTable}
use Rattle.width_table.specs.Table.{constant_bits, fraction_bits, input_bits}
use Rattle.pictures.specs.MemoryLaws.{Reads, Stands, columns_plane, columns_in, columns_below, columns_left, columns_right, one_reads, rows_stand, rows_beyond, columns_stand, columns_beyond}
use Rattle.stages.specs.Fixed.{cut}
use Rattle.table_meaning.specs.Products.{product_of}
use Rattle.fixed_stages.specs.Fixed.{fixed_long, fixed_pass, fixed_line}
use Rattle.irreversible.specs.Transforms.{fixed_level}
use Rattle.fixed_stages.specs.Safe.{BelowPower10, LineBelowPower10, BitsRight, LineSafe}
use Rattle.irreversible.specs.Magnitudes.{LevelBelowPower10}
use Rattle.fixed_stages.specs.LineLaws.{value_same, line_safe, line_sized}
use Rattle.irreversible.specs.Memory.{rowed, lowed, level_worked, SafeLevel}

-- ---- a pass reads a line's own values only

pub line_same : (t : WidthTable) (l : ℕ) (p : Pass) → Reads (fixed_line t l p)
unfolding fixed_line fixed_pass fixed_long
line_same t l p =
    let F = constant_bits t in
    let fp = product_of t l p in
    let fi = input_bits t l p in
    let f = fraction_bits t l p in
    one_reads (cut fi (f G1)) (fixed_long F fp fi f) (λ n works x y e. first_equal n (value_same F fp fi f n x y works e G1) (value_same F fp fi f n x y works e G2))

-- ---- one level

module _ (t : WidthTable) (l W H w h : ℕ) (in_w : w ≤ W) (in_h : h ≤ H) (x : ℕ → ℤ) (p : Plane ℤ) (stands : Stands W H x p) where
  -- after the rows
  row_plane : Plane ℤ
  row_plane = within w h (rows (fixed_line t l Rows) w p) p

  row_stands : Stands W H (rowed t l W w h x) row_plane
  unfolding row_plane
  row_stands = rows_stand (fixed_line t l Rows) (line_same t l Rows) W H w h x p in_w in_h stands

  row_is : (r c : ℕ) → r < h → c < w → row_plane r c ≡ rows (fixed_line t l Rows) w p r c
  unfolding row_plane rows
  row_is r c i j = within_in w h _ p r c i j

  row_below : (r c : ℕ) → h ≤ r → row_plane r c ≡ p r c
  unfolding row_plane
  row_below r c i = within_below w h _ p r c i

  row_beyond : (r c : ℕ) → w ≤ c → row_plane r c ≡ p r c
  unfolding row_plane
  row_beyond r c j = within_beyond w h _ p r c j

  -- after the columns of row-low
  low_plane : Plane ℤ
  unfolding row_plane
  low_plane = columns_plane (fixed_line t l LowColumns) 0 (lows w) h row_plane

  low_stands : Stands W H (lowed t l W w h x) low_plane
  unfolding low_plane
  low_stands = columns_stand (fixed_line t l LowColumns) (line_same t l LowColumns) W H 0 (lows w) h (rowed t l W w h x) row_plane (omega arith) in_h row_stands

  -- a column of row-high is not yet worked
  low_is_lem : (r c : ℕ) → r < h → c < w → lows w ≤ c → low_plane r c ≡ rows (fixed_line t l Rows) w p r c
  unfolding low_plane
  low_is_lem r c i j a = columns_right (fixed_line t l LowColumns) 0 (lows w) h row_plane r c (omega arith) ∙ row_is r c i j

  -- a column that holds what the rows left, worked
  column_is : (q : Pass) (v : ℕ → ℤ) (r c : ℕ) → r < h → ((m : ℕ) → m < h → v m ≡ rows (fixed_line t l Rows) w p m c) → fixed_line t l q h v r ≡ fixed_line t l q h (λ m. rows (fixed_line t l Rows) w p m c) r
  column_is q v r c i same = line_same t l q h v _ same r i

  -- after all columns: the level
  planes : (r c : ℕ) → columns_plane (fixed_line t l HighColumns) (lows w) (highs w) h low_plane r c ≡ fixed_level t l w h p r c
  unfolding level_rows_first low_plane columns
  planes = by_part (λ r c. columns_plane (fixed_line t l HighColumns) (lows w) (highs w) h low_plane r c ≡ fixed_level t l w h p r c) w h
      (λ r c i j. by_ltb (λ q. columns_plane (fixed_line t l HighColumns) (lows w) (highs w) h low_plane r c ≡ fixed_line t l (column_pass q) h (λ m. rows (fixed_line t l Rows) w p m c) r) c (lows w)
      (λ a. columns_left (fixed_line t l HighColumns) (lows w) (highs w) h low_plane r c a ∙ columns_in (fixed_line t l LowColumns) 0 (lows w) h row_plane r c i (omega arith) (omega arith) ∙ column_is LowColumns _ r c i (λ m b. row_is m c b j))
      (λ a. columns_in (fixed_line t l HighColumns) (lows w) (highs w) h low_plane r c i a (omega arith) ∙ column_is HighColumns _ r c i (λ m b. low_is_lem m c b j a))
      ∙ sym (within_in w h _ p r c i j))
      (λ r c i. columns_below (fixed_line t l HighColumns) (lows w) (highs w) h low_plane r c i ∙ columns_below (fixed_line t l LowColumns) 0 (lows w) h row_plane r c i ∙ row_below r c i ∙ sym (within_below w h _ p r c i))
      (λ r c j. columns_right (fixed_line t l HighColumns) (lows w) (highs w) h low_plane r c (omega arith) ∙ columns_right (fixed_line t l LowColumns) 0 (lows w) h row_plane r c (omega arith) ∙ row_beyond r c j ∙ sym (within_beyond w h _ p r c j))

  -- What stands after the level.
  pub level_stands : Stands W H (level_worked t l W w h x) (fixed_level t l w h p)
  level_stands r c a b = columns_stand (fixed_line t l HighColumns) (line_same t l HighColumns) W H (lows w) (highs w) h (lowed t l W w h x) low_plane (omega arith) in_h low_stands r c a b ∙ planes r c

  -- What lies past the plane is as it was.
  pub level_beyond : (q : ℕ) → W * H ≤ q → level_worked t l W w h x q ≡ x q
  level_beyond q far = columns_beyond (fixed_line t l HighColumns) W H (lows w) (highs w) h (lowed t l W w h x) (omega arith) in_h q far ∙ columns_beyond (fixed_line t l LowColumns) W H 0 (lows w) h (rowed t l W w h x) (omega arith) in_h q far ∙ rows_beyond (fixed_line t l Rows) W H w h x in_w in_h q far

  module _ (bits : BitsRight t l) (inside : LevelBelowPower10 t l w h p) where
    -- the bits that enter a column
    column_sized : (c : ℕ) → c < w → (q : Bool) → ltb c (lows w) ≡ q → (r : ℕ) → r < h → BelowPower10 (input_bits t l (column_pass q)) (rows (fixed_line t l Rows) w p r c)
    unfolding rows
    column_sized c j true e r i = subst (λ (q : Bool). BelowPower10 (fraction_bits t l Rows (last_node q)) (fixed_line t l Rows w (λ k. p r k) c)) e (line_sized 10 t l Rows w (λ k. p r k) (inside.in_rows r i) c j)
    column_sized c j false e r i = subst (λ (q : Bool). BelowPower10 (fraction_bits t l Rows (last_node q)) (fixed_line t l Rows w (λ k. p r k) c)) e (line_sized 10 t l Rows w (λ k. p r k) (inside.in_rows r i) c j)

    -- a column that holds what the rows left
    column_safe : (c : ℕ) → c < w → (q : Bool) → ltb c (lows w) ≡ q → (v : ℕ → ℤ) → ((r : ℕ) → r < h → v r ≡ rows (fixed_line t l Rows) w p r c) → LineSafe t l (column_pass q) h v
    column_safe c j q e v same =
        line_safe t l bits (column_pass q) h (λ r. rows (fixed_line t l Rows) w p r c)
        (subst (λ (b : Bool). LineBelowPower10 t l (column_pass b) h (λ r. rows (fixed_line t l Rows) w p r c)) e (inside.in_columns c j)) (column_sized c j q e) v same

    -- Every pass is safe.
    pub level_safe : SafeLevel t l W w h x
    level_safe = record {
      on_rows = λ r i. line_safe t l bits Rows w (p r) (inside.in_rows r i) (λ c j. inside.given r c i j) _ (λ c j. ap x (omega arith) ∙ stands r c (omega arith) (omega arith));
      on_low_columns = λ j a. column_safe j (omega arith) true (ltb-true j (lows w) a) _ (λ r i. ap (rowed t l W w h x) (omega arith) ∙ row_stands r j (omega arith) (omega arith) ∙ row_is r j i (omega arith));
      on_high_columns = λ j a. column_safe (lows w + j) (omega arith) false (ltb-false (lows w + j) (lows w) (omega arith)) _ (λ r i. ap (lowed t l W w h x) (omega arith) ∙ low_stands r (lows w + j) (omega arith) (omega arith) ∙ low_is_lem r (lows w + j) i (omega arith) (omega arith));
    }

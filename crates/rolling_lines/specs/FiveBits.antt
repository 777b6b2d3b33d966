-- Five integer bits hold each value of a one-level transform under every accepted table: of a strip of any size (`row_five`,
-- `column_five`), and of one line alone (`line_five`), whose row pass is safe (`row_safe`).
use Rattle.std.specs.Prelude.{ℕ, ◌+◌, ◌-◌, ◌^◌, ◌<◌, Bool, true, false, List, ◌≡◌, refl, ltb, get_or, ℤ, pos, neg_ℤ, nat_abs, ◌≤ℤ◌, ◌<ℤ◌}
use Rattle.std.proofs.Common.{subst, arith, lt_of_lt_of_le, pow_pos}
use Rattle.std.proofs.Math.Nat.{pow-le-pow_right}
use Rattle.numbers.specs.Dif.{by_dif, difs}
use Rattle.numbers.specs.Abs.{abs_of_dif}
use Rattle.lines.specs.Lines.{lows, Liftable}
use Rattle.lines.specs.Planes.{rows}
use Rattle.width_table.specs.Nodes.{Node, G1, Rows, column_pass, last_node}
use Rattle.width_table.specs.declared.WidthTable.{WidthTable}
use Rattle.width_table.specs.Table.{constant_bits, fraction_bits, input_bits}
use Rattle.pictures.specs.Pictures.{Admitted, sample}
use Rattle.precision.specs.Verdict.{Accepted}
use Rattle.precision.specs.Promise.{promise}
use Rattle.table_meaning.specs.Products.{product_of}
use Rattle.fixed_stages.specs.Fixed.{value_at, count_at, fixed_line}
use Rattle.irreversible.specs.Claims.{Strip}
use Rattle.table_meaning.specs.NodeWidths.{InNodeWidth}
use Rattle.fixed_stages.specs.Safe.{BelowPower, BelowPower10, LineSafe}
use Rattle.irreversible.specs.Magnitudes.{LevelBelowPower}
use Rattle.irreversible.specs.MagnitudeLaws.{first_below_power_4}
use Rattle.fixed_stages.specs.LineLaws.{line_safe, line_sized, bits_right}
use Rattle.rolling_lines.specs.Schedule.{column_pass_at}
use Rattle.rolling_lines.specs.LentLines.{FiveBits}

abs_holds : (H : ℕ) (v : ℤ) → nat_abs v < H → (neg_ℤ (pos H) ≤ℤ v) × (v <ℤ pos H)
abs_holds H = by_dif _ λ a b. λ h. simp difs (omega (arith, abs_of_dif a b))

sized_five : (f : ℕ) (v : ℤ) → BelowPower 4 f v → FiveBits f v
unfolding FiveBits InNodeWidth
sized_five f v h =
    let e : 4 + f ≡ 5 + f - 1 = omega arith in
    abs_holds (2 ^ (5 + f - 1)) v (subst (λ (k : ℕ). nat_abs v < 2 ^ k) e h)

pub zero_five : (f : ℕ) → FiveBits f (pos 0)
zero_five f = sized_five f (pos 0) (pow_pos (4 + f))

-- eleven hold it all the more
sized_more : (f : ℕ) (v : ℤ) → BelowPower 4 f v → BelowPower10 f v
sized_more f v h = lt_of_lt_of_le h (pow-le-pow_right {n = 2} (omega arith) {i = 4 + f} {j = 10 + f} (omega arith))

-- ---- a strip

module _ (t : WidthTable) (accepted : Accepted t) (all : List ℕ) (w h : ℕ) (strip : Strip t all w h) where
  pub small : LevelBelowPower 4 t 1 w h (sample all t.depth w)
  small = first_below_power_4 t all w h accepted strip

  -- each value that the row pass leaves
  pub row_five : (r c : ℕ) → r < h → c < w → FiveBits (input_bits t 1 (column_pass_at w c)) (fixed_line t 1 Rows w (sample all t.depth w r) c)
  row_five r c i j =
      subst (λ (f : ℕ). FiveBits f (fixed_line t 1 Rows w (sample all t.depth w r) c)) (fed (ltb c (lows w)))
      (sized_five _ _ (line_sized 4 t 1 Rows w (sample all t.depth w r) (small.in_rows r i) c j))
    where
      -- row-low values feed the columns of row-low, row-high values those of row-high
      fed : (q : Bool) → fraction_bits t 1 Rows (last_node q) ≡ input_bits t 1 (column_pass q)
      fed true = refl
      fed false = refl

  -- each value that a column's pass leaves in a node
  pub column_five : Liftable h → (c : ℕ) → c < w → (i : Node) (k : ℕ) → k < count_at h i
      → FiveBits (fraction_bits t 1 (column_pass_at w c) i) (value_at (constant_bits t) (product_of t 1 (column_pass_at w c)) (input_bits t 1 (column_pass_at w c)) (fraction_bits t 1 (column_pass_at w c)) h (λ r. fixed_line t 1 Rows w (sample all t.depth w r) c) i k)
  unfolding rows
  column_five works c j i k m = sized_five _ _ ((small.in_columns c j).long works i k m)

-- ---- one line

-- a line is a strip of one
module _ (t : WidthTable) (accepted : Accepted t) (pixels : List ℕ) (w : ℕ) (side : Admitted w) (below : (k : ℕ) → k < w → get_or pixels k 0 < 2 ^ t.depth) where
  strip : Strip t pixels w 1
  strip = record { width = side.0; height = omega arith; depth = λ k h. below k (omega arith) }

  -- each value that the line's row pass leaves
  pub line_five : (c : ℕ) → c < w → FiveBits (input_bits t 1 (column_pass_at w c)) (fixed_line t 1 Rows w (sample pixels t.depth w 0) c)
  line_five c j = row_five t accepted pixels w 1 strip 0 c (omega arith) j

  -- the row pass of the line, as it stands in memory
  pub row_safe : t.levels ≡ 1 → (x : ℕ → ℤ) → ((k : ℕ) → k < w → x k ≡ sample pixels t.depth w 0 k) → LineSafe t 1 Rows w x
  row_safe one x same =
      let s = small t accepted pixels w 1 strip in
      let y = sample pixels t.depth w 0 in
      let row = s.in_rows 0 (omega arith) in
      let f = fraction_bits t 1 Rows in
      line_safe t 1 (bits_right t (promise t accepted) 1 (omega arith) (omega (arith, one))) Rows w y
      (record { long = λ works i k h. sized_more (f i) (value_at (constant_bits t) (product_of t 1 Rows) (input_bits t 1 Rows) f w y i k) (row.long works i k h); single = λ e. sized_more (f G1) (fixed_line t 1 Rows w y 0) (row.single e) })
      (λ k i. sized_more t.depth (y k) (s.given 0 k (omega arith) i)) x same

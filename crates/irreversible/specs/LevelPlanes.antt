-- For the proof of demand 3: what a level leaves of a plane on its way, in fixed point and exactly, and bits that fit the rule of the crate stages.
use Rattle.std.specs.Prelude.{ℕ, ◌≤◌, ltb, ℤ}
use Rattle.exact.specs.Fractions.{Frac}
use Rattle.exact.specs.Exact.{exact_pass}
use Rattle.lines.specs.Lines.{lows}
use Rattle.lines.specs.Planes.{Plane, rows, columns}
use Rattle.width_table.specs.Nodes.{Node, Rows, column_pass}
use Rattle.width_table.specs.declared.WidthTable.{WidthTable}
use Rattle.fixed_stages.specs.Fixed.{fixed_line}

-- the nodes' bits are at most 32 (a table's are at most 20)
abbrev pub AtMost32 : (Node → ℕ) → Type 0
AtMost32 f = (i : Node) → f i ≤ 32

-- after the rows: ours, and the exact one
unfoldable pub row_v : WidthTable → ℕ → ℕ → Plane ℤ → Plane ℤ
row_v t l w v = rows (fixed_line t l Rows) w v

unfoldable pub row_x : ℕ → Plane Frac → Plane Frac
row_x w x = rows exact_pass w x

-- after the columns likewise
unfoldable pub new_v : WidthTable → ℕ → ℕ → ℕ → Plane ℤ → Plane ℤ
unfolding row_v
new_v t l w h v = columns (λ c. fixed_line t l (column_pass (ltb c (lows w)))) h (row_v t l w v)

unfoldable pub new_x : ℕ → ℕ → Plane Frac → Plane Frac
unfolding row_x
new_x w h x = columns (λ c. exact_pass) h (row_x w x)

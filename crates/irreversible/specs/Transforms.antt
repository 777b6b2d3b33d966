-- The 9/7 transform in fixed point under a width table (document 01: the lifting; pictures and planes), with the widths of its products
-- (document 02, job 7).
use Rattle.std.specs.Prelude.{ℕ, List, ℤ}
use Rattle.lines.specs.Planes.{Plane, OnPart, level_rows_first, levels}
use Rattle.width_table.specs.Nodes.{Rows, column_pass}
use Rattle.width_table.specs.declared.WidthTable.{WidthTable}
use Rattle.pictures.specs.Pictures.{sample}
use Rattle.fixed_stages.specs.Fixed.{fixed_line}

-- a level: the rows, then the columns, those of row-low and of row-high by passes of their own
abbrev pub fixed_level : WidthTable → ℕ → OnPart ℤ
fixed_level t l = level_rows_first (fixed_line t l Rows) (λ low. fixed_line t l (column_pass low))

-- the plane after levels 1 to k; a pixel enters as an integer with B fractional bits
unfoldable pub fixed_after : WidthTable → ℕ → List ℕ → ℕ → ℕ → Plane ℤ
fixed_after t k pixels w h = levels (fixed_level t) k w h (sample pixels t.depth w)

-- the plane of the 9/7 call
unfoldable pub fixed_plane : WidthTable → List ℕ → ℕ → ℕ → Plane ℤ
fixed_plane t pixels w h = fixed_after t t.levels pixels w h

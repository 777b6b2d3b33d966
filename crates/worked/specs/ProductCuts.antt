-- Worked numbers with widths of products (document 02, job 7), by computation.
use Rattle.std.specs.Prelude.{ℕ, ◌≡◌, refl, List, [], ◌∷◌, ℤ, pos, neg_ℤ}
use Rattle.exact.specs.Exact.{alpha}
use Rattle.lines.specs.Lines.{low_after, high_before, high_after, on_highs, on_lows, lows_first}
use Rattle.lines.specs.Planes.{from_one, rows, columns, within, side, level_rows_first, levels, tabulate, row_by_row}
use Rattle.width_table.specs.declared.WidthTable.{WidthTable}
use Rattle.pictures.specs.Pictures.{sample}
use Rattle.stages.specs.Stages.{uncut, cut_to}
use Rattle.stages.specs.Fixed.{nearest, cut, cut_product, step, scale}
use Rattle.table_meaning.specs.Products.{product_of}
use Rattle.width_table.specs.WorkedTables as Tables
use Rattle.width_table.specs.WorkedTables.{usual}
use Rattle.fixed_stages.specs.Fixed.{at_p1, at_u1, at_p2, at_u2, at_g1, at_g2, fixed_long, fixed_pass, fixed_line}
use Rattle.irreversible.specs.Transforms.{fixed_after, fixed_plane}

abbrev m : ℕ → ℤ
m n = neg_ℤ (pos n)

-- P1 with B = 1 and F = 1 (alpha becomes -3/2). Own pixel -1 and neighbours -1, 0: the product is 3/4. Cut to 0 bits it is 0, to 1 bit 1/2, to
-- 2 bits it is whole. The sum of -1/2 and the product, at f = 2; then at f = 0. Own pixel 0 and neighbours 1, 0: the product is -3/4, which is cut
-- downwards: to 0 bits -1, to 1 bit -1, to 2 bits it is whole. The sum, at f = 2.
pub steps :
    step (cut_to 0) alpha 1 1 1 2 (m 1) (m 1) (pos 0) ∷ step (cut_to 1) alpha 1 1 1 2 (m 1) (m 1) (pos 0) ∷ step (cut_to 2) alpha 1 1 1 2 (m 1) (m 1) (pos 0) ∷ step uncut alpha 1 1 1 2 (m 1) (m 1) (pos 0)
    ∷ step (cut_to 0) alpha 1 1 1 0 (m 1) (m 1) (pos 0) ∷ step uncut alpha 1 1 1 0 (m 1) (m 1) (pos 0)
    ∷ step (cut_to 0) alpha 1 1 1 2 (pos 0) (pos 1) (pos 0) ∷ step (cut_to 1) alpha 1 1 1 2 (pos 0) (pos 1) (pos 0) ∷ step (cut_to 2) alpha 1 1 1 2 (pos 0) (pos 1) (pos 0) ∷ step uncut alpha 1 1 1 2 (pos 0) (pos 1) (pos 0) ∷ []
    ≡ m 2 ∷ pos 0 ∷ pos 1 ∷ pos 1
    ∷ m 1 ∷ pos 0
    ∷ m 4 ∷ m 4 ∷ m 3 ∷ m 3 ∷ []
unfolding step cut_product cut nearest
steps = refl

-- One level of depth 8, all nodes (12, 20), kept ones (12, 2), all F 24; pixels 0 255, 17 200, 3 99 as three rows of two: without tag 5; with
-- products of 44 bits, which cut nothing; of 7 bits; of 5 to 8.
abbrev plane : WidthTable → List ℤ
plane t = row_by_row 2 3 (fixed_plane t (0 ∷ 255 ∷ 17 ∷ 200 ∷ 3 ∷ 99 ∷ []) 2 3)

pub planes :
    plane (usual 1) ∷ plane (Tables.cut 1 (44 ∷ 44 ∷ 44 ∷ 44 ∷ [])) ∷ plane (Tables.cut 1 (7 ∷ 7 ∷ 7 ∷ 7 ∷ [])) ∷ plane (Tables.cut 1 (5 ∷ 6 ∷ 7 ∷ 8 ∷ [])) ∷ []
    ≡ (pos 0 ∷ pos 3 ∷ m 2 ∷ pos 1 ∷ pos 0 ∷ pos 0 ∷ [])
    ∷ (pos 0 ∷ pos 3 ∷ m 2 ∷ pos 1 ∷ pos 0 ∷ pos 0 ∷ [])
    ∷ (m 1 ∷ pos 3 ∷ m 3 ∷ pos 1 ∷ pos 0 ∷ pos 0 ∷ [])
    ∷ (m 1 ∷ pos 3 ∷ m 3 ∷ pos 1 ∷ pos 0 ∷ m 1 ∷ [])
    ∷ []
unfolding row_by_row tabulate fixed_plane fixed_after fixed_line fixed_pass fixed_long from_one at_p1 at_u1 at_p2 at_u2 at_g1 at_g2 on_highs on_lows low_after high_before high_after lows_first levels level_rows_first within rows columns side sample product_of nearest cut cut_product step scale
planes = refl

-- Strips one sample wide (document 02, job 6), worked by computation: two levels, depth 8, all nodes (12, 20), kept ones (12, 2), all F 24.
use Rattle.std.specs.Prelude.{[], ◌∷◌, ◌++◌, ◌≡◌, refl, pos, negsuc}
use Rattle.lines.specs.Lines.{low_after, high_before, high_after, on_highs, on_lows, lows_first}
use Rattle.lines.specs.Planes.{from_one, rows, columns, within, side, level_rows_first, levels, tabulate, row_by_row}
use Rattle.pictures.specs.Pictures.{sample}
use Rattle.width_table.specs.WorkedTables.{usual}
use Rattle.stages.specs.Fixed.{nearest, cut, cut_product, step, scale}
use Rattle.table_meaning.specs.Products.{product_of}
use Rattle.fixed_stages.specs.Fixed.{at_p1, at_u1, at_p2, at_u2, at_g1, at_g2, fixed_long, fixed_pass, fixed_line}
use Rattle.irreversible.specs.Transforms.{fixed_after, fixed_plane}

-- pixels 5 7 200 as a column of three rows and as a row of three columns, and the pixel 5 alone
pub strips :
    row_by_row 1 3 (fixed_plane (usual 2) (5 ∷ 7 ∷ 200 ∷ []) 1 3) ++ row_by_row 3 1 (fixed_plane (usual 2) (5 ∷ 7 ∷ 200 ∷ []) 3 1) ++ row_by_row 1 1 (fixed_plane (usual 2) (5 ∷ []) 1 1)
    ≡ negsuc 2 ∷ pos 2 ∷ negsuc 1 ∷ negsuc 2 ∷ pos 2 ∷ negsuc 1 ∷ negsuc 1 ∷ []
unfolding row_by_row tabulate fixed_plane fixed_after fixed_line fixed_pass fixed_long from_one at_p1 at_u1 at_p2 at_u2 at_g1 at_g2 on_highs on_lows low_after high_before high_after lows_first levels level_rows_first within rows columns side sample product_of nearest cut cut_product step scale
strips = refl

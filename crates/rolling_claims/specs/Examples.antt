-- Worked strips of 1 to 6 lines, and some one pixel wide, by computation: what comes out call by call, and the whole transform. The
-- numbers were computed by a separate program from the documents. All widths of the table differ. The same with tag 5, whose widths of
-- products differ too.
use Rattle.std.specs.Prelude.{ℕ, ◌*◌, Bool, true, false, List, [], ◌∷◌, ◌++◌, map, ◌≡◌, refl, take, ℤ, pos, negsuc}
use Rattle.lines.specs.Lines.{low_after, high_before, high_after, lows_first, on_highs, on_lows, interleaved}
use Rattle.lines.specs.Planes.{tabulate, row_by_row, from_one, rows, columns, within, level_rows_first, levels, side}
use Rattle.width_table.specs.Nodes.{Rows}
use Rattle.width_table.specs.declared.WidthTable.{WidthTable}
use Rattle.pictures.specs.Pictures.{sample}
use Rattle.stages.specs.Fixed as F
use Rattle.table_meaning.specs.Products.{product_of}
use Rattle.fixed_stages.specs.Fixed as X
use Rattle.fixed_stages.specs.Fixed.{fixed_line}
use Rattle.irreversible.specs.Transforms.{fixed_after, fixed_plane}
use Rattle.rolling_lines.specs.declared.Taken.{Taken}
use Rattle.rolling_lines.specs.declared.Taken.TheVariants.{Zero}
use Rattle.rolling_lines.specs.Schedule as S
use Rattle.rolling_lines.specs.Schedule.{Line, Held, blank, next, held_after, line_gives, end_gives}
use Rattle.fixed_stages.specs.Fixed as X
use Rattle.rolling_lines.specs.Schedule as S
use Rattle.rolling_claims.specs.Claims.{in_turn, first_lines}

abbrev table : Bool → List ℕ → WidthTable
table has_products widths = record {
  depth = 3;
  levels = 1;
  constants = 24 ∷ 23 ∷ 22 ∷ 21 ∷ 20 ∷ 19 ∷ [];
  nodes =
      (12 ∷ 13 ∷ 12 ∷ 14 ∷ 12 ∷ 15 ∷ 12 ∷ 16 ∷ 12 ∷ 17 ∷ 12 ∷ 18 ∷ [])
      ++ (12 ∷ 12 ∷ 12 ∷ 11 ∷ 12 ∷ 10 ∷ 12 ∷ 13 ∷ 12 ∷ 9 ∷ 12 ∷ 8 ∷ [])
      ++ (12 ∷ 14 ∷ 12 ∷ 12 ∷ 12 ∷ 9 ∷ 12 ∷ 11 ∷ 12 ∷ 10 ∷ 12 ∷ 7 ∷ []);
  has_products = has_products;
  products = widths;
}

abbrev pub worked : WidthTable
worked = table false []

-- with tag 5 (document 02, job 7): the products of the rows, of the columns of row-low and of those of row-high; 0 leaves whole numbers, 44 cut
-- nothing
abbrev pub tagged : WidthTable
tagged = table true ((10 ∷ 9 ∷ 8 ∷ 7 ∷ []) ++ (6 ∷ 5 ∷ 4 ∷ 3 ∷ []) ++ (11 ∷ 44 ∷ 2 ∷ 0 ∷ []))

-- six lines of three pixels
abbrev pub pixels : List ℕ
pixels = 0 ∷ 7 ∷ 2 ∷ 3 ∷ 6 ∷ 5 ∷ 7 ∷ 7 ∷ 0 ∷ 1 ∷ 4 ∷ 6 ∷ 5 ∷ 0 ∷ 3 ∷ 2 ∷ 2 ∷ 7 ∷ []

-- line n of w pixels, worked along its row
abbrev pub row : WidthTable → ℕ → ℕ → Line
row t w n = fixed_line t 1 Rows w (sample pixels 3 w n)

unfoldable pub nothing : Held
nothing = record { low = blank; high = blank; p1 = blank; u1 = blank; p2 = blank }

-- what each line gives, and then the end
unfoldable pub run : WidthTable → ℕ → Taken → Held → List Line → List (List (List ℤ))
run t w k held [] = map (tabulate w) (end_gives t w k held) ∷ []
run t w k held (x ∷ xs) = map (tabulate w) (line_gives t w k held x) ∷ run t w (next k) (held_after t w k held x) xs

-- 1 to 6 lines
abbrev pub strips : WidthTable → List (List Line)
strips t =
    (row t 3 0 ∷ [])
    ∷ (row t 3 0 ∷ row t 3 1 ∷ [])
    ∷ (row t 3 0 ∷ row t 3 1 ∷ row t 3 2 ∷ [])
    ∷ (row t 3 0 ∷ row t 3 1 ∷ row t 3 2 ∷ row t 3 3 ∷ [])
    ∷ (row t 3 0 ∷ row t 3 1 ∷ row t 3 2 ∷ row t 3 3 ∷ row t 3 4 ∷ [])
    ∷ (row t 3 0 ∷ row t 3 1 ∷ row t 3 2 ∷ row t 3 3 ∷ row t 3 4 ∷ row t 3 5 ∷ [])
    ∷ []

-- one line and three, one pixel wide
abbrev pub margins : WidthTable → List (List Line)
margins t = (row t 1 0 ∷ []) ∷ (row t 1 0 ∷ row t 1 1 ∷ row t 1 2 ∷ []) ∷ []

-- the lines of each strip, by call
pub by_call :
    map (run worked 3 Zero nothing) (strips worked) ++ map (run worked 1 Zero nothing) (margins worked)
    ≡ ([] ∷ ((negsuc 73 ∷ pos 73 ∷ pos 542 ∷ []) ∷ []) ∷ [])
    ∷ ([] ∷ [] ∷ ((negsuc 40 ∷ pos 167 ∷ pos 509 ∷ []) ∷ (pos 31 ∷ pos 31 ∷ negsuc 32 ∷ []) ∷ []) ∷ [])
    ∷ ([] ∷ [] ∷ [] ∷ ((negsuc 139 ∷ pos 215 ∷ pos 559 ∷ []) ∷ (negsuc 46 ∷ pos 70 ∷ negsuc 22 ∷ []) ∷ (pos 371 ∷ negsuc 35 ∷ pos 299 ∷ []) ∷ []) ∷ [])
    ∷ ([] ∷ [] ∷ [] ∷ [] ∷ ((negsuc 94 ∷ pos 198 ∷ pos 549 ∷ []) ∷ (negsuc 27 ∷ pos 63 ∷ negsuc 23 ∷ []) ∷ (pos 221 ∷ negsuc 3 ∷ pos 282 ∷ []) ∷ (negsuc 242 ∷ pos 121 ∷ negsuc 21 ∷ []) ∷ []) ∷ [])
    ∷ ([] ∷ [] ∷ [] ∷ [] ∷ ((negsuc 131 ∷ pos 190 ∷ pos 498 ∷ []) ∷ (negsuc 43 ∷ pos 59 ∷ negsuc 28 ∷ []) ∷ []) ∷ ((pos 296 ∷ pos 0 ∷ pos 351 ∷ []) ∷ (negsuc 123 ∷ pos 137 ∷ pos 12 ∷ []) ∷ (negsuc 336 ∷ negsuc 66 ∷ negsuc 314 ∷ []) ∷ []) ∷ [])
    ∷ ([] ∷ [] ∷ [] ∷ [] ∷ ((negsuc 131 ∷ pos 190 ∷ pos 498 ∷ []) ∷ (negsuc 43 ∷ pos 59 ∷ negsuc 28 ∷ []) ∷ []) ∷ [] ∷ ((pos 279 ∷ negsuc 2 ∷ pos 332 ∷ []) ∷ (negsuc 137 ∷ pos 135 ∷ pos 8 ∷ []) ∷ (negsuc 278 ∷ negsuc 79 ∷ negsuc 347 ∷ []) ∷ (negsuc 22 ∷ pos 136 ∷ pos 20 ∷ []) ∷ []) ∷ [])
    ∷ ([] ∷ ((negsuc 255 ∷ []) ∷ []) ∷ [])
    ∷ ([] ∷ [] ∷ [] ∷ ((negsuc 74 ∷ []) ∷ (pos 135 ∷ []) ∷ (pos 72 ∷ []) ∷ []) ∷ [])
    ∷ []
unfolding run nothing held_after line_gives end_gives S.new_p1 S.new_u1 S.new_p2 S.new_u2 S.last_p2 S.last_u2 S.odd_u1 S.odd_p2 S.odd_u2 S.line_p1 S.line_u1 S.line_p2 S.line_u2 S.line_g1 S.line_g2 S.line_single tabulate fixed_line X.fixed_pass X.fixed_long from_one X.at_p1 X.at_u1 X.at_p2 X.at_u2 X.at_g1 X.at_g2 product_of F.step F.cut_product F.scale F.cut F.nearest lows_first on_highs on_lows low_after high_before high_after sample
by_call = refl

-- the whole transform of each strip, the lines in turn
pub whole :
    map (λ h. first_lines worked (take (3 * h) pixels) 3 h h) (1 ∷ 2 ∷ 3 ∷ 4 ∷ 5 ∷ 6 ∷ []) ++ map (λ h. first_lines worked (take h pixels) 1 h h) (1 ∷ 3 ∷ [])
    ≡ (negsuc 73 ∷ pos 73 ∷ pos 542 ∷ [])
    ∷ (negsuc 40 ∷ pos 167 ∷ pos 509 ∷ pos 31 ∷ pos 31 ∷ negsuc 32 ∷ [])
    ∷ (negsuc 139 ∷ pos 215 ∷ pos 559 ∷ negsuc 46 ∷ pos 70 ∷ negsuc 22 ∷ pos 371 ∷ negsuc 35 ∷ pos 299 ∷ [])
    ∷ (negsuc 94 ∷ pos 198 ∷ pos 549 ∷ negsuc 27 ∷ pos 63 ∷ negsuc 23 ∷ pos 221 ∷ negsuc 3 ∷ pos 282 ∷ negsuc 242 ∷ pos 121 ∷ negsuc 21 ∷ [])
    ∷ (negsuc 131 ∷ pos 190 ∷ pos 498 ∷ negsuc 43 ∷ pos 59 ∷ negsuc 28 ∷ pos 296 ∷ pos 0 ∷ pos 351 ∷ negsuc 123 ∷ pos 137 ∷ pos 12 ∷ negsuc 336 ∷ negsuc 66 ∷ negsuc 314 ∷ [])
    ∷ (negsuc 131 ∷ pos 190 ∷ pos 498 ∷ negsuc 43 ∷ pos 59 ∷ negsuc 28 ∷ pos 279 ∷ negsuc 2 ∷ pos 332 ∷ negsuc 137 ∷ pos 135 ∷ pos 8 ∷ negsuc 278 ∷ negsuc 79 ∷ negsuc 347 ∷ negsuc 22 ∷ pos 136 ∷ pos 20 ∷ [])
    ∷ (negsuc 255 ∷ [])
    ∷ (negsuc 74 ∷ pos 135 ∷ pos 72 ∷ [])
    ∷ []
unfolding in_turn interleaved fixed_plane fixed_after levels level_rows_first within columns rows side row_by_row tabulate fixed_line X.fixed_pass X.fixed_long from_one X.at_p1 X.at_u1 X.at_p2 X.at_u2 X.at_g1 X.at_g2 product_of F.step F.cut_product F.scale F.cut F.nearest lows_first on_highs on_lows low_after high_before high_after sample
whole = refl

-- with tag 5, by call
pub tagged_by_call :
    map (run tagged 3 Zero nothing) (strips tagged) ++ map (run tagged 1 Zero nothing) (margins tagged)
    ≡ ([] ∷ ((negsuc 79 ∷ pos 67 ∷ pos 541 ∷ []) ∷ []) ∷ [])
    ∷ ([] ∷ [] ∷ ((negsuc 128 ∷ pos 77 ∷ negsuc 367 ∷ []) ∷ (pos 15 ∷ pos 16 ∷ negsuc 56 ∷ []) ∷ []) ∷ [])
    ∷ ([] ∷ [] ∷ [] ∷ ((negsuc 275 ∷ pos 114 ∷ negsuc 412 ∷ []) ∷ (negsuc 68 ∷ pos 55 ∷ negsuc 44 ∷ []) ∷ (pos 233 ∷ negsuc 137 ∷ negsuc 675 ∷ []) ∷ []) ∷ [])
    ∷ ([] ∷ [] ∷ [] ∷ [] ∷ ((negsuc 201 ∷ pos 114 ∷ negsuc 412 ∷ []) ∷ (negsuc 40 ∷ pos 55 ∷ negsuc 44 ∷ []) ∷ (pos 160 ∷ negsuc 100 ∷ negsuc 689 ∷ []) ∷ (negsuc 248 ∷ pos 110 ∷ negsuc 47 ∷ []) ∷ []) ∷ [])
    ∷ ([] ∷ [] ∷ [] ∷ [] ∷ ((negsuc 201 ∷ pos 114 ∷ negsuc 412 ∷ []) ∷ (negsuc 54 ∷ pos 55 ∷ negsuc 44 ∷ []) ∷ []) ∷ ((pos 252 ∷ negsuc 100 ∷ negsuc 754 ∷ []) ∷ (negsuc 126 ∷ pos 127 ∷ negsuc 13 ∷ []) ∷ (negsuc 422 ∷ negsuc 113 ∷ negsuc 1612 ∷ []) ∷ []) ∷ [])
    ∷ ([] ∷ [] ∷ [] ∷ [] ∷ ((negsuc 201 ∷ pos 114 ∷ negsuc 412 ∷ []) ∷ (negsuc 54 ∷ pos 55 ∷ negsuc 44 ∷ []) ∷ []) ∷ [] ∷ ((pos 178 ∷ negsuc 100 ∷ negsuc 754 ∷ []) ∷ (negsuc 154 ∷ pos 127 ∷ negsuc 13 ∷ []) ∷ (negsuc 404 ∷ negsuc 113 ∷ negsuc 484 ∷ []) ∷ (negsuc 42 ∷ pos 124 ∷ pos 17 ∷ []) ∷ []) ∷ [])
    ∷ ([] ∷ ((negsuc 255 ∷ []) ∷ []) ∷ [])
    ∷ ([] ∷ [] ∷ [] ∷ ((negsuc 183 ∷ []) ∷ (pos 125 ∷ []) ∷ (negsuc 36 ∷ []) ∷ []) ∷ [])
    ∷ []
unfolding run nothing held_after line_gives end_gives S.new_p1 S.new_u1 S.new_p2 S.new_u2 S.last_p2 S.last_u2 S.odd_u1 S.odd_p2 S.odd_u2 S.line_p1 S.line_u1 S.line_p2 S.line_u2 S.line_g1 S.line_g2 S.line_single tabulate fixed_line X.fixed_pass X.fixed_long from_one X.at_p1 X.at_u1 X.at_p2 X.at_u2 X.at_g1 X.at_g2 product_of F.step F.cut_product F.scale F.cut F.nearest lows_first on_highs on_lows low_after high_before high_after sample
tagged_by_call = refl

-- and whole
pub tagged_whole :
    map (λ h. first_lines tagged (take (3 * h) pixels) 3 h h) (1 ∷ 2 ∷ 3 ∷ 4 ∷ 5 ∷ 6 ∷ []) ++ map (λ h. first_lines tagged (take h pixels) 1 h h) (1 ∷ 3 ∷ [])
    ≡ (negsuc 79 ∷ pos 67 ∷ pos 541 ∷ [])
    ∷ (negsuc 128 ∷ pos 77 ∷ negsuc 367 ∷ pos 15 ∷ pos 16 ∷ negsuc 56 ∷ [])
    ∷ (negsuc 275 ∷ pos 114 ∷ negsuc 412 ∷ negsuc 68 ∷ pos 55 ∷ negsuc 44 ∷ pos 233 ∷ negsuc 137 ∷ negsuc 675 ∷ [])
    ∷ (negsuc 201 ∷ pos 114 ∷ negsuc 412 ∷ negsuc 40 ∷ pos 55 ∷ negsuc 44 ∷ pos 160 ∷ negsuc 100 ∷ negsuc 689 ∷ negsuc 248 ∷ pos 110 ∷ negsuc 47 ∷ [])
    ∷ (negsuc 201 ∷ pos 114 ∷ negsuc 412 ∷ negsuc 54 ∷ pos 55 ∷ negsuc 44 ∷ pos 252 ∷ negsuc 100 ∷ negsuc 754 ∷ negsuc 126 ∷ pos 127 ∷ negsuc 13 ∷ negsuc 422 ∷ negsuc 113 ∷ negsuc 1612 ∷ [])
    ∷ (negsuc 201 ∷ pos 114 ∷ negsuc 412 ∷ negsuc 54 ∷ pos 55 ∷ negsuc 44 ∷ pos 178 ∷ negsuc 100 ∷ negsuc 754 ∷ negsuc 154 ∷ pos 127 ∷ negsuc 13 ∷ negsuc 404 ∷ negsuc 113 ∷ negsuc 484 ∷ negsuc 42 ∷ pos 124 ∷ pos 17 ∷ [])
    ∷ (negsuc 255 ∷ [])
    ∷ (negsuc 183 ∷ pos 125 ∷ negsuc 36 ∷ [])
    ∷ []
unfolding in_turn interleaved fixed_plane fixed_after levels level_rows_first within columns rows side row_by_row tabulate fixed_line X.fixed_pass X.fixed_long from_one X.at_p1 X.at_u1 X.at_p2 X.at_u2 X.at_g1 X.at_g2 product_of F.step F.cut_product F.scale F.cut F.nearest lows_first on_highs on_lows low_after high_before high_after sample
tagged_whole = refl

-- The two orders are two: document 01's listing, as it was and as document 02, job 4, has it, and each copy given to the other's way back.
use Rattle.std.specs.Prelude.{ℕ, List, [], ◌∷◌, ◌≡◌, refl, ℤ, pos, negsuc}
use Rattle.numbers.specs.Tests.{every}
use Rattle.lines.specs.Lines.{low_after, high_before, high_after, on_highs, on_lows, lows_first, interleaved}
use Rattle.lines.specs.Planes.{from_one, tabulate, row_by_row, rows, columns, within, side, level_rows_first, level_columns_first, levels, inverse_levels}
use Rattle.refusals.specs.Answers.{refused}
use Rattle.pictures.specs.Pictures.{side_answer, length_answer, pixel_answer, sample}
use Rattle.reversible.specs.Reversible.{columns_first, rows_first, predict, update, high, low, reversible_long, reversible_pass, forward, inverse_predict, inverse_update, low_inverse, high_inverse, inverse_long, inverse_pass, inverse}
use Rattle.reversible.specs.Calls.{forward_answer, forward_plane, pixels_back, has_picture, back_allowed, back_answer, back_pixels}

-- the picture 5 7 over 4 4, of three bits
abbrev picture : List ℕ
picture = 5 ∷ 7 ∷ 4 ∷ 4 ∷ []

-- its copy, one level, columns before rows: 2 1 over -2 -2
abbrev new_copy : List ℤ
new_copy = pos 2 ∷ pos 1 ∷ negsuc 1 ∷ negsuc 1 ∷ []

-- and rows before columns: 1 1 over -2 -2
abbrev earlier_copy : List ℤ
earlier_copy = pos 1 ∷ pos 1 ∷ negsuc 1 ∷ negsuc 1 ∷ []

-- lent memory
abbrev blank : List ℤ
blank = pos 0 ∷ pos 0 ∷ pos 0 ∷ pos 0 ∷ []

abbrev white : List ℕ
white = 0 ∷ 0 ∷ 0 ∷ 0 ∷ []

pub record TwoOrders : Type 0 where
  pub copied : forward_plane columns_first 3 1 2 2 picture blank blank ≡ new_copy
  pub copied_earlier : forward_plane rows_first 3 1 2 2 picture blank blank ≡ earlier_copy
  -- each goes back by its own call
  pub restored : back_pixels columns_first 3 1 2 2 new_copy white blank ≡ picture
  pub restored_earlier : back_pixels rows_first 3 1 2 2 earlier_copy white blank ≡ picture
  -- the new copy is refused 11 by the earlier copies' call
  pub new_by_earlier : back_answer rows_first 3 1 2 2 new_copy white blank ≡ refused (11, [])
  -- the new copies' call takes the earlier copy for another picture: 4 6 over 3 3
  pub earlier_by_new : back_pixels columns_first 3 1 2 2 earlier_copy white blank ≡ 4 ∷ 6 ∷ 3 ∷ 3 ∷ []

pub two_orders : TwoOrders
unfolding forward_answer forward_plane pixels_back has_picture back_allowed back_answer back_pixels side_answer length_answer pixel_answer sample every tabulate row_by_row rows columns within side level_rows_first level_columns_first levels inverse_levels from_one reversible_pass reversible_long low high predict update forward inverse_predict inverse_update low_inverse high_inverse inverse_pass inverse_long inverse on_highs on_lows low_after high_before high_after lows_first interleaved
two_orders = record { copied = refl; copied_earlier = refl; restored = refl; restored_earlier = refl; new_by_earlier = refl; earlier_by_new = refl }

-- Document 01's listing, as document 02 has it, and a refusal of each number that the program gives.
use Rattle.std.specs.Prelude.{ℕ, ◌+◌, List, [], ◌∷◌, map, ◌≡◌, refl}
use Rattle.numbers.specs.Tests.{every}
use Rattle.lines.specs.Lines.{low_after, high_before, high_after, on_highs, on_lows, lows_first}
use Rattle.lines.specs.Planes.{from_one, tabulate, rows, columns, within, side, level_columns_first, levels}
use Rattle.pictures.specs.Pictures.{pixel_answer, sample}
use Rattle.reversible.specs.Reversible.{predict, update, high, low, reversible_long, reversible_pass, forward}
use Rattle.listing.specs.Listing.{digits, decimal, line, row_lines, refused_line, pairs, copy_pixels, copy_form, copy_answer, copy_lines, copy_text}

-- 3 1, 2 2, 5 7 4 4 gives "53 3 1 2 2", "2 1", "-2 -2" (document 02, job 4)
pub document : copy_text (3 ∷ 1 ∷ 0 ∷ 2 ∷ 0 ∷ 2 ∷ 0 ∷ 5 ∷ 0 ∷ 7 ∷ 0 ∷ 4 ∷ 0 ∷ 4 ∷ [])
    ≡ 53 ∷ 51 ∷ 32 ∷ 51 ∷ 32 ∷ 49 ∷ 32 ∷ 50 ∷ 32 ∷ 50 ∷ 10 ∷ 50 ∷ 32 ∷ 49 ∷ 10 ∷ 45 ∷ 50 ∷ 32 ∷ 45 ∷ 50 ∷ 10 ∷ []
unfolding copy_text copy_lines copy_answer copy_form pixel_answer copy_pixels pairs refused_line row_lines line decimal digits every forward levels level_columns_first within rows columns side sample reversible_pass reversible_long from_one low high on_highs on_lows low_after high_before high_after lows_first predict update tabulate
document = refl

-- One sample across (document 02, job 6): 3 2, 1 3, 5 7 4 gives "53 3 2 1 3", "3", "-1", "3"; and one sample, 3 5, 1 1, 5, gives
-- "53 3 5 1 1", "1".
pub one_across :
    map copy_text (
    (3 ∷ 2 ∷ 0 ∷ 1 ∷ 0 ∷ 3 ∷ 0 ∷ 5 ∷ 0 ∷ 7 ∷ 0 ∷ 4 ∷ [])
    ∷ (3 ∷ 5 ∷ 0 ∷ 1 ∷ 0 ∷ 1 ∷ 0 ∷ 5 ∷ [])
    ∷ [])
    ≡ (53 ∷ 51 ∷ 32 ∷ 51 ∷ 32 ∷ 50 ∷ 32 ∷ 49 ∷ 32 ∷ 51 ∷ 10 ∷ 51 ∷ 10 ∷ 45 ∷ 49 ∷ 10 ∷ 51 ∷ 10 ∷ [])
    ∷ (53 ∷ 51 ∷ 32 ∷ 51 ∷ 32 ∷ 53 ∷ 32 ∷ 49 ∷ 32 ∷ 49 ∷ 10 ∷ 49 ∷ 10 ∷ [])
    ∷ []
unfolding copy_text copy_lines copy_answer copy_form pixel_answer copy_pixels pairs refused_line row_lines line decimal digits every forward levels level_columns_first within rows columns side sample reversible_pass reversible_long from_one low high on_highs on_lows low_after high_before high_after lows_first predict update tabulate
one_across = refl

-- "refused", a space, the number and the line's end
abbrev refused_by : List ℕ → List ℕ
refused_by n = 114 ∷ 101 ∷ 102 ∷ 117 ∷ 115 ∷ 101 ∷ 100 ∷ 32 ∷ n

abbrev one : ℕ → List ℕ
one n = refused_by ((48 + n) ∷ 10 ∷ [])

-- Five bytes of zero (1, not 4); depth 0 (4); a side of 0 (8); 64 x 65 with no pixels (9, not 1);
-- one pixel of four (1); a pixel of 2^B in a body that is a byte too long (5, not 10); that pixel in a body of the right length (10).
pub refusals :
    map copy_text (
    (0 ∷ 0 ∷ 0 ∷ 0 ∷ 0 ∷ [])
    ∷ (0 ∷ 1 ∷ 0 ∷ 1 ∷ 0 ∷ 1 ∷ [])
    ∷ (8 ∷ 5 ∷ 0 ∷ 0 ∷ 0 ∷ 17 ∷ [])
    ∷ (8 ∷ 1 ∷ 0 ∷ 64 ∷ 0 ∷ 65 ∷ [])
    ∷ (8 ∷ 1 ∷ 0 ∷ 2 ∷ 0 ∷ 2 ∷ 1 ∷ 0 ∷ [])
    ∷ (8 ∷ 1 ∷ 0 ∷ 2 ∷ 0 ∷ 2 ∷ 1 ∷ 0 ∷ 0 ∷ 0 ∷ 0 ∷ 0 ∷ 0 ∷ 0 ∷ 0 ∷ [])
    ∷ (8 ∷ 1 ∷ 0 ∷ 2 ∷ 0 ∷ 2 ∷ 0 ∷ 0 ∷ 0 ∷ 0 ∷ 0 ∷ 0 ∷ 1 ∷ 0 ∷ [])
    ∷ [])
    ≡ one 1 ∷ one 4 ∷ one 8 ∷ one 9 ∷ one 1 ∷ one 5 ∷ refused_by (49 ∷ 48 ∷ 10 ∷ []) ∷ []
unfolding copy_text copy_lines copy_answer copy_form pixel_answer copy_pixels pairs refused_line line decimal digits every
refusals = refl

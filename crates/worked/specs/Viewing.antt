-- Worked lines, planes and widths, by computation; a call that is done; a picture, and what is stored of it. So nothing that the
-- claims ask for is empty.
use Rattle.std.specs.Prelude.{ℕ, ◌+◌, ◌*◌, ◌/◌, ◌^◌, List, [], ◌∷◌, ◌++◌, ◌≡◌, refl, ℤ, pos, neg_ℤ, get_or}
use Rattle.std.proofs.Common.{ap, lit≤}
use Rattle.numbers.specs.Tests.{every}
use Rattle.refusals.specs.Answers.{passed, refused}
use Rattle.lines.specs.Lines.{low_after, high_before, high_after, on_highs, on_lows, interleaved}
use Rattle.lines.specs.Planes.{Plane, from_one, rows, columns, within, side, level_columns_first, inverse_levels, tabulate, row_by_row}
use Rattle.stages.specs.Fixed.{nearest, cut, scale}
use Rattle.pictures.specs.Pictures.{plane_of}
use Rattle.pictures.specs.PictureLaws.{pixel_below}
use Rattle.inverse_lifting.specs.Fixed.{inverse_step, at_g1, at_g2, at_u2, at_p2, at_u1, at_p1, fixed_inverse_long, fixed_inverse}
use Rattle.irreversible.specs.Claims.{Picture}
use Rattle.table_meaning.specs.Subbands.{kept_node}
use Rattle.worked.specs.ViewTables.{with_kept, uniform}
use Rattle.worked.specs.ViewPrecision.{level_1, fine_distance}
use Rattle.irreversible.specs.Transforms.{fixed_plane}
use Rattle.viewing.specs.View.{grey, pixel, view_line, view_from, view_plane, view_picture}
use Rattle.viewing.specs.Calls.{in_width, coefficients_right, view_answer}
use Rattle.viewing.specs.Claims.{Stored, greys_apart}
use Rattle.viewing.proofs.Viewing.{view_accepted}
use Rattle.viewing.proofs.CallLaws.{held_done, call_done}
use Rattle.viewing.proofs.Forward.{forward_stored}

-- ---- a line of three: lows 3, -2 at 2 bits, high 5 at 3 bits; a line of two

abbrev values : List ℤ → ℕ → ℤ
values l k = get_or l k (pos 0)

pub lines_back :
    tabulate 3 (fixed_inverse 2 3 3 (values (pos 3 ∷ neg_ℤ (pos 2) ∷ pos 5 ∷ []))) ++ tabulate 2 (fixed_inverse 0 0 2 (values (pos 1 ∷ neg_ℤ (pos 1) ∷ [])))
    ≡ pos 199346 ∷ pos 556087 ∷ neg_ℤ (pos 940803) ∷ pos 1482909 ∷ neg_ℤ (pos 5) ∷ []
unfolding tabulate fixed_inverse fixed_inverse_long from_one interleaved at_g1 at_g2 at_u2 at_p2 at_u1 at_p1 on_highs on_lows low_after high_before high_after inverse_step scale cut nearest
lines_back = refl

-- ---- planes before rounding, and as shown at depth 8

abbrev first : List ℤ
first = pos 1 ∷ neg_ℤ (pos 3) ∷ pos 2 ∷ pos 0 ∷ pos 5 ∷ neg_ℤ (pos 4) ∷ []

-- one level, 3 columns and 2 rows
pub one_level : row_by_row 3 2 (view_plane (uniform 8 1 4) 3 2 (plane_of 3 first)) ≡ neg_ℤ (pos 519599) ∷ pos 327673 ∷ neg_ℤ (pos 1970772) ∷ pos 378133 ∷ neg_ℤ (pos 65546) ∷ pos 539372 ∷ []
unfolding row_by_row tabulate view_plane view_from inverse_levels level_columns_first view_line within rows columns side fixed_inverse fixed_inverse_long from_one interleaved at_g1 at_g2 at_u2 at_p2 at_u1 at_p1 on_highs on_lows low_after high_before high_after inverse_step scale cut nearest
one_level = refl

pub one_level_shown : row_by_row 3 2 (view_picture (uniform 8 1 4) 3 2 (plane_of 3 first)) ≡ 1 ∷ 208 ∷ 0 ∷ 220 ∷ 112 ∷ 255 ∷ []
unfolding view_picture pixel grey row_by_row tabulate view_plane view_from inverse_levels level_columns_first view_line within rows columns side fixed_inverse fixed_inverse_long from_one interleaved at_g1 at_g2 at_u2 at_p2 at_u1 at_p1 on_highs on_lows low_after high_before high_after inverse_step scale cut nearest
one_level_shown = refl

abbrev second : Plane ℤ
second = plane_of 3 (pos 7 ∷ neg_ℤ (pos 3) ∷ pos 2 ∷ pos 1 ∷ pos 5 ∷ neg_ℤ (pos 4) ∷ neg_ℤ (pos 6) ∷ pos 0 ∷ pos 3 ∷ [])

-- two levels, 3 columns and 3 rows, at row 0 and column 2
pub two_levels_shown : view_picture (uniform 8 2 5) 3 3 second 0 2 ≡ 28
unfolding view_picture pixel grey view_plane view_from inverse_levels level_columns_first view_line within rows columns side fixed_inverse fixed_inverse_long from_one interleaved at_g1 at_g2 at_u2 at_p2 at_u1 at_p1 on_highs on_lows low_after high_before high_after inverse_step scale cut nearest
two_levels_shown = refl

-- ---- 12: at 4 integer and 2 fractional bits, -32 to 31

abbrev one_coefficient : ℤ → List ℤ
one_coefficient v = pos 0 ∷ pos 0 ∷ pos 0 ∷ v ∷ []

pub width_judged :
    coefficients_right (uniform 8 1 4) 2 2 (one_coefficient (pos 31)) ∷ coefficients_right (uniform 8 1 4) 2 2 (one_coefficient (pos 32)) ∷ coefficients_right (uniform 8 1 4) 2 2 (one_coefficient (neg_ℤ (pos 32))) ∷ coefficients_right (uniform 8 1 4) 2 2 (one_coefficient (neg_ℤ (pos 33))) ∷ []
    ≡ passed ∷ refused (12, []) ∷ passed ∷ refused (12, []) ∷ []
unfolding coefficients_right every row_by_row tabulate in_width kept_node side
width_judged = refl

pub first_held : coefficients_right (uniform 8 1 4) 3 2 first ≡ passed
unfolding coefficients_right every row_by_row tabulate in_width kept_node side
first_held = refl

pub first_stored : Stored (uniform 8 1 4) 3 2 (plane_of 3 first)
first_stored = held_done (uniform 8 1 4) 3 2 first (lit≤ tt, lit≤ tt) (lit≤ tt, lit≤ tt) first_held

-- a call that is done
pub first_viewed : view_answer (uniform 8 1 4) 3 2 first (0 ∷ 0 ∷ 0 ∷ 0 ∷ 0 ∷ 0 ∷ []) first ≡ passed
first_viewed = call_done (uniform 8 1 4) 3 2 first (0 ∷ 0 ∷ 0 ∷ 0 ∷ 0 ∷ 0 ∷ []) first level_1 (record { wide = (lit≤ tt, lit≤ tt); tall = (lit≤ tt, lit≤ tt); first = lit≤ tt; second = lit≤ tt; third = lit≤ tt }) first_stored

-- ---- a picture, and what is stored of it

abbrev scan : List ℕ
scan = 0 ∷ 255 ∷ 128 ∷ 7 ∷ 200 ∷ 31 ∷ []

pub scan_picture : Picture (uniform 8 1 4) scan 3 2
unfolding every
scan_picture = record { width = (lit≤ tt, lit≤ tt); height = (lit≤ tt, lit≤ tt); depth = pixel_below 8 3 2 scan (lit≤ tt) tt }

pub scan_stored : Stored (uniform 8 1 4) 3 2 (fixed_plane (uniform 8 1 4) scan 3 2)
scan_stored = forward_stored (uniform 8 1 4) scan 3 2 (view_accepted (uniform 8 1 4) level_1) scan_picture (fixed_plane (uniform 8 1 4) scan 3 2) (λ r c i j. refl)

-- ---- scan, store, view: under this table every scan is shown as it was scanned

pub no_grey : greys_apart (with_kept 14 8 1 4) ≡ 0
unfolding greys_apart
no_grey = ap (λ (d : ℕ). (d * 2 ^ 8 + 2 ^ 31) / 2 ^ 32) fine_distance

-- The claims over the calls of a rolling scan (document 02, jobs 5 and 6).
--   Claims      from the start, with scan and held memory handed on as left
--   Column      one column: what is held after n lines, and what comes out, are values of the column's pass
--   LineOrder   the transform of a strip, its lines in turn
--   History     facts: what holds after any calls, by induction over them
--   NearLaws    demand 3 of a strip's lines in turn
--   NotFourteen rules that never answer 14
--   Theorems    the claims, proved: ready_lines, before_end, after_end, counts, one_width, begin_fourteen, fourteen, refused_keeps,
--               sound_left, in_widths, near_before_end, near_after_end
--   Examples    worked strips of 1 to 6 lines, and some one pixel wide, by computation, without and with widths of products
--   Satisfiable  the promises can be kept, and every strip can be scanned
pub mod Claims
pub mod Column
pub mod LineOrder
pub mod History
pub mod NearLaws
pub mod NotFourteen
pub mod Theorems
pub mod Examples
pub mod Satisfiable

-- The precision analysis of viewing (document 02, jobs 1 and 6).
--   Bounds     range and error of each node of the inverse, the pixel bound, refusal 13; the distance from scan to view
--   LongLines  the bounds of a pass on lines of two values or more
-- Proved of them:
--   Odd        odd_larger : what a pass gives on is the larger of the odd output and the low input
--   LongLaws   gives_more : on lines of two values or more a pass gives on no more
--   Products   job 7: of the table viewing takes depth, levels and the kept nodes' widths alone (products_no_matter)
-- For the program:
--   Places     stages, sources of errors and bounds by number
--   PlaceLaws  these are the bounds of Bounds
--   SizeLaws   they fit in 64 bits; what a pass gives on is small where what feeds it is small
--   LevelLaws  what the program has after some levels, and its two answers
pub mod Bounds
pub mod Odd
pub mod LongLines
pub mod LongLaws
pub mod Products
pub mod Places
pub mod PlaceLaws
pub mod SizeLaws
pub mod LevelLaws

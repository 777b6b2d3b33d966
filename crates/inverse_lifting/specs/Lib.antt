-- The inverse 9/7 lifting in fixed point (document 02, jobs 1 and 6), in 64-bit values.
--
-- Definitions:
--   Fixed      the fixed-point inverse of one line
--   Cases      the same by cases, ends apart from the middle
--   Strips     where the columns of a plane come from and go to (`source`, `inverted`); what the steps of a strip ask and leave
-- Proved of them:
--   CaseLaws   back_is: the inverse by cases is the inverse
--   Steps      a line inverted step by step, its four stages together as a pipeline
--   Examples   worked lines
-- For the code:
--   Planes     the rows of a plane in memory, and what keeps the machine's numbers in 64 bits
--   Stages     a stage as it is worked with 64-bit numbers, and the constants
--   Single     a single value, and two or more
--   Rows       a row's steps; rows of a single value
--   Columns    a step of the columns of a strip, side by side
--   StripSteps, StripLoop   a strip's steps on the plane and the work area, one after the other
pub mod Fixed
pub mod Cases
pub mod Planes
pub mod Stages
pub mod Single
pub mod CaseLaws
pub mod Steps
pub mod Rows
pub mod Columns
pub mod Strips
pub mod StripSteps
pub mod StripLoop
pub mod Examples

-- The exact 9/7 transform (document 01: the exact transform), in fractions.
--   Fractions  a whole number over a whole number above zero; compared with the denominators multiplied out
--   Exact      the constants, and the lifting of one line
--   Picture    a picture's samples, and its exact plane
--   Inverse    the exact inverse of a line and of a plane
--   Cases      both by cases, ends apart from the middle (source document 003, equations 2 to 4)
-- Proved of them:
--   FracLaws   laws of fractions
pub mod Fractions
pub mod Exact
pub mod Picture
pub mod Inverse
pub mod Cases
pub mod FracLaws

-- Pictures in memory (document 01: pictures and planes).
--   Pictures   samples of a picture, and refusals 8, 9 and 10 of the transforms' calls
-- Proved of them:
--   PictureLaws   what these refusals say where they are not given
--   PixelLaws     these refusals as the code of src/ finds them
--   RangeChecks   what a look over values tells
--   MemoryLaws    a plane in memory while passes work its rows and columns
pub mod Pictures
pub mod PictureLaws
pub mod PixelLaws
pub mod MemoryLaws
pub mod RangeChecks

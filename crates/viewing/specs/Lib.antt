-- Viewing a stored strip (document 02, job 1).
--
-- Definitions (with those of numbers, refusals, lines, exact, stages, inverse_lifting, width_table, pictures, precision, view_precision and
-- irreversible, all that the claims rest on):
--   View       the plane before rounding, the picture, the exact inverse of what was stored
--   Calls      the viewing call: the answer, and each lent slice afterwards
--   Claims     WithinBound, Sizes, OneGrey, ScanToView, GreysApart
-- Proofs: Pass (by the rule of the crate stages, which is sound) leads to Level, and Level to Viewing of proofs/, where the claims are proved.
-- For the proofs of the code:
--   Words      every value that a level takes or leaves is at most 2^15
--   WidthLaws  refusal 12, subband by subband
--   PixelSteps a pixel below the depth, above it or inside
--   LevelSteps a level in memory: level_at, level_safe
--   RowSteps   the rows of the first level, each inverted, shown and cleared
--   CallSteps  what the steps of the call ask of each other
pub mod View
pub mod Calls
pub mod Claims
pub mod Pass
pub mod Level
pub mod Words
pub mod WidthLaws
pub mod PixelSteps
pub mod LevelSteps
pub mod RowSteps
pub mod CallSteps

-- Lifting on line buffers: what the code of src/ does to the contents of slices, as functions of the place.
--   Steps      one lifting step on unlimited integers, and what keeps the machine's step inside its types
--   Forms      the steps and the scaling in biased forms, by their numbers
--   SafeRuns   the same at each place of a run
--   Made       what a function makes of the places of a run
--   Passes, Kernels   a pass over a line, over rows and over columns of a plane
--   Buffers    a step at each high or low of the columns of a line buffer; a line buffer filled with lines; a row
-- Proved of them:
--   BufferRuns a step at a line buffer's highs or lows by runs
--   Bias       steps and scalings by unsigned numbers
--   BiasedCut  the same of steps whose product is cut first
--   Ends       the reduced equations at an end of a line are the step there
--   Strips     a strip's lines, worked on their way out of the line buffer
--   PixelLaws  a kernel reads its line's own values only; lines of pixels
pub mod Steps
pub mod Forms
pub mod SafeRuns
pub mod Made
pub mod Passes
pub mod Buffers
pub mod Kernels
pub mod Bias
pub mod BiasedCut
pub mod Ends
pub mod Strips
pub mod PixelLaws
pub mod BufferRuns

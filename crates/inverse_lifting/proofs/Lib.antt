-- Proved of what several functions do:
--   Chain   the stages of a step, one after the other
pub mod Chain

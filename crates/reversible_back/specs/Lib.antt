-- The way back of the reversible 5/3 transform, for the proofs of its code. What it gives is defined and claimed in reversible: Reversible,
-- Calls and Claims.
--   Orders           the order as the code names it
--   Sizes            the kernel of the code is the inverse pass; how large its values become
--   LevelLaws        a level back in memory, in either order
--   LoopLaws         levels one after another in memory
--   Preconditions    what the functions ask of their callers
--   BackLaws         what the looks of the way back tell
--   FoundLaws        its end: whether pixels came out, and what is written
--   AnswerLaws       the order of refusals, step by step
pub mod Orders
pub mod Sizes
pub mod LevelLaws
pub mod LoopLaws
pub mod Preconditions
pub mod BackLaws
pub mod FoundLaws
pub mod AnswerLaws

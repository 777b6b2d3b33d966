-- The reversible 5/3 transform (document 01: the lifting; the exact copy).
--   Reversible       the transform of a plane, and its way back, in either order of rows and columns
--   Cases            the same by cases, ends apart from the middle (source document 004, equations 1, 2 and 4 to 6)
--   Calls            the forward call and the back call: the answer, and each lent slice afterwards
--   Claims           what holds of exact copies: return, uniqueness, and when the way back is done or refused 11
-- Proved of them:
--   ReversibleLaws   forward_back, back_forward: each inverts the other, in either order
--   TwoOrders        worked copies: the two orders are two
-- For the proofs of the code, which is that of the forward call; the way back is the crate reversible_back:
--   Sizes            the kernel of the code is the pass; how large its values become
--   Columns          the columns of a picture, line by line into the plane
--   LevelLaws        a level in memory
--   LoopLaws         what levels one after another in memory have done
--   Preconditions    what the functions ask of their callers
--   StepLaws         samples in, levels, the work area cleared
--   AnswerLaws       the order of refusals, step by step, and when a call is allowed
pub mod Reversible
pub mod Cases
pub mod Calls
pub mod Claims
pub mod ReversibleLaws
pub mod Sizes
pub mod LevelLaws
pub mod Columns
pub mod LoopLaws
pub mod Preconditions
pub mod StepLaws
pub mod AnswerLaws
pub mod TwoOrders

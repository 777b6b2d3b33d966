-- The rolling scan (document 02, job 5): a one-level 9/7 transform whose lines come one by one. The order in which its lines are worked is
-- defined in rolling_lines, Schedule, and what the lent lines hold in LentLines there.
--   Calls        the calls: the answer, the scan and each lent slice afterwards
-- For the code:
--   AnswerLaws   what the answers of the calls say, and what a call leaves
pub mod Calls
pub mod AnswerLaws

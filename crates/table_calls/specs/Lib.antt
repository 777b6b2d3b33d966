-- Calls that take a width table as its bytes.
--
-- Definitions:
--   Calls     any such call, the judge and 9/7 forward: the form of the bytes, then the call's own answer; and what is lent afterwards
-- For the code:
--   CallLaws  the calls by what reading the bytes gave: a refusal, or the table
pub mod Calls
pub mod CallLaws

-- The lines of a rolling scan (document 02, job 5). The first two are definitions that the calls and claims of the scan cite too (rolling,
-- Calls; rolling_claims):
--   Schedule     the columns of one level worked line by line, as the lines come (source document 003)
--   LentLines    the lines lent: how many, what they hold, when that is sound, and what stays
-- For the code:
--   FiveBits     five integer bits hold each value of a one-level transform
--   Growth       what the stages make of such values fits its machine type
--   Memory       lines in memory, and one column of them
--   Rows         an accepted line
--   SoundLaws    whether what is held is of five integer bits
--   Program      stages of a low line and of the end as changes of lines; ProgramLaws: each may be taken
--   ColumnLaws   what they make of one column
--   Worked       what a line and an end leave; WorkLaws: it is what the schedule says
pub mod Schedule
pub mod LentLines
pub mod FiveBits
pub mod Memory
pub mod Growth
pub mod Rows
pub mod SoundLaws
pub mod Program
pub mod ProgramLaws
pub mod ColumnLaws
pub mod Worked
pub mod WorkLaws

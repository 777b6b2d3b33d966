-- What document 02 asks to be shown of earlier answers, by job. Nothing else rests on it.
--
-- Definitions, as they were before a job changed them:
--   EarlierForms     the form of a table's bytes before jobs 3 and 7, and the two cases in which job 3 changed an answer
--   EarlierRule      the rule of bounds before job 7
--   EarlierAnalysis  bounds and verdict before jobs 6 and 7
--   EarlierView      the analysis of viewing before job 6
--   EarlierLifting   the transforms before jobs 6 and 7
-- Proved of them:
--   Job3Forms        form_changes, present_changes: exactly which of document 01's answers job 3 changed; Job3Calls: the same at the C interface
--   Job6Sides        exact_unchanged, fixed_unchanged, forward_unchanged, back_unchanged, view_unchanged: sides that were admitted before give
--                    what they gave
--   Job6Verdicts     same_verdict: no verdict changes; Job6View: viewable_still: no table is newly viewable
--   Job7Forms        tables without tag 5 are read, named and written as before
--   Job7Analysis     old_bounds, old_verdict_lem: and have their old ranges, errors and verdict
--   Job7Lifting      old_coefficients: and give their old coefficients
--   Job7Calls        the same at the C interface
-- Worked:
--   EarlierBytes     heads and tables read before jobs 3 and 7
--   NewlyRefused     a table that job 6 newly refuses 13
pub mod EarlierForms
pub mod EarlierRule
pub mod EarlierAnalysis
pub mod EarlierView
pub mod EarlierLifting
pub mod Job7Forms
pub mod Job3Forms
pub mod Job3Calls
pub mod Job6Sides
pub mod Job6Verdicts
pub mod Job6View
pub mod Job7Analysis
pub mod Job7Lifting
pub mod Job7Calls
pub mod EarlierBytes
pub mod NewlyRefused

-- The judge's rule for any pass (document 01: the judge; document 02, jobs 1 and 7). A pass is the list of its stages.
--
-- Definitions:
--   Stages     stages, and the two passes as data: forward, inverse
--   Gains      the gain from one node to another on an endless line
--   Rule       range, own error and error of each node
--   Fixed      one fixed-point stage, in the middle of a line and at its ends: nearest constants, a product cut to its width, one cut towards
--              minus infinity
-- Proved of them, for any list of stages:
--   Ends       a fixed-point stage at an end of a line is the stage of its one neighbour twice
-- Of the two passes:
--   GainTable  the gains as numbers
--   Examples   worked bounds
-- Linear serves the proofs; OnLine has the stages on a line of n samples. What rests on gains, rule and cut is in proofs/.
pub mod Stages
pub mod Gains
pub mod Rule
pub mod Fixed
pub mod Ends
pub mod OnLine
pub mod GainTable
pub mod Examples
pub mod Linear

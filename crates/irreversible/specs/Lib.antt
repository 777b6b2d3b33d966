-- The 9/7 transform in fixed point, and demand 3.
--
-- Definitions (with those of numbers, refusals, lines, exact, stages, width_table, table_meaning, pictures, precision and fixed_stages, all that
-- demand 3 rests on):
--   Transforms   the plane of a picture under a table
--   Claims       demand 3 as two statements: TwoSteps and Widths
--   Calls        the 9/7 call: the answer, and each lent slice afterwards
--   Magnitudes   values below 2^10 in magnitude, and below 2^4 at level 1: what holds of each value on the way
-- Proved of them:
--   Demand3      two_steps : TwoSteps, widths : Widths; two_steps_strip, widths_strip: the same of strips of any size
--   CallLaws     call_near, call_widths: demand 3 of every call that is not refused
--   Narrow       eleven_bits: range and error of every node of an accepted table leave room in eleven integer bits
--                five_bits_lem: those of level 1 in five
--                least_bits: what the columns of its level l leave has at least 2 l integer bits
--   MagnitudeLaws  below_power_10, first_below_power_4: so each value on the way is below 2^10 in magnitude, and each one of level 1 below 2^4
-- Proofs: LevelPlanes (definitions for them), Pass (by the rule of the crate stages, which is sound), Level lead to Demand3, in this order.
-- For the code, which works lines by the kernels of the lifting crate:
--   Memory       the levels in memory: what a level leaves, when it is safe, and what stands after some of them
--   Ready        what the steps of the call ask of each other
--   LevelLaws    a level in memory: level_stands, level_safe
--   LevelsLaws   all levels under an accepted table: after_none, after_more, safe_next, after_all
--   CallSteps    the steps of the call have what they ask for, and what they leave
pub mod Transforms
pub mod Claims
pub mod Calls
pub mod Magnitudes
pub mod LevelPlanes
pub mod Pass
pub mod Level
pub mod Demand3
pub mod Narrow
pub mod MagnitudeLaws
pub mod CallLaws
pub mod Memory
pub mod Ready
pub mod LevelLaws
pub mod LevelsLaws
pub mod CallSteps

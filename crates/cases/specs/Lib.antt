-- Numbers that document 01 names, proved on the definitions.
--   ProvedNumbers   those that it marks P, in one table
--   Depths          two tables that it names without their depth: their verdicts at every depth
pub mod ProvedNumbers
pub mod Depths

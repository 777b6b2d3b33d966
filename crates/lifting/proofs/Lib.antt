-- Helps for the proofs.
--   Signed   signed operations that fit
--   Read     numbers read back from their bits
--   Turn     a run of a step that is another one by name
mod Signed
mod Read
mod Turn

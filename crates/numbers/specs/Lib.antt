-- Whole numbers of either sign.
--
-- Definitions (cited by promises and contracts above):
--   Parts      the positive and the negative part of an integer
--   Floor      division rounded down, with its laws: `>>` of a signed number
--   Ceiling    division rounded up, with its laws
--   Tests      computed tests (`between`, `every`), with their laws
--   Lists      writing over the front of a list (`over`), parts of lists, with their laws
-- Laws, and the tactics that the proofs above use:
--   Dif        linear facts over ℤ, as differences of naturals (`by_dif`, `difs`)
--   Laws       ordered ring laws of ℤ
--   Abs        magnitudes
--   Auto       overflow needs of signed code
--   Compared   tests of signed locals
--   Ring, Quote   identities of polynomials (`ring`)
--   Examples   worked examples of the tactics
pub mod Parts
pub mod Dif
pub mod Laws
pub mod Abs
pub mod Floor
pub mod Tests
pub mod Ceiling
pub mod Auto
pub mod Compared
pub mod Ring
pub mod Quote
pub mod Lists
pub mod Examples

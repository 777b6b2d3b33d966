-- What is proved of the definitions of specs/, for any list of stages and for the two passes.
--   Sound      good: on a line with mirrored edges each exact value lies within the range, each fixed-point value within the error of it
--   Single     single_good: the same of a single sample
--   Endless    the finite sum in a gain is the endless one
--   RuleLaws   the error as a sum; a side that a stage does not work keeps its bound; bound_grows: the bounds grow with what enters
--   ProductLaws   widths of products: none is as document 01 has it, a wide one cuts nothing; the loss as a number
--   ForwardLaws   the bounds of the forward pass by these numbers; single_least: the error of a single sample is never above that of G1 on
--              longer lines
--   GainLaws   the gains of the two passes as numbers are the gains
-- ValueLaws, SymmetricExtension, Own lead to Sound, in this order.
pub mod Endless
pub mod ForwardLaws
pub mod Own
pub mod ProductLaws
pub mod RuleLaws
pub mod Single
pub mod Sound
pub mod SymmetricExtension
pub mod ValueLaws
pub mod GainLaws

-- What is proved of the definitions of specs/, where it rests on the order of refusals.
--   InputLaws    pixels of the input; its form, rule by rule
--   AnswerLaws   answer and text by the forward call; `enough`: no byte past the 8,199th decides
pub mod InputLaws
pub mod AnswerLaws

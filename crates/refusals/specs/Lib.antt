-- What calls answer (document 01: why a strip or book comes back).
--   Answers       done or refused, by number and values; the order of rules; an answer as one number
--   Told          what each case of the code's enums says: the paper's numbers and values
--   AnswerLaws    what a right answer says of the rules that led to it
pub mod Answers
pub mod Told
pub mod AnswerLaws

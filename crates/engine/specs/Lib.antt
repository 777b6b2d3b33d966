-- The C interface.
--
-- Definitions:
--   Answers      the calls: answers as numbers, and each lent slice afterwards
--   ScanAnswers  the calls of a rolling scan, whose scan is bytes of the caller
--   ScanHistory  histories of calls of a rolling scan, at the bytes
-- Proved of them:
--   Promises     what an answer of 0 promises, at the bytes: demand 3, viewing
--   ReversiblePromises what the numbers of the 5/3 calls promise
--   ScanClaims   the claim over calls of a rolling scan, at the bytes
--   Zero         an answer of 0 says that the call was done; 11 of a 5/3 call back, that it is refused 11
-- For the code:
--   AnswerLaws, ScanLaws   what the answers of the calls below say of them
pub mod Answers
pub mod Zero
pub mod Promises
pub mod ReversiblePromises
pub mod AnswerLaws
pub mod ScanAnswers
pub mod ScanLaws
pub mod ScanHistory
pub mod ScanClaims

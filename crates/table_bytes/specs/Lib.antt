-- Width tables as bytes (document 01: books as bytes; document 02, job 7: tag 5).
--
-- Definitions:
--   Fields     the fields of the bytes, one list: lengths, places and bytes follow from it
--   Bytes      reading (refusals 1 to 5) and writing (4, 9)
--   Names      naming a tag (2, then 1 to 5, then 2 for tag 5 where there is none)
--   Tags       the code's tags, by their numbers
-- Proved of them:
--   BytesLaws  fields and the whole form taken apart, and the values of tags
--   RoundTrip  read and written, written and read; what a write leaves
-- For the code:
--   ReadLaws, NameLaws, WriteLaws   the rules one by one, as the code goes through them
pub mod Fields
pub mod Bytes
pub mod Names
pub mod Tags
pub mod BytesLaws
pub mod ReadLaws
pub mod NameLaws
pub mod WriteLaws
pub mod RoundTrip

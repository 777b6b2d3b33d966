-- The listing of an exact copy (document 01: the exact-copy program).
--   Listing      input, order of refusals, and text, as bytes
--   WorkedListings  proved cases: the document's listing, and a refusal of each number
-- Proved of them:
--   Writing      bytes written into a text one after the other
--   TextLaws     numbers, lines and rows as the code writes them
pub mod Listing
pub mod WorkedListings
pub mod Writing
pub mod TextLaws

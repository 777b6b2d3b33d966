-- Width tables (document 01: books) in memory.
--
-- Definitions:
--   Nodes      the six nodes of a pass, the three passes of a level, the order of a table's nodes
--   Numbered   nodes and passes by their numbers
--   Table      limits, widths, and when the form is right (refusal 4)
--   Lists      a table's numbers as lists, and the form by them
--   Changes    changes of a width, of a constant's bits or of a product's width (4)
--   Told       what a change says, and the table that comes back
--   Readers    widths by the numbers of level, pass and node, with their laws
--   WorkedTables  the tables that document 01 names, and some with widths of products, for the crates above
-- Proved of them:
--   Limits     the limits of a table of right form, by node and by number
--   FormLists  the form by lists is the form
--   FormLaws   the rules of the form and of a change one by one, as the code goes through them
--   ChangeLaws what an accepted change leaves and keeps
pub mod Nodes
pub mod Numbered
pub mod Table
pub mod Lists
pub mod Changes
pub mod Told
pub mod Readers
pub mod Limits
pub mod FormLists
pub mod FormLaws
pub mod ChangeLaws
pub mod WorkedTables

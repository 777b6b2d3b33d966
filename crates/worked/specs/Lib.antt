-- Worked computations of the crates below, in a crate of their own: each is computed once, and no wrong program is tried on them.
--   TableBytes     a table's form, reading, naming, changes and writing
--   SingleSamples  planes of strips one sample wide
--   ProductCuts    steps and planes with widths of products
--   ViewTables     tables for viewing, as data; what is told of one
--   ViewPrecision  tables that are viewable, tables that are refused 13; pixel bounds and distances as numbers
--   Deepest        too_deep: an accepted table of L levels that is deeper than `deepest L` is refused 13; deepest_viewed: these limits are reached
--   Viewing        lines, planes, greys and widths; a call that is done; a picture, and what is stored of it
pub mod TableBytes
pub mod SingleSamples
pub mod ProductCuts
pub mod ViewTables
pub mod ViewPrecision
pub mod Deepest
pub mod Viewing

-- Lines and planes (document 01: pictures and planes; the lifting, edges).
--   Lines      low and high places of a line, their neighbours, the skeleton of a lifting step
--   Mirror     the samples past the ends of a line, mirrored
--   Cases      the neighbours by cases, ends apart from the middle, and a filter's step by them
--   Planes     rows and columns in either order, level by level there and back; a plane in memory, row by row
-- Proved of them:
--   MirrorLaws the neighbours are the mirrored samples
--   LineLaws   lengths that have a low and a high; places of a line that is split or interleaved
--   Neighbours where the neighbours stand: beside their place, in the middle and at the ends
--   PlaneLaws  inside and outside of a part; sides of the low-low parts
--   RowLaws    elements of a plane in memory
--   InverseLaws  where each pass has an inverse, a level has, and so have the levels
--   OneLaws    passes from length 1: a single sample, or two and more
--   LongLaws   sides that were admitted before job 6: nothing changes
pub mod Lines
pub mod Cases
pub mod Planes
pub mod Mirror
pub mod MirrorLaws
pub mod LineLaws
pub mod Neighbours
pub mod PlaneLaws
pub mod RowLaws
pub mod InverseLaws
pub mod OneLaws
pub mod LongLaws

-- The precision analysis of a width table (document 01: the judge; document 02, jobs 6 and 7).
--   Bounds      range and error of each node, by the rule of the crate stages
--   Verdict     the verdict: form, then the nodes in book order; and what acceptance promises
--   BoundCalls  the call that tells range and error of a node
-- Proved of them:
--   Promise     promise : Accepted t → AcceptPromise t, accept : AcceptPromise t → Accepted t
--   LongLaws    same_bound: lines of two samples or more (LongLines) have the bounds of all lines
--   FirstNode   first_node_refused: level 1 row P1 with IB 2 is refused 6, whatever the other numbers
-- For the program:
--   Places      nodes, passes and bounds by number
--   ProductReads   the width of a product as a number
--   PlaceLaws   these are the bounds of Bounds, and small where what enters a pass is small
--   JudgeLaws   what the program reads and computes for a pass, and its verdict on a node
--   OrderLaws   the first refusal of a part of the book order; what the program answers step by step
pub mod Bounds
pub mod Verdict
pub mod BoundCalls
pub mod Promise
pub mod LongLines
pub mod LongLaws
pub mod FirstNode
pub mod Places
pub mod PlaceLaws
pub mod ProductReads
pub mod JudgeLaws
pub mod OrderLaws

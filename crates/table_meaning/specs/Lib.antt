-- The meaning of a width table: what it gives the stages of a pass and each place of a plane (document 01; document 02, job 7). The judge and the
-- transforms rest on it alike.
--   Products      the width of each product
--   NodeWidths    the width of a node: the values that it holds
--   Subbands      the kept nodes, and which of them gave each place of a plane
-- Proved of them:
--   ProductLaws   none_cut: without tag 5 no product has a width
--   SubbandLaws   kept_LL, kept_HL, kept_LH, kept_HH: the kept node of each subband of each level; kept_everywhere: each place has one
pub mod Products
pub mod NodeWidths
pub mod Subbands
pub mod ProductLaws
pub mod SubbandLaws

-- What the judge answers on worked tables, by computation: in a crate of its own, so that it is computed once.
--   Verdicts   tables that are accepted, tables that are refused 4, 6 and 7, with tag 5 and without it; bounds of nodes
pub mod Verdicts

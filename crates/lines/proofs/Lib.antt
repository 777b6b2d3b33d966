-- What is proved of the definitions of specs/, where it rests on what the neighbours by cases say.
--   CaseLaws   the neighbours by cases are the mirrored ones; a filter by cases is the filter
pub mod CaseLaws

-- What is proved of the definitions of specs/, where it rests on the pass itself.
--   InverseLaws   the exact inverse inverts the exact transform, and the exact transform it
--   CaseLaws   pass_is, back_is: the exact 9/7 by cases is the exact 9/7
pub mod InverseLaws
pub mod CaseLaws

-- What is proved of the definitions of specs/, where it rests on the pass or on the rule of refusal 11.
--   CaseLaws         pass_is, back_is: the 5/3 by cases is the 5/3
--   PictureLaws      has_picture_lem: the way back gives pixels exactly where a picture has the plane in that order
--   CallLaws         the claims: makes_copy, there_and_back; gives_picture, back_and_there; done_exactly, eleven_exactly
--   OneToOne         the claim one_picture: two pictures with one transform are equal
-- For the proofs of the code:
--   LevelLaws        a level in memory is that of the transform; how large the transform's values become
--   LoopLaws         levels one after another in memory, and how large the values of the next part are
pub mod CaseLaws
pub mod PictureLaws
pub mod CallLaws
pub mod OneToOne
pub mod LevelLaws
pub mod LoopLaws

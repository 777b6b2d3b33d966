-- What the code's answers say, in the documents' numbers and values.
use Rattle.std.specs.Prelude.{[], ◌∷◌, Result, Ok, Err}
use Rattle.refusals.specs.declared.Refusal.{Refusal}
use Rattle.refusals.specs.declared.Refusal.TheVariants.{CutShort, WrongTag, WrongLength, OutsideLimits, TrailingBytes, DoesNotFit, ErrorTooLarge, SideNotAdmitted, SliceTooShort, PixelTooLarge, NoPicture, OutsideWidth, NotViewable, OutOfTurn}
use Rattle.refusals.specs.Answers.{Reason, Answer, done, refused}

-- document 01, "Why a strip or book comes back"; 12 and 13: document 02, job 1; 14: job 5
abbrev pub told_refusal : Refusal → Reason
told_refusal CutShort = (1, [])
told_refusal WrongTag = (2, [])
told_refusal WrongLength = (3, [])
told_refusal OutsideLimits = (4, [])
told_refusal TrailingBytes = (5, [])
told_refusal (DoesNotFit place) = (6, place.level ∷ place.pass ∷ place.node ∷ [])
told_refusal (ErrorTooLarge place) = (7, place.level ∷ place.pass ∷ place.node ∷ [])
told_refusal SideNotAdmitted = (8, [])
told_refusal SliceTooShort = (9, [])
told_refusal PixelTooLarge = (10, [])
told_refusal NoPicture = (11, [])
told_refusal OutsideWidth = (12, [])
told_refusal NotViewable = (13, [])
told_refusal OutOfTurn = (14, [])

-- what a call gives, or its refusal
abbrev pub told : {A : Type 0} → Result A Refusal → Answer A
told (Ok a) = done a
told (Err r) = refused (told_refusal r)

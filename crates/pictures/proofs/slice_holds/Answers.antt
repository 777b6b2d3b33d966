-- `pictures::slice_holds` meets its contract.
use Rattle.std.proofs.Common.{sym, arith}
use Rattle.pictures.specs.PictureLaws.{holds_right}
use Rattle.pictures.specs.PixelLaws.{slice_short}
use Rattle.pictures.proofs.slice_holds.Goals as goal

pub returns-then-length-n : goal.returns-then-length-n
returns-then-length-n c = sym (slice_short _ _ (omega arith))

pub returns : goal.returns
returns c = sym (holds_right _ _ (omega arith))

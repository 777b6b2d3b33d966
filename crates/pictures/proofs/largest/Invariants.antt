use Rattle.std.proofs.Common.{take}
use Rattle.pictures.specs.PixelLaws.{Largest}
use Rattle.pictures.proofs.largest.Given as goal

abbrev pub invariant-loop-p : goal.invariant-loop-p
invariant-loop-p l = Largest (take l.p-index l.pixels) l.most

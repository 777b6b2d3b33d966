-- `lifting::strips::strip_forward` meets its contract: the lines are split and finished.
use native.Mathlib.Omega.{arith}
use Rattle.slices.specs.Patch.{at}
use Rattle.slices.specs.Parts.{column_of}
use Rattle.lifting.specs.Strips.{strip_of}
use Rattle.lifting.proofs.strips.strip_forward.Goals as goal

pub finish-requires : goal.finish-requires
finish-requires c =
    record {
      strip_room = (strip_of c.requires.strip_room.0 _ _ (omega arith) (omega arith), c.requires.strip_room.1);
      ready = record { line = column_of c.args.part.stride c.args.part.from (at c.args.plane.now); held = c.split.ensures; safe = c.requires.by_index };
    }

pub returns : goal.returns
returns c = c.finish.ensures _ c.split.ensures

pub split-requires : goal.split-requires
split-requires c = c.requires.strip_room.0

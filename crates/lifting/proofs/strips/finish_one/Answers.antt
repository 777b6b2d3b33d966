-- `lifting::strips::finish_one` meets its contract: the lines are lifted and put into the plane.
use mathlib.Core.Path.{◌∙◌}
use native.Mathlib.Omega.{arith}
use Rattle.slices.specs.PatchLines.{lines_ext}
use Rattle.lifting.specs.Kernels.{worked}
use Rattle.lifting.specs.Buffers.{lift_held, lift_asked, held_at}
use Rattle.lifting.specs.Strips.{buffer_of, buffer_lines, plane_lines}
use Rattle.lifting.proofs.strips.finish_one.Goals as goal

pub lift-requires : goal.lift-requires
lift-requires c =
    record {
      buffer = buffer_of c.requires.strip_room _ (omega arith);
      lift_safe = lift_asked c.args.pair.now c.requires.strip_room.two c.requires.ready.held c.requires.ready.safe;
    }

pub copy_lines-requires : goal.copy_lines-requires
copy_lines-requires c = (buffer_lines c.requires.strip_room _ (omega arith), plane_lines c.requires.strip_room _ (omega arith))

pub returns : goal.returns
unfolding worked
returns c line held =
    c.copy_lines.ensures ∙ lines_ext _ _ _ _ _ c.args.part.h (held_at (lift_held c.args.pair.now c.requires.strip_room.two held _ c.lift.ensures))

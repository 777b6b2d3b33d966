-- `lifting::strips::strip_inverse` meets its contract: the lines are taken as they are, unlifted, and each goes to its place.
use mathlib.Core.Path.{◌∙◌}
use Prim.Native.Nat.{◌+◌}
use native.Mathlib.Omega.{arith}
use Rattle.lines.specs.Lines.{lows}
use Rattle.slices.specs.Patch.{at}
use Rattle.slices.specs.PatchLines.{lines_ext}
use Rattle.lifting.specs.Kernels.{worked}
use Rattle.slices.specs.Parts.{column_of}
use Rattle.lifting.specs.Buffers.{BufferHolds, whole_held, inverse_lift_held, inverse_lift_asked, held_woven}
use Rattle.lifting.specs.Strips.{buffer_of, buffer_lines, plane_lines, strip_of}
use Rattle.lifting.proofs.strips.strip_inverse.Goals as goal

pub copy_lines-requires : goal.copy_lines-requires
copy_lines-requires c = (plane_lines c.requires.strip_room _ (omega arith), buffer_lines c.requires.strip_room _ (omega arith))

pub inverse_lift-requires : goal.inverse_lift-requires
inverse_lift-requires c =
    let loaded : let col = column_of c.args.part.stride c.args.part.from (at c.args.plane.now) in
    BufferHolds c.args.part.w c.args.part.h col (λ j i. col j (lows c.args.part.h + i)) (at c.copy_lines.new.dst) =
    whole_held _ _ _ _ _ c.copy_lines.ensures in
    record {
      buffer = buffer_of c.requires.strip_room _ (omega arith);
      inverse_lift_safe = inverse_lift_asked c.args.pair.now c.requires.strip_room.two loaded (λ i j p g. (c.requires.by_index j g).on_lows_lem i p) (λ i j p g. (c.requires.by_index j g).on_highs_lem i p);
    }

pub merge-requires : goal.merge-requires
merge-requires c = strip_of c.requires.strip_room _ _ (omega arith) (omega arith)

pub returns : goal.returns
unfolding worked
returns c =
    let loaded : let col = column_of c.args.part.stride c.args.part.from (at c.args.plane.now) in
    BufferHolds c.args.part.w c.args.part.h col (λ j i. col j (lows c.args.part.h + i)) (at c.copy_lines.new.dst) =
    whole_held _ _ _ _ _ c.copy_lines.ensures in
    c.merge.ensures ∙ lines_ext _ _ _ _ _ c.args.part.h (held_woven (inverse_lift_held c.args.pair.now c.requires.strip_room.two loaded _ c.inverse_lift.ensures))

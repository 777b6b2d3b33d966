-- `lifting::passes::pixel_line` meets its contract: the row is a part of the plane, which comes back with the row in its place.
use Prim.Native.Nat.{◌+◌, ◌-◌}
use native.Mathlib.Omega.{arith}
use lib.IntN.{pos}
use Rattle.slices.specs.Patch.{patch_part, patch_to}
use Rattle.lifting.proofs.passes.pixel_line.Goals as goal

pub returns : goal.returns
returns c =
    patch_to _ _ _ _ _ _
    (patch_part c.args.from (c.args.from + c.args.w - c.args.from) _ c.args.plane.now c.pixel_row.new.row (pos 0) (omega arith) (omega arith) (λ j h. c.pixel_row.ensures j (omega arith)))
    (omega arith)

-- The columns follow the rows of the pixels.
use Prim.Native.Nat.{◌-◌, ◌^◌}
use native.Mathlib.Omega.{arith}
use Rattle.slices.specs.Patch.{at}
use Rattle.slices.specs.Pixels.{loaded}
use Rattle.irreversible.specs.CallSteps.{first_ready, both_ready}
use Rattle.irreversible.proofs.first_level.Goals as goal

pub work_columns-requires : goal.work_columns-requires
work_columns-requires c =
    let a = c.args in
    let f = first_ready c.requires in
    both_ready a.table 1 a.w a.w a.h (loaded a.pixels.now (2 ^ (a.table.depth - 1)) a.w a.h (at a.plane.now)) a.plane.now _ _ f.is_level f.part (omega (arith, f.down)) f.safe (omega arith) c.pixel_rows.ensures

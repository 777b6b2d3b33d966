-- `slices::bias` meets its contract.
use native.Mathlib.Nat.{lt_trans}
use lib.Dec.{lit<}
use mir.Syntax.{w64}
use mir.Facts.{to_z-of_z, to_z_pos, sfits_widen}
use Rattle.slices.specs.Biased.{biased_is, biased_small}
use Rattle.slices.proofs.bias.Goals as goal

pub overflow_cast-result : goal.overflow_cast-result
overflow_cast-result c = rw (to_z-of_z c.ranges.z) (sfits_widen tt c.ranges.z)

pub overflow_add-result : goal.overflow_add-result
overflow_add-result c =
    rw (to_z-of_z c.ranges.z, to_z-of_z {w = w64} (sfits_widen tt c.ranges.z), biased_is c.args.z c.ranges.z)
    (record { sfits = lt_trans (biased_small c.args.z c.ranges.z) (lit< tt) })

pub overflow_cast-result-2 : goal.overflow_cast-result-2
overflow_cast-result-2 c =
    rw (
      to_z-of_z c.ranges.z,
      to_z-of_z {w = w64} (sfits_widen tt c.ranges.z),
      biased_is c.args.z c.ranges.z,
      to_z_pos w64 (lt_trans (biased_small c.args.z c.ranges.z) (lit< tt)),
    )
    (tt, record { fits = biased_small c.args.z c.ranges.z })

pub returns : goal.returns
returns c =
    rw (
      to_z-of_z c.ranges.z,
      to_z-of_z {w = w64} (sfits_widen tt c.ranges.z),
      biased_is c.args.z c.ranges.z,
      to_z_pos w64 (lt_trans (biased_small c.args.z c.ranges.z) (lit< tt)),
    )

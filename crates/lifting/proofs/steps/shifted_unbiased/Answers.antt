-- `lifting::steps::shifted_unbiased` meets its contract.
use Prim.Native.Nat.{◌/◌, ◌^◌}
use mir.Syntax.{w64}
use mir.Facts.{to_z-of_z, to_z_pos}
use Rattle.lifting.specs.Bias.{difference_fits}
use Rattle.lifting.proofs.steps.shifted_unbiased.Goals as goal

pub overflow_cast-result-2 : goal.overflow_cast-result-2
overflow_cast-result-2 c = record { sfits = c.requires.1 }

pub overflow_cast-result-3 : goal.overflow_cast-result-3
overflow_cast-result-3 c = record { sfits = c.requires.2 }

pub overflow_sub-result : goal.overflow_sub-result
overflow_sub-result c = rw (to_z_pos w64 c.requires.1, to_z_pos w64 c.requires.2) (difference_fits (c.args.t / 2 ^ c.args.cut) c.args.base c.requires.1 c.requires.2)

pub returns : goal.returns
returns c = rw (to_z_pos w64 c.requires.1, to_z_pos w64 c.requires.2, to_z-of_z (difference_fits (c.args.t / 2 ^ c.args.cut) c.args.base c.requires.1 c.requires.2))

-- `lifting::steps::moved` meets its contract.
use mir.Syntax.{w64}
use mir.Facts.{to_z-of_z, sfits_widen}
use Rattle.lifting.proofs.steps.moved.Goals as goal

pub overflow_cast-result : goal.overflow_cast-result
overflow_cast-result c = rw (to_z-of_z c.ranges.own) (sfits_widen tt c.ranges.own)

pub overflow_add-result : goal.overflow_add-result
overflow_add-result c =
    rw (to_z-of_z c.ranges.own, to_z-of_z {w = w64} (sfits_widen tt c.ranges.own), to_z-of_z c.ranges.z)
    (sfits_widen tt c.requires)

pub overflow_cast-result-2 : goal.overflow_cast-result-2
overflow_cast-result-2 c =
    rw (to_z-of_z c.ranges.own, to_z-of_z {w = w64} (sfits_widen tt c.ranges.own), to_z-of_z c.ranges.z, to_z-of_z {w = w64} (sfits_widen tt c.requires))
    c.requires

pub returns : goal.returns
returns c = rw (to_z-of_z c.ranges.own, to_z-of_z {w = w64} (sfits_widen tt c.ranges.own), to_z-of_z c.ranges.z, to_z-of_z {w = w64} (sfits_widen tt c.requires), to_z-of_z c.requires)

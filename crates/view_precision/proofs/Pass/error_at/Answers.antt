use native.Mathlib.Omega.{arith}
use native.Mathlib.Numerals.{add-one}
use Rattle.bounds_rule.specs.Carried.{carried_to}
use Rattle.view_precision.proofs.Pass.error_at.Goals as goal

pub loop-from-init : goal.loop-from-init
unfolding carried_to
loop-from-init c = omega arith

pub loop-from-preserved : goal.loop-from-preserved
unfolding carried_to
loop-from-preserved c = rw (add-one c.loop-from.from) (omega (arith, c.carried-error.ensures))

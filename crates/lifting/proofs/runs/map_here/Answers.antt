-- `lifting::runs::map_here` meets its contract.
use Prim.Native.Nat.{◌+◌}
use native.Mathlib.Omega.{arith}
use mir.Syntax.{w32}
use Rattle.slices.specs.Patch.{at}
use Rattle.slices.specs.SignedRuns.{value_safe}
use Rattle.lifting.specs.Made.{made_none, made_more, made_own, value_made}
use Rattle.lifting.proofs.runs.map_here.Goals as goal

pub loop-j-init : goal.loop-j-init
loop-j-init g c = (omega arith, made_none _ _ _)

pub f-v-requires : goal.f-v-requires
f-v-requires g c = value_safe w32 (at c.args.buf.now (c.args.from + c.loop-j.j)) (omega arith) (made_own c.loop-j.invariant.1) (goal.F-pre g c.args.f) (c.requires.callable c.loop-j.j c.loop-j-test.true)

pub loop-j-preserved : goal.loop-j-preserved
loop-j-preserved g c = (
  omega arith,
  made_more c.loop-j.invariant.1 (omega arith) _ (value_made (goal.F-post g c.args.f) (omega arith) (made_own c.loop-j.invariant.1) (omega arith) c.f-v.ensures),
)

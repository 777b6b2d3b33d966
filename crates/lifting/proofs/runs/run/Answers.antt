-- `lifting::runs::run` meets its contract.
use native.Mathlib.Omega.{arith}
use Rattle.lifting.specs.Made.{made_none, made_more, turn_asks, turn_gives}
use Rattle.lifting.proofs.runs.run.Goals as goal

pub loop-j-init : goal.loop-j-init
loop-j-init g c = (omega arith, made_none _ _ _)

pub f-v-requires : goal.f-v-requires
f-v-requires g c = turn_asks c.requires.runs _ c.loop-j.invariant.1 c.loop-j-test.true (omega arith) (omega arith) (omega arith) (goal.F-pre g c.args.f) c.requires.callable

pub loop-j-preserved : goal.loop-j-preserved
loop-j-preserved g c = (
  omega arith,
  made_more c.loop-j.invariant.1 (omega (arith, c.requires.runs.own)) _
      (turn_gives c.requires.runs _ c.loop-j.invariant.1 c.loop-j-test.true (omega arith) (omega arith) (omega arith) (goal.F-post g c.args.f) (omega arith) c.f-v.ensures),
)

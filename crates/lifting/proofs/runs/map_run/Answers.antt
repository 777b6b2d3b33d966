-- `lifting::runs::map_run` meets its contract: the places passed hold what f makes.
use Rattle.std.specs.Prelude.{◌+◌, ◌-◌}
use Rattle.std.proofs.Common.{arith}
use Rattle.lifting.specs.Made.{made_part}
use Rattle.lifting.proofs.runs.map_run.Goals as goal

pub returns : goal.returns
returns g c =
    let a = c.args in
    made_part a.to (a.to + a.n - a.to) a.n (omega arith) a.dst.now c.loop-j.x-items (omega arith) (omega arith) (λ j h. c.loop-j.invariant j (omega arith))

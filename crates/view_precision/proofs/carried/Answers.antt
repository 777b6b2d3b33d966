use native.Mathlib.Omega.{arith}
use Rattle.view_precision.specs.SizeLaws.{gain_taken, times_small}
use Rattle.view_precision.proofs.carried.Goals as goal

pub returns : goal.returns
returns c =
    let a = c.args in
    let e = c.times_gain.ensures in
    (e, omega (arith, e, times_small a.x a.from a.to c.requires.0))

pub times_gain-requires : goal.times_gain-requires
times_gain-requires c = omega (arith, c.requires.0, gain_taken c.args.from c.args.to)

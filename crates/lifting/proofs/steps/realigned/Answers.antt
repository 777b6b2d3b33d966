-- `lifting::steps::realigned` meets its contract: nothing is shifted out.
use mathlib.Core.Path.{◌≡◌}
use Prim.Native.Nat.{◌*◌, ◌/◌, ◌%◌, ◌^◌}
use native.Mathlib.Omega.{arith}
use native.Mathlib.Nat.{mod-eq_of_lt}
use Rattle.lifting.specs.BiasedCut.{realigned_small}
use Rattle.lifting.proofs.steps.realigned.Goals as goal

pub returns : goal.returns
returns c =
    let a = c.args in
    let l = realigned_small a.t a.first a.up (omega arith) in
    let e : (a.t / 2 ^ a.first * 2 ^ a.up) % 2 ^ 64 ≡ a.t / 2 ^ a.first * 2 ^ a.up = mod-eq_of_lt (omega arith) in
    (e, omega arith)

-- `lifting::forms::multiple` meets its contract.
use Prim.Native.Nat.{◌^◌}
use native.Mathlib.Omega.{arith}
use native.Mathlib.Nat.{div-le_self}
use Rattle.lifting.specs.Bias.{multiple_above}
use Rattle.lifting.proofs.forms.multiple.Goals as goal

pub overflow_add-result : goal.overflow_add-result
overflow_add-result c = omega (arith, div-le_self c.args.total (2 ^ c.args.cut))

pub returns : goal.returns
returns c = multiple_above c.args.total c.args.cut

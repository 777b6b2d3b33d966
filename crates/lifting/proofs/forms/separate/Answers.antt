-- `lifting::forms::separate` meets its contract: 2 ^ 31 is a multiple of 2 ^ cut.
use mathlib.Core.Path.{sym, ap, ◌∙◌}
use Prim.Native.Nat.{ℕ, ◌*◌, ◌/◌, ◌^◌}
use native.Mathlib.Omega.{arith}
use native.Mathlib.Nat.{mul_assoc, mul-le-mul_left, div-le_self}
use Rattle.lifting.specs.Bias.{halved, separate_same}
use Rattle.lifting.proofs.forms.separate.Goals as goal

pub overflow_mul-result : goal.overflow_mul-result
overflow_mul-result c = omega (arith, mul-le-mul_left {m = 2147483648 / 2 ^ c.args.cut} {n = 2147483648} c.args.c (div-le_self 2147483648 (2 ^ c.args.cut)))

pub returns : goal.returns
returns c =
    let a = c.args in
    separate_same a.down a.rise a.c (a.c * (2147483648 / 2 ^ a.cut)) a.cut (omega arith) (omega arith) (omega arith) (omega arith)
    (ap (λ (n : ℕ). a.c * n) (sym (halved a.cut (omega arith))) ∙ sym (mul_assoc a.c (2147483648 / 2 ^ a.cut) (2 ^ a.cut)))

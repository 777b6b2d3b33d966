-- `lifting::forms::combined` meets its contract: the offset makes the total a multiple of 2 ^ cut.
use Prim.Native.Nat.{◌+◌, ◌*◌, ◌^◌, ◌≤◌}
use native.Mathlib.Omega.{arith}
use lib.Pow.{pow_mono}
use Rattle.lifting.specs.Bias.{Padded, padded, combined_same}
use Rattle.lifting.proofs.forms.combined.Goals as goal

pads : (c : goal.After-power-2) → Padded ((c.power.result + c.args.c) * 2147483648) c.multiple-base.result c.power-2.result c.args.cut
pads c = padded _ _ _ _ (omega arith) c.power-2.ensures c.multiple-base.ensures

pub returns : goal.returns
returns c = combined_same _ _ _ _ _ _ (omega arith) (omega arith) (omega arith) (omega arith) (omega (arith, (pads c).little)) (omega (arith, (pads c).tied, c.power.ensures))

pub overflow_add-total : goal.overflow_add-total
overflow_add-total c =
    let factor : c.power.result ≤ 1073741824 =
    let l : 2 ^ c.args.k ≤ 1073741824 = pow_mono {i = c.args.k} {j = 30} (omega arith) in
    omega (arith, c.power.ensures) in
    omega (arith, factor)

pub overflow_mul-total : goal.overflow_mul-total
overflow_mul-total c =
    let factor : c.power.result ≤ 1073741824 =
    let l : 2 ^ c.args.k ≤ 1073741824 = pow_mono {i = c.args.k} {j = 30} (omega arith) in
    omega (arith, c.power.ensures) in
    omega (arith, factor)

pub multiple-base-requires : goal.multiple-base-requires
multiple-base-requires c =
    let factor : c.power.result ≤ 1073741824 =
    let l : 2 ^ c.args.k ≤ 1073741824 = pow_mono {i = c.args.k} {j = 30} (omega arith) in
    omega (arith, c.power.ensures) in
    omega (arith, factor)

pub overflow_mul-result : goal.overflow_mul-result
overflow_mul-result c =
    let factor : c.power.result ≤ 1073741824 =
    let l : 2 ^ c.args.k ≤ 1073741824 = pow_mono {i = c.args.k} {j = 30} (omega arith) in
    omega (arith, c.power.ensures) in
    omega (arith, factor, pads c)

pub overflow_sub-result : goal.overflow_sub-result
overflow_sub-result c = (pads c).enough

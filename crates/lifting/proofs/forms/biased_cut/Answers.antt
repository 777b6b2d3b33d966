-- `lifting::forms::biased_cut` meets its contract: the offset makes the total a multiple of 2 ^ (first + cut).
use mathlib.Core.Path.{◌≡◌, sym, ap, ◌∙◌}
use Prim.Native.Nat.{ℕ, ◌+◌, ◌-◌, ◌*◌, ◌^◌, ◌≤◌}
use native.Mathlib.Omega.{arith}
use lib.Pow.{pow_mono}
use Rattle.lifting.specs.BiasedCut.{CutPadded, cut_padded, cut_even, biased_cut_same}
use Rattle.lifting.proofs.forms.biased_cut.Goals as goal

part : (c : goal.After-power-3) → let m = c in m.multiple-m.result * c.power-3.result ≡ m.multiple-m.result * 2 ^ m.args.up
part c = ap (λ (n : ℕ). c.multiple-m.result * n) c.power-3.ensures

pub returns : goal.returns
returns c =
    let pads : let a = c.args in CutPadded (a.c * 2147483648) c.multiple-m.result c.power.result a.first a.up a.cut =
    cut_padded _ _ _ _ _ _ (omega arith) (omega arith) c.power.ensures c.multiple-m.ensures in
    let m = c.multiple-m.result in
    let a = c.args in
    biased_cut_same _ _ _ _ _ _ _ _ (m * 2 ^ a.cut) (omega arith) (omega arith) pads.little (omega arith) (omega arith) pads.tied
    (cut_even a.k m a.up a.cut (omega arith) ∙ (λ u. (sym c.power-2.ensures u + sym (part c) u) * 2 ^ a.cut))

pub overflow_mul-result : goal.overflow_mul-result
overflow_mul-result c =
    let pads : let a = c.args in CutPadded (a.c * 2147483648) c.multiple-m.result c.power.result a.first a.up a.cut =
    cut_padded _ _ _ _ _ _ (omega arith) (omega arith) c.power.ensures c.multiple-m.ensures in
    omega (arith, pads)

pub overflow_sub-result : goal.overflow_sub-result
overflow_sub-result c =
    let pads : let a = c.args in CutPadded (a.c * 2147483648) c.multiple-m.result c.power.result a.first a.up a.cut =
    cut_padded _ _ _ _ _ _ (omega arith) (omega arith) c.power.ensures c.multiple-m.ensures in
    pads.enough

pub overflow_mul-result-2 : goal.overflow_mul-result-2
overflow_mul-result-2 c =
    let pads : let a = c.args in CutPadded (a.c * 2147483648) c.multiple-m.result c.power.result a.first a.up a.cut =
    cut_padded _ _ _ _ _ _ (omega arith) (omega arith) c.power.ensures c.multiple-m.ensures in
    omega (arith, part c, pads)

pub overflow_add-result : goal.overflow_add-result
overflow_add-result c =
    let pads : let a = c.args in CutPadded (a.c * 2147483648) c.multiple-m.result c.power.result a.first a.up a.cut =
    cut_padded _ _ _ _ _ _ (omega arith) (omega arith) c.power.ensures c.multiple-m.ensures in
    let own : c.power-2.result ≤ 2305843009213693952 =
    let a = c.args in
    let l : 2 ^ (31 + a.k - a.cut) ≤ 2305843009213693952 = pow_mono {i = 31 + a.k - a.cut} {j = 61} (omega arith) in
    omega (arith, c.power-2.ensures) in
    omega (arith, part c, own, pads)

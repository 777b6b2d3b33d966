-- `lifting::forms::quick_factor` meets its contract: the offset makes the total a multiple of 2 ^ cut.
use mathlib.Core.Path.{◌≡◌, sym, subst, ap, ◌∙◌}
use mathlib.Core.Bool.{false}
use Prim.Native.Nat.{◌*◌, ◌-◌}
use native.Mathlib.Omega.{arith}
use lib.IntN.{ℤ, pos, nat_abs}
use lib.Signed.{lt_z}
use mir.Facts.{to_z-of_z}
use Rattle.lifting.specs.declared.Factor.TheVariants.{Plain, Biased}
use Rattle.slices.specs.Runs.{as_type}
use Rattle.lifting.specs.Steps.{SameFactor}
use Rattle.lifting.specs.Bias.{Padded, padded, biased_same, positive}
use Rattle.lifting.proofs.forms.quick_factor.Goals as goal

pads : (c : goal.After-power) → let s = c in Padded (s.size-f.result * 2147483648) c.multiple-base.result c.power.result s.args.cut
pads c = padded _ _ _ _ (omega arith) c.power.ensures c.multiple-base.ensures

-- the constant is its size
constant : (c : goal.After-power) → let s = c in pos s.size-f.result ≡ s.args.c
constant c =
    let s = c in
    let e = to_z-of_z s.ranges.c in
    ap pos (s.size-f.ensures (omega arith) ∙ ap nat_abs e) ∙ sym (positive s.args.c (subst (λ (z : ℤ). lt_z z (pos 0) ≡ false) e c.if-c-lt0.false))

pub returns : goal.returns
returns c =
    let base = c.multiple-base.result in
    let offset = base * c.power.result - c.size-f.result * 2147483648 in
    as_type (λ u. SameFactor (Plain (constant c u) c.args.cut) (Biased c.size-f.result offset base c.args.cut))
    (biased_same _ _ _ _ (omega arith) (omega arith) (omega arith) (omega (arith, (pads c).little)) (omega (arith, (pads c).tied)))

pub overflow_mul-result : goal.overflow_mul-result
overflow_mul-result c = omega (arith, pads c)

pub overflow_sub-result : goal.overflow_sub-result
overflow_sub-result c = (pads c).enough

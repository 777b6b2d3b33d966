-- `lifting::forms::size` meets its contract.
use mathlib.Core.Path.{◌≡◌, sym, subst, ◌∙◌, ap}
use mathlib.Core.Bool.{true, false}
use Prim.Native.Nat.{◌<◌}
use native.Mathlib.Omega.{arith}
use lib.Dec.{T}
use lib.IntN.{ℤ, pos, negsuc, nat_abs, ◌-ℤ◌}
use lib.Signed.{lt_z, non_neg}
use mir.Syntax.{w32, w64}
use mir.Val.{SFits, Fits}
use mir.Facts.{to_z-of_z}
use Rattle.lifting.specs.Bias.{below_zero, above_zero}
use Rattle.slices.specs.SignedRuns.{back}
use Rattle.lifting.proofs.forms.size.Goals as goal

-- a number below 0, negated
negated : (c : goal.Then-z-lt0) → let z = c.args.z in (pos 0 -ℤ back w64 z ≡ pos (nat_abs z)) × (nat_abs z < 2147483648)
negated c =
    let a = c in
    let e = to_z-of_z a.ranges.z in
    let l = below_zero a.args.z (subst (λ (z : ℤ). lt_z z (pos 0) ≡ true) e c.if-z-lt0.true) (subst (λ (z : ℤ). lt_z z (negsuc 2147483646) ≡ false) e c.if-z-ltminus2147483647.false) in
    (ap (λ (z : ℤ). pos 0 -ℤ z) e ∙ l.0, l.1)

pub overflow_sub-result : goal.overflow_sub-result
overflow_sub-result c = let l = negated c in subst (SFits w64) (sym l.0) (record { sfits = omega arith })

same : (c : goal.Then-z-lt0) → let z = c.args.z in back w64 (pos 0 -ℤ back w64 z) ≡ pos (nat_abs z)
same c = let l = negated c in to_z-of_z (overflow_sub-result c) ∙ l.0

pub overflow_cast-result : goal.overflow_cast-result
overflow_cast-result c = let l = negated c in subst (λ (z : ℤ). T (non_neg z) × Fits w32 (nat_abs z)) (sym (same c)) (tt, record { fits = omega arith })

pub overflow_cast-result-else-z-lt0 : goal.overflow_cast-result-else-z-lt0
overflow_cast-result-else-z-lt0 c =
    let e = to_z-of_z c.ranges.z in
    let l = above_zero c.args.z (subst (λ (z : ℤ). lt_z z (pos 0) ≡ false) e c.if-z-lt0.false) (subst (λ (z : ℤ). lt_z (pos 2147483647) z ≡ false) e c.if-z-gt2147483647.false) in
    subst (λ (z : ℤ). T (non_neg z) × Fits w32 (nat_abs z)) (sym (e ∙ l.0)) (tt, record { fits = omega arith })

pub returns-then-z-lt0 : goal.returns-then-z-lt0
returns-then-z-lt0 c h = ap nat_abs (same c)

use Prim.Native.Nat.{ℕ, ◌-◌, ◌^◌, ◌≤◌}
use mathlib.Core.Path.{◌≡◌, sym}
use native.Mathlib.Omega.{arith}
use lib.Pow.{pow_mono}
use Rattle.width_table.specs.Table.{max_integer_bits}
use Rattle.precision.specs.JudgeLaws.{too_wide, not_kept, in_error, kept_well}
use Rattle.precision.proofs.judge_bound.Goals as goal
use Rattle.precision.proofs.judge_bound.Goals.{else-kept-via-then-kept+else-step-bound, else-kept-via-else-kept}

-- a step is at most 1
step_most : (f x : ℕ) → x ≡ 2 ^ (32 - f) → x ≤ 2 ^ 32
step_most f x e = omega (arith, e, pow_mono {i = 32 - f} {j = 32} (omega arith))

pub overflow_add-bound-2 : goal.overflow_add-bound-2
overflow_add-bound-2 c = omega (arith, step_most c.args.fraction c.power-step.result c.power-step.ensures)

pub overflow_mul-power : goal.overflow_mul-power
overflow_mul-power c = omega (arith, c.power.ensures, pow_mono {i = c.args.integer - 1} {j = max_integer_bits - 1} (omega arith))

pub returns-then-power-bound : goal.returns-then-power-bound
returns-then-power-bound c =
    let a = c.args in
    sym (too_wide a.bound a.integer a.fraction a.kept _ (omega (arith, c.power.ensures, c.power-step.ensures, c.if-power-bound.true)))

pub returns-then-step-bound : goal.returns-then-step-bound
returns-then-step-bound c =
    let a = c.args in
    sym (in_error a.bound a.integer a.fraction a.kept _ (omega (arith, c.power.ensures, c.power-step.ensures, c.if-power-bound.false)) c.if-kept.true (omega (arith, c.power-step.ensures, c.if-step-bound.true)))

pub returns : goal.returns
returns c =
    let a = c.args in
    elim c.else-kept.branch [
      | else-kept-via-then-kept+else-step-bound w ↦ sym (kept_well a.bound a.integer a.fraction a.kept _ (omega (arith, c.power.ensures, c.power-step.ensures, c.if-power-bound.false)) w.if-kept.true (omega (arith, c.power-step.ensures, w.if-step-bound.false)))
      | else-kept-via-else-kept w ↦ sym (not_kept a.bound a.integer a.fraction a.kept _ (omega (arith, c.power.ensures, c.power-step.ensures, c.if-power-bound.false)) w.if-kept.false)
    ]

pub overflow_mul-step : goal.overflow_mul-step
overflow_mul-step c = omega (arith, step_most c.args.fraction c.power-step.result c.power-step.ensures)

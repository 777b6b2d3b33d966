use Prim.Native.Nat.{ℕ, ◌<◌, ◌≤◌}
use mathlib.Core.Path.{◌≡◌, sym, ◌∙◌, subst}
use native.Mathlib.Omega.{arith}
use Rattle.refusals.specs.Answers.{refused}
use Rattle.refusals.specs.Told.{told, told_refusal}
use Rattle.width_table.specs.Limits.{form_depth}
use Rattle.view_precision.specs.LevelLaws.{judge_refuses, accepted_form, node_refuses, pixel_refuses, view_passes}
use Rattle.std.proofs.Common.{rules}
use Rattle.std.proofs.lemmas.Bool.{not-false, not-true}
use Rattle.view_precision.proofs.judge.Goals as goal

pub returns-in_err-judge : goal.returns-in_err-judge
returns-in_err-judge c =
    let e : told c.from_residual.result ≡ refused (told_refusal c.in_err-judge.field-0.0) = search rules in
    e ∙ sym (judge_refuses c.args.table _ (sym c.in_err-judge.ensures))

pub invariant_of-work_levels : goal.invariant_of-work_levels
invariant_of-work_levels c = record { form = accepted_form c.args.table (sym c.in_ok-judge.ensures); few = omega arith }

pub returns-then-not-pixels : goal.returns-then-not-pixels
returns-then-not-pixels c = sym (node_refuses c.args.table (sym c.in_ok-judge.ensures) c.work_levels-pixels.result.right _ c.work_levels-pixels.ensures.right c.work_levels-pixels.ensures.bound (not-true _ c.if-not-pixels.true))

pub returns-then-pixels-power : goal.returns-then-pixels-power
returns-then-pixels-power c =
    let t = c.args.table in
    sym (view_passes t (sym c.in_ok-judge.ensures) c.work_levels-pixels.result.right _ c.work_levels-pixels.ensures.right c.work_levels-pixels.ensures.bound (not-false _ c.if-not-pixels.false) (subst (λ (x : ℕ). c.work_levels-pixels.result.bound.error < x) c.power.ensures c.if-pixels-power.true))

pub returns-else-pixels-power : goal.returns-else-pixels-power
returns-else-pixels-power c =
    let t = c.args.table in
    sym (pixel_refuses t (sym c.in_ok-judge.ensures) c.work_levels-pixels.result.right _ c.work_levels-pixels.ensures.right c.work_levels-pixels.ensures.bound (subst (λ (x : ℕ). x ≤ c.work_levels-pixels.result.bound.error) c.power.ensures c.if-pixels-power.false))

pub overflow_add-table : goal.overflow_add-table
overflow_add-table c = omega (arith, (form_depth c.args.table (accepted_form c.args.table (sym c.in_ok-judge.ensures))).1)

pub overflow_sub-table : goal.overflow_sub-table
overflow_sub-table c = omega (arith, (form_depth c.args.table (accepted_form c.args.table (sym c.in_ok-judge.ensures))).1)

use Prim.Native.Nat.{ℕ, ◌+◌, ◌-◌, ◌≤◌}
use mathlib.Core.Bool.{Bool}
use mathlib.Core.List.{[], ◌∷◌}
use mathlib.Core.Path.{◌≡◌, refl, sym, ap, subst, ◌∙◌}
use native.Mathlib.Omega.{arith}
use lib.ListN.{get_or, take}
use Rattle.refusals.specs.Answers.{Answer, passed, refused}
use Rattle.refusals.specs.Told.{told_refusal, told}
use Rattle.width_table.specs.declared.WidthTable.{WidthTable}
use Rattle.width_table.specs.Nodes.{node_at, pass_nodes}
use Rattle.width_table.specs.Numbered.{node_of, pass_of, IsNode}
use Rattle.bounds_rule.specs.declared.Bound as Code
use Rattle.precision.specs.declared.PassBounds.{PassBounds}
use Rattle.precision.specs.Places.{most_total, judged_as, held_at, BoundsOf}
use Rattle.table_meaning.specs.Subbands.{kept_at}
use Rattle.precision.specs.Verdict.{judged, first_refusal}
use Rattle.precision.specs.JudgeLaws.{limited, judged_is}
use Rattle.precision.specs.OrderLaws.{node_next, stays}
use Rattle.std.proofs.Common.{rules}
use Rattle.precision.proofs.PassAt.judge_nodes.Goals as goal

-- with the verdict on one node more
judged_next : (t : WidthTable) (l p : ℕ) (b : PassBounds) → BoundsOf t l p b → (n : ℕ) → IsNode n → first_refusal t (take (n - 1) (pass_nodes l (pass_of p))) ≡ passed
    → (kept : Bool) → kept ≡ kept_at t.levels l (pass_of p) (node_of n) → (bound : Code.Bound) → bound ≡ held_at b n
    → (o : Answer Unit) → o ≡ judged_as bound (get_or b.widths.integers (n - 1) 0) (get_or b.widths.fractions n 0) kept (l ∷ p ∷ n ∷ []) → first_refusal t (take n (pass_nodes l (pass_of p))) ≡ o
judged_next t l p b h n i before kept is bound held o by =
    let e : n - 1 + 1 ≡ n = omega arith in
    subst (λ (m : ℕ). first_refusal t (take m (pass_nodes l (pass_of p))) ≡ judged t (node_at l (pass_of p) (node_of m))) e (node_next t l (pass_of p) (n - 1) (omega arith) before)
    ∙ sym (by
    ∙ (λ u. judged_as ((held ∙ h.is n i) u) (h.widths.integer n i u) (h.widths.fraction n i u) (is u) (l ∷ p ∷ n ∷ []))
    ∙ judged_is h.widths.place n i)

pub loop-node-init : goal.loop-node-init
unfolding first_refusal
loop-node-init c = (omega arith, refl)

pub is_kept-requires : goal.is_kept-requires
is_kept-requires c = record { pass = c.requires.bounds_of.widths.place.pass; node = omega arith }

pub judge_bound-requires : goal.judge_bound-requires
judge_bound-requires c =
    let h = c.requires.bounds_of in
    let n = c.loop-node.node in
    let l = limited h.widths in
    (subst (λ (b : Code.Bound). b.range + b.error ≤ most_total) (sym c.bound_at.ensures) (h.small n (omega arith)), (l.integer n (omega arith)).0, (l.integer n (omega arith)).1, l.fraction n (omega arith))

pub returns-in_err-judge_bound : goal.returns-in_err-judge_bound
returns-in_err-judge_bound c =
    let p = c.args.self.now in
    let e : told c.from_residual.result ≡ refused (told_refusal c.in_err-judge_bound.field-0.0) = search rules in
    let next = judged_next p.table.now p.level p.pass c.args.bounds.now c.requires.bounds_of c.loop-node.node (omega arith) c.loop-node.invariant.1 c.is_kept.result c.is_kept.ensures c.bound_at.result c.bound_at.ensures _ c.in_err-judge_bound.ensures in
    e ∙ sym (stays p.table.now _ (pass_nodes p.level (pass_of p.pass)) c.loop-node.node c.args.count (omega arith) next)

pub loop-node-preserved : goal.loop-node-preserved
loop-node-preserved c =
    let p = c.args.self.now in
    let next = judged_next p.table.now p.level p.pass c.args.bounds.now c.requires.bounds_of c.loop-node.node (omega arith) c.loop-node.invariant.1 c.is_kept.result c.is_kept.ensures c.bound_at.result c.bound_at.ensures _ c.in_ok-judge_bound.ensures in
    let e : c.loop-node.node ≡ c.loop-node.node + 1 - 1 = omega arith in
    (omega arith, subst (λ (k : ℕ). first_refusal p.table.now (take k (pass_nodes p.level (pass_of p.pass))) ≡ passed) e next)

pub returns : goal.returns
returns c =
    let p = c.args.self.now in
    let end : c.loop-node.node - 1 ≡ c.args.count = omega arith in
    sym (ap (λ (k : ℕ). first_refusal p.table.now (take k (pass_nodes p.level (pass_of p.pass)))) (sym end) ∙ c.loop-node.invariant.1)

pub returns-in_ok-judge_bound : goal.returns-in_ok-judge_bound
returns-in_ok-judge_bound c =
    let p = c.args.self.now in
    let next = judged_next p.table.now p.level p.pass c.args.bounds.now c.requires.bounds_of c.loop-node.node (omega arith) c.loop-node.invariant.1 c.is_kept.result c.is_kept.ensures c.bound_at.result c.bound_at.ensures _ c.in_ok-judge_bound.ensures in
    let end : c.loop-node.node ≡ c.args.count = omega arith in
    sym (ap (λ (k : ℕ). first_refusal p.table.now (take k (pass_nodes p.level (pass_of p.pass)))) (sym end) ∙ next)

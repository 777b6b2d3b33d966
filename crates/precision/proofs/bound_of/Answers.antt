use Prim.Native.Nat.{ℕ}
use mathlib.Core.Path.{◌≡◌, sym, subst, ◌∙◌}
use lib.Dec.{T}
use Rattle.std.specs.Prelude.{Result, Ok, Err, IfOk}
use Rattle.refusals.specs.Answers.{Answer, passed, ◌then◌, answered}
use Rattle.refusals.specs.AnswerLaws.{answered_done}
use Rattle.refusals.specs.Told.{told}
use Rattle.refusals.specs.declared.Refusal.{Refusal}
use Rattle.width_table.specs.FormLaws.{node_in}
use Rattle.bounds_rule.specs.declared.Bound.{Bound}
use Rattle.precision.specs.BoundCalls.{bound_numbered}
use Rattle.precision.specs.OrderLaws.{bound_not_formed, bound_lacks, bound_has}
use Rattle.precision.proofs.bound_of.Goals as goal
use Rattle.precision.proofs.bound_of.Goals.{then-not-form_right-via-then-not-form_right, then-not-form_right-via-else-not-form_right+then-not-has_node}

-- what is told where the answer is done
told_as : (f : Bound → ℕ) (n : ℕ) (r : Result Bound Refusal) {o : Answer Unit} → told r then passed ≡ o → IfOk r (λ b. f b ≡ n) → IfOk r (λ b. f b ≡ answered o n 0)
told_as f n (Ok b) e h = h ∙ sym (answered_done n 0 (sym e))
told_as f n (Err why) e h = tt

pub returns-then-not-form_right-clause-outcome : goal.returns-then-not-form_right-clause-outcome
returns-then-not-form_right-clause-outcome c =
    let a = c.args in
    elim c.then-not-form_right.branch [
      | then-not-form_right-via-then-not-form_right w ↦ sym (bound_not_formed a.table a.level a.pass a.node (sym c.form_right.ensures ∙ w.if-not-form_right.true))
      | then-not-form_right-via-else-not-form_right+then-not-has_node w ↦ sym (bound_lacks a.table a.level a.pass a.node (sym c.form_right.ensures ∙ w.if-not-form_right.false) (sym w.has_node.ensures ∙ w.if-not-has_node.true))
    ]

pub returns-clause-outcome : goal.returns-clause-outcome
returns-clause-outcome c =
    let a = c.args in
    c.bound_in.ensures.outcome ∙ sym (bound_has a.table a.level a.pass a.node (sym c.form_right.ensures ∙ c.if-not-form_right.false) (sym c.has_node.ensures ∙ c.if-not-has_node.false))

pub returns-clause-range : goal.returns-clause-range
returns-clause-range c =
    let a = c.args in
    told_as (λ b. b.range) (bound_numbered a.table a.level a.pass a.node).range c.bound_in.result (c.bound_in.ensures.outcome ∙ sym (bound_has a.table a.level a.pass a.node (sym c.form_right.ensures ∙ c.if-not-form_right.false) (sym c.has_node.ensures ∙ c.if-not-has_node.false))) c.bound_in.ensures.range

pub returns-clause-error : goal.returns-clause-error
returns-clause-error c =
    let a = c.args in
    told_as (λ b. b.error) (bound_numbered a.table a.level a.pass a.node).error c.bound_in.result (c.bound_in.ensures.outcome ∙ sym (bound_has a.table a.level a.pass a.node (sym c.form_right.ensures ∙ c.if-not-form_right.false) (sym c.has_node.ensures ∙ c.if-not-has_node.false))) c.bound_in.ensures.error

pub bound_in-requires : goal.bound_in-requires
bound_in-requires c =
    let a = c.args in
    let x = node_in a.table.levels a.level a.pass a.node (sym c.has_node.ensures ∙ c.if-not-has_node.false) in
    record {
      at = record { form = subst T (sym (sym c.form_right.ensures ∙ c.if-not-form_right.false)) tt; level_from = x.0.0; level_to = x.0.1; pass = x.1 };
      node = x.2;
    }

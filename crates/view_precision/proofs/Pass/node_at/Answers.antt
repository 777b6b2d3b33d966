use Prim.Native.Nat.{ℕ, ◌≤◌}
use mathlib.Core.List.{List}
use mathlib.Core.Path.{◌≡◌, sym, ◌∙◌, ap, subst}
use Rattle.stages.specs.Rule.{Bound}
use Rattle.view_precision.specs.Bounds.{larger}
use Rattle.view_precision.specs.Places.{node_from, total, most_total, SmallFed, AllSmall}
use Rattle.bounds_rule.specs.Carried.{as_bound}
use Rattle.view_precision.specs.PlaceLaws.{node_even, node_other}
use Rattle.view_precision.specs.SizeLaws.{node_small}
use Rattle.view_precision.proofs.Pass.node_at.Goals as goal

-- as the definition has it, and small
is-node : (low high : Bound) → SmallFed low → SmallFed high → (own : List ℕ) → AllSmall own → (stage : ℕ) {x : Bound} → x ≡ node_from low high own stage → (x ≡ node_from low high own stage) × (total x ≤ most_total)
is-node low high fl fh own small stage e = (e, subst (λ (y : Bound). total y ≤ most_total) (sym e) (node_small low high fl fh own small stage))

pub returns-then-stage-eq-EVEN : goal.returns-then-stage-eq-EVEN
returns-then-stage-eq-EVEN c =
    let a = c.args.self.now in
    is-node (as_bound a.low) (as_bound a.high) a.low_small a.high_small a.own a.own_small c.args.stage
    (c.larger_bound.ensures ∙ ap (λ (x : Bound). larger x (as_bound a.low)) c.bound_at-bound.ensures ∙ node_even (as_bound a.low) (as_bound a.high) a.own c.args.stage c.if-stage-eq-EVEN.true)

pub returns-else-stage-eq-EVEN : goal.returns-else-stage-eq-EVEN
returns-else-stage-eq-EVEN c =
    let a = c.args.self.now in
    is-node (as_bound a.low) (as_bound a.high) a.low_small a.high_small a.own a.own_small c.args.stage
    (c.bound_at-bound.ensures ∙ node_other (as_bound a.low) (as_bound a.high) a.own c.args.stage c.if-stage-eq-EVEN.false)

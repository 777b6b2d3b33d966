use Prim.Native.Nat.{ℕ, ◌≤◌}
use mathlib.Core.Path.{◌≡◌, sym, ◌∙◌, ap, subst}
use mathlib.Core.List.{List}
use native.Mathlib.Omega.{arith}
use Rattle.stages.specs.Rule.{Bound}
use Rattle.bounds_rule.specs.Carried.{as_bound}
use Rattle.view_precision.specs.Places.{total, total_from, most_total, SmallFed, AllSmall}
use Rattle.view_precision.specs.PlaceLaws.{total_later}
use Rattle.view_precision.specs.SizeLaws.{total_small}
use Rattle.view_precision.proofs.Pass.total_before.Goals as goal

-- as the definition has it, and small
is-total : (low high : Bound) → SmallFed low → SmallFed high → (own : List ℕ) → AllSmall own → (stage : ℕ) {x : ℕ} → x ≡ total_from low high own stage → (x ≡ total_from low high own stage) × (x ≤ most_total)
is-total low high fl fh own small stage e = (e, subst (λ (y : ℕ). y ≤ most_total) (sym e) (total_small low high fl fh own small stage))

pub returns-then-stage-eq0 : goal.returns-then-stage-eq0
returns-then-stage-eq0 c =
    let a = c.args.self.now in
    is-total (as_bound a.low) (as_bound a.high) a.low_small a.high_small a.own a.own_small c.args.stage
    (sym (ap (total_from (as_bound a.low) (as_bound a.high) a.own) c.if-stage-eq0.true))

pub returns-then-stage-eq1 : goal.returns-then-stage-eq1
returns-then-stage-eq1 c =
    let a = c.args.self.now in
    is-total (as_bound a.low) (as_bound a.high) a.low_small a.high_small a.own a.own_small c.args.stage
    (sym (ap (total_from (as_bound a.low) (as_bound a.high) a.own) c.if-stage-eq1.true))

pub returns : goal.returns
returns c =
    let a = c.args.self.now in
    is-total (as_bound a.low) (as_bound a.high) a.low_small a.high_small a.own a.own_small c.args.stage
    (ap total c.node_at-bound.ensures.0 ∙ sym (total_later (as_bound a.low) (as_bound a.high) a.own c.args.stage (omega arith)))

use Prim.Native.Nat.{ℕ, ◌<◌}
use mathlib.Core.Bool.{Bool, true, false}
use mathlib.Core.Path.{◌≡◌, refl, sym}
use lib.Dec.{lit≤, lit<}
use Rattle.std.specs.Bool.{MatchBool}
use Rattle.std.specs.List.{AllWithin, HoldsAt, range_with_len}
use Rattle.std.proofs.Common.{rules, tests}
use Rattle.std.proofs.lemmas.Iterator.{cases_from_all, YieldsList-from_range}
use Rattle.width_table.specs.Nodes.{Node}
use Rattle.stages.specs.Rule.{Bound}
use Rattle.bounds_rule.specs.Carried.{as_bound}
use Rattle.view_precision.specs.Bounds.{inverse_bound, within_max, pass_right}
use Rattle.view_precision.specs.Places.{stages, node_after}
use Rattle.view_precision.specs.PlaceLaws.{by_stage, all_right, one_wrong}
use Rattle.view_precision.proofs.Pass.nodes_right.Goals as goal

-- the answer by the stages' own
module _ (bound : Node → Bound) where
  abbrev Is : Bool → ℕ → Type 0
  Is right j = within_max (bound (node_after j)) ≡ right

  by_stages : (r : Bool) → MatchBool r (AllWithin (Is true) (range_with_len 0 stages) 0 stages) ((k : ℕ) × (k < stages) × HoldsAt (Is false) (range_with_len 0 stages) k) → r ≡ pass_right bound
  by_stages true h =
      let at : (k : ℕ) → k < stages → Is true k = by_stage (Is true) (h 0 0 (lit≤ tt) (lit< tt)) (h 1 0 (lit≤ tt) (lit< tt)) (h 2 0 (lit≤ tt) (lit< tt)) (h 3 0 (lit≤ tt) (lit< tt)) (h 4 0 (lit≤ tt) (lit< tt)) (h 5 0 (lit≤ tt) (lit< tt)) in
      sym (all_right bound at)
  by_stages false h =
      sym (one_wrong bound h.0 h.1 (by_stage (λ k. HoldsAt (Is false) (range_with_len 0 stages) k → Is false k) (λ i. i 0) (λ i. i 0) (λ i. i 0) (λ i. i 0) (λ i. i 0) (λ i. i 0) h.0 h.1 h.2))

pub returns : goal.returns
returns c =
    let b = inverse_bound (as_bound c.args.self.now.low) (as_bound c.args.self.now.high) in
    by_stages b c.all.result (cases_from_all _ _ _ (Is b true) (Is b false) c.all.ensures.ran (YieldsList-from_range 0 6 6 refl refl) (λ x q k. search (rules, tests)) (λ x q k. search (rules, tests)))

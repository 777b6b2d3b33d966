use mathlib.Core.Path.{◌≡◌, sym, ◌∙◌, ap₂}
use lib.Dec.{lit<}
use Rattle.bounds_rule.specs.declared.Bound.{Bound}
use Rattle.bounds_rule.specs.Carried.{as_bound}
use Rattle.view_precision.specs.declared.Pass.{Pass}
use Rattle.view_precision.specs.Bounds.{larger, inverse_bound, pass_right, pass_gives}
use Rattle.view_precision.specs.Places.{sources, owns_below}
use Rattle.view_precision.specs.PlaceLaws.{node_bound_lem}
use Rattle.view_precision.proofs.work_pass.Goals as goal

-- each source has what it has by the bounds that the pass holds
own_is : (pass : Pass) (low high : Bound) → pass.low ≡ low → pass.high ≡ high → pass.own ≡ owns_below (as_bound low) (as_bound high) sources → pass.own ≡ owns_below (as_bound pass.low) (as_bound pass.high) sources
own_is pass low high l h e = e ∙ sym (ap₂ (λ (x y : Bound). owns_below (as_bound x) (as_bound y) sources) l h)

pub nodes_right-requires : goal.nodes_right-requires
nodes_right-requires c =
    let fed = c.fed-pass.ensures in
    own_is c.fed-pass.result _ _ fed.low fed.high fed.own

-- the larger of the even and the odd output
pub returns : goal.returns
unfolding pass_gives inverse_bound
returns c =
    let pass = c.fed-pass.result in
    let fed = c.fed-pass.ensures in
    let own = own_is pass _ _ fed.low fed.high fed.own in
    let even = node_bound_lem (as_bound pass.low) (as_bound pass.high) 4 (lit< tt) own c.node_at-even.ensures.0 in
    let odd = node_bound_lem (as_bound pass.low) (as_bound pass.high) 5 (lit< tt) own c.node_at-odd.ensures.0 in
    record {
      right = c.nodes_right.ensures ∙ ap₂ (λ (x y : Bound). pass_right (inverse_bound (as_bound x) (as_bound y))) fed.low fed.high;
      bound = c.larger_bound.ensures ∙ ap₂ larger even odd ∙ ap₂ (λ (x y : Bound). pass_gives (as_bound x) (as_bound y)) fed.low fed.high;
    }

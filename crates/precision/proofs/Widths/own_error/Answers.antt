use Prim.Native.Nat.{ℕ, ◌-◌, ◌<◌}
use mathlib.Core.Bool.{Bool, true, false}
use mathlib.Core.Path.{◌≡◌, sym, ◌∙◌, ap, ap₂}
use native.Mathlib.Omega.{arith}
use lib.Dec.{ltb}
use lib.ListN.{get_or}
use Rattle.numbers.specs.Tests.{ltb-true, ltb-false}
use Rattle.width_table.specs.Nodes.{G1, node_number}
use Rattle.stages.specs.Stages.{cut_to}
use Rattle.stages.specs.Rule.{own_lift, own_scale}
use Rattle.precision.specs.declared.Widths.{Widths}
use Rattle.precision.specs.Places.{places, multiplied, other, own_by}
use Rattle.precision.specs.PlaceLaws.{multiplied_place_lem}
use Rattle.precision.proofs.Widths.own_error.Goals as goal

-- the own error by the test of its node
module _ (w : Widths) (k r : ℕ) where
  abbrev chosen : Bool → ℕ
  chosen t = elim t [
    | true ↦ own_lift (cut_to (get_or w.products (k - 1) 0)) (get_or w.constants (k - 1) 0) (get_or w.fractions (multiplied k) 0) (get_or w.fractions (other k) 0) (get_or w.fractions k 0) r
    | false ↦ own_scale (get_or w.constants (k - 1) 0) (get_or w.fractions (multiplied k) 0) (get_or w.fractions k 0) r
  ]

  chosen_is : (t : Bool) → ltb k (node_number G1) ≡ t → chosen t ≡ own_by w k r
  unfolding own_by
  chosen_is t e = sym (ap chosen e)

pub own_lift-requires : goal.own_lift-requires
own_lift-requires c =
    let operand : c.multiplied_place.result < places =
    omega (arith, c.multiplied_place.ensures, multiplied_place_lem c.args.node c.requires.node) in
    let l = c.requires.limited in
    omega (arith, l.product c.args.node (omega arith, omega arith), l.constant c.args.node c.requires.node, l.fraction c.multiplied_place.result operand, l.fraction c.args.node (omega arith), c.requires.node.1)

pub returns-then-node-lt-G1 : goal.returns-then-node-lt-G1
returns-then-node-lt-G1 c =
    let a = c.args in
    let f : ℕ → ℕ = λ k. get_or a.self.now.fractions k 0 in
    c.own_lift.ensures
    ∙ ap₂ (λ (x y : ℕ). own_lift (cut_to (get_or a.self.now.products (a.node - 1) 0)) (get_or a.self.now.constants (a.node - 1) 0) (f x) (f y) (f a.node) a.total) c.multiplied_place.ensures c.saturating_sub.ensures
    ∙ chosen_is a.self.now a.node a.total true (ltb-true a.node (node_number G1) c.if-node-lt-G1.true)

pub own_scale-requires : goal.own_scale-requires
own_scale-requires c =
    let operand : c.multiplied_place.result < places =
    omega (arith, c.multiplied_place.ensures, multiplied_place_lem c.args.node c.requires.node) in
    let l = c.requires.limited in
    omega (arith, l.constant c.args.node c.requires.node, l.fraction c.multiplied_place.result operand, l.fraction c.args.node (omega arith), c.requires.node.1)

pub returns : goal.returns
returns c =
    let a = c.args in
    let f : ℕ → ℕ = λ k. get_or a.self.now.fractions k 0 in
    c.own_scale.ensures
    ∙ ap (λ (x : ℕ). own_scale (get_or a.self.now.constants (a.node - 1) 0) (f x) (f a.node) a.total) c.multiplied_place.ensures
    ∙ chosen_is a.self.now a.node a.total false (ltb-false a.node (node_number G1) c.if-node-lt-G1.false)

pub bounds-self-multiplied_place : goal.bounds-self-multiplied_place
bounds-self-multiplied_place c =
    let operand : c.multiplied_place.result < places =
    omega (arith, c.multiplied_place.ensures, multiplied_place_lem c.args.node c.requires.node) in
    omega (arith, operand)

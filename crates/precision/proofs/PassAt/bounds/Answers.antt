use Prim.Native.Nat.{ℕ, ◌+◌, ◌<◌, ◌≤◌}
use mathlib.Core.List.{List}
use mathlib.Core.Path.{◌≡◌, ◌∙◌, subst}
use native.Mathlib.Omega.{arith}
use lib.ListN.{get_or, replicate, get_or-replicate}
use Rattle.stages.specs.Rule.{times_gain}
use Rattle.precision.specs.Places.{places, gain_at, most_total, own_by, own_here, multiplied, Read, Enters}
use Rattle.precision.specs.declared.Widths.{Widths}
use Rattle.width_table.specs.declared.WidthTable.{WidthTable}
use Rattle.width_table.specs.Numbered.{pass_of, IsNode}
use Rattle.bounds_rule.specs.declared.Bound.{Bound}
use Rattle.precision.specs.PlaceLaws.{multiplied_place_lem}
use Rattle.precision.specs.JudgeLaws.{limited, own_read, Carries, Errors, errors_start, ranges_small, errors_small, own_here_lem, own_most, errors_next, all_held}
use Rattle.precision.proofs.PassAt.bounds.Goals as goal

-- what starts from zeros
zeros-small : (i : ℕ) → i < places → get_or (replicate places 0) i 0 ≤ most_total
zeros-small i h = omega (arith, get_or-replicate {A = ℕ} places i 0 0 h)

from-zeros : (v : ℕ) (x : List ℕ) → ((i : ℕ) → i < places → get_or x i 0 ≡ get_or (replicate places 0) i 0 + times_gain v (gain_at 0 i)) → Carries v x
from-zeros v x c i h = omega (arith, c i h, get_or-replicate {A = ℕ} places i 0 0 h)

-- the value that the node multiplies
operand : (k m : ℕ) → IsNode k → m ≡ multiplied k → m < places
operand k m i e = omega (arith, e, multiplied_place_lem k i)

-- once the pass is entered
module _ (t : WidthTable) (l p : ℕ) (b : Bound) (h : Enters t l p b) (ranges errors : List ℕ) (r : Carries b.range ranges) (k : ℕ) (i : IsNode k) (e : Errors t l p k errors) where
  total : (m : ℕ) → m < places → get_or ranges m 0 + get_or errors m 0 ≤ most_total
  total m j = omega (arith, ranges_small h ranges r m j, errors_small h k errors e m j)

  -- its own error
  own : (w : Widths) → Read t l p w → (m : ℕ) → m ≡ multiplied k → (x : ℕ) → x ≡ own_by w k (get_or ranges m 0 + get_or errors m 0) → x ≡ own_here t l (pass_of p) k
  own w read m is x d = own_here_lem h k i ranges errors r e is (d ∙ own_read read k i _)

pub carry-ranges-requires : goal.carry-ranges-requires
carry-ranges-requires c = (omega (arith, c.requires.small), omega arith, zeros-small)

pub carry-errors-requires : goal.carry-errors-requires
carry-errors-requires c = (omega (arith, c.requires.small), omega arith, zeros-small)

pub loop-node-init : goal.loop-node-init
loop-node-init c = (omega arith, omega arith, errors_start c.requires c.carry-errors.result (from-zeros c.args.input.error c.carry-errors.result c.carry-errors.ensures))

pub offset_bounds-ranges-operand : goal.offset_bounds-ranges-operand
offset_bounds-ranges-operand c = omega (arith, operand c.loop-node.node c.multiplied_place-operand.result (omega arith) c.multiplied_place-operand.ensures)

pub bounds-ranges-operand : goal.bounds-ranges-operand
bounds-ranges-operand c = omega (arith, operand c.loop-node.node c.multiplied_place-operand.result (omega arith) c.multiplied_place-operand.ensures)

pub offset_bounds-errors-operand : goal.offset_bounds-errors-operand
offset_bounds-errors-operand c = omega (arith, operand c.loop-node.node c.multiplied_place-operand.result (omega arith) c.multiplied_place-operand.ensures)

pub bounds-errors-operand : goal.bounds-errors-operand
bounds-errors-operand c = omega (arith, operand c.loop-node.node c.multiplied_place-operand.result (omega arith) c.multiplied_place-operand.ensures)

pub overflow_add-ranges : goal.overflow_add-ranges
overflow_add-ranges c =
    let a = c.args in
    let m = c.multiplied_place-operand.result in
    let r = from-zeros a.input.range c.carry-ranges.result c.carry-ranges.ensures in
    omega (arith, total a.self.now.table.now a.self.now.level a.self.now.pass a.input c.requires c.carry-ranges.result c.loop-node.errors r c.loop-node.node (omega arith) c.loop-node.invariant.2 m (operand c.loop-node.node m (omega arith) c.multiplied_place-operand.ensures))

pub own_error-own-requires : goal.own_error-own-requires
own_error-own-requires c =
    let a = c.args in
    let m = c.multiplied_place-operand.result in
    let r = from-zeros a.input.range c.carry-ranges.result c.carry-ranges.ensures in
    record {
      limited = limited c.widths-widths.ensures;
      node = omega arith;
      total_le_most_total = total a.self.now.table.now a.self.now.level a.self.now.pass a.input c.requires c.carry-ranges.result c.loop-node.errors r c.loop-node.node (omega arith) c.loop-node.invariant.2 m (operand c.loop-node.node m (omega arith) c.multiplied_place-operand.ensures);
    }

pub carry-errors-requires-in-loop-node : goal.carry-errors-requires-in-loop-node
carry-errors-requires-in-loop-node c =
    let a = c.args in
    let r = from-zeros a.input.range c.carry-ranges.result c.carry-ranges.ensures in
    let o = own a.self.now.table.now a.self.now.level a.self.now.pass a.input c.requires c.carry-ranges.result c.loop-node.errors r c.loop-node.node (omega arith) c.loop-node.invariant.2 c.widths-widths.result c.widths-widths.ensures c.multiplied_place-operand.result c.multiplied_place-operand.ensures c.own_error-own.result c.own_error-own.ensures in
    (omega (arith, o, own_most c.requires c.loop-node.node (omega arith)), omega arith, λ k q. omega (arith, errors_small c.requires c.loop-node.node c.loop-node.errors c.loop-node.invariant.2 k q))

pub loop-node-preserved : goal.loop-node-preserved
loop-node-preserved c =
    let a = c.args in
    let r = from-zeros a.input.range c.carry-ranges.result c.carry-ranges.ensures in
    let o = own a.self.now.table.now a.self.now.level a.self.now.pass a.input c.requires c.carry-ranges.result c.loop-node.errors r c.loop-node.node (omega arith) c.loop-node.invariant.2 c.widths-widths.result c.widths-widths.ensures c.multiplied_place-operand.result c.multiplied_place-operand.ensures c.own_error-own.result c.own_error-own.ensures in
    (omega arith, omega arith, errors_next c.requires c.loop-node.node (omega arith) c.loop-node.errors c.carry-errors-in-loop-node.result c.loop-node.invariant.2 o c.carry-errors-in-loop-node.ensures)

pub returns : goal.returns
returns c =
    let a = c.args in
    let r = from-zeros a.input.range c.carry-ranges.result c.carry-ranges.ensures in
    let end : c.loop-node.node ≡ places = omega arith in
    all_held c.requires _ c.widths-widths.ensures r (subst (λ (k : ℕ). Errors a.self.now.table.now a.self.now.level a.self.now.pass k c.loop-node.errors) end c.loop-node.invariant.2)

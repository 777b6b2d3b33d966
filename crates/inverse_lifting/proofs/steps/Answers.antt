-- `inverse_lifting::steps` meets its contract. The loop's invariant: the first j columns have taken their step.
use native.Mathlib.Omega.{arith}
use borrow.Author.Rules.{rules}
use mathlib.Core.Path.{◌≡◌, sym}
use mir.Syntax.{w32, w64}
use Rattle.numbers.specs.Auto.{rd}
use Rattle.slices.specs.Patch.{at}
use Rattle.slices.specs.Runs.{as_type}
use Rattle.inverse_lifting.specs.Columns.{pipeline_in, held_of, ColumnReady, ColumnStepped, none_done, ready_now, steps_more, steps_all}
use Rattle.inverse_lifting.proofs.steps.Goals as goal

pub column_step-t-requires : goal.column_step-t-requires
column_step-t-requires g c =
    let a = c.args in
    let t = c.loop-j in
    let low_is : rd w64 (at a.low.now t.j) ≡ at a.low.now t.j = search rules in
    let high_is : rd w32 (at a.high.now t.j) ≡ at a.high.now t.j = search rules in
    record {
      sized = c.requires.sized;
      y = c.requires.y t.j;
      ready = as_type (λ u. ColumnReady a.b a.i (pipeline_in (held_of t.held t.j)) (sym low_is u) (sym high_is u) (c.requires.y t.j)) (ready_now t.invariant (c.requires.ready t.j c.loop-j-test.true));
    }

pub loop-j-init : goal.loop-j-init
loop-j-init g c = none_done _ _ _ _ _ _ _

pub loop-j-preserved : goal.loop-j-preserved
loop-j-preserved g c =
    let a = c.args in
    let t = c.loop-j in
    let low_is : rd w64 (at a.low.now t.j) ≡ at a.low.now t.j = search rules in
    let high_is : rd w32 (at a.high.now t.j) ≡ at a.high.now t.j = search rules in
    let d : ColumnStepped (held_of t.held t.j) (at a.low.now t.j) (at a.high.now t.j) a.b a.i c.column_step-t.result =
    as_type (λ u. ColumnStepped (held_of t.held t.j) (low_is u) (high_is u) a.b a.i c.column_step-t.result) c.column_step-t.ensures in
    steps_more t.invariant (omega (arith, c.requires.room)) (omega (arith, c.requires.some_even)) (omega (arith, c.requires.some_odd)) d _ _ _
    (record { g2 = search rules; u2 = search rules; p2 = search rules; u1 = search rules; even = λ h. search rules; odd = λ h k. search rules })

pub returns : goal.returns
returns g c = steps_all c.loop-j.invariant (omega arith)

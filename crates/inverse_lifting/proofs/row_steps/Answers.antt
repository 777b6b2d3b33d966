-- `inverse_lifting::row_steps` meets its contract. The loop's invariant: step i - 1 is held, and the steps before step i have left their values.
use mathlib.Core.Path.{◌≡◌, refl}
use native.Mathlib.Omega.{arith}
use borrow.Author.Rules.{rules}
use lib.ListN.{length-set}
use lib.Dec.{lit≤, lit<}
use Rattle.lines.specs.Lines.{lows, highs}
use Rattle.slices.specs.Patch.{at}
use Rattle.inverse_lifting.specs.Stages.{again}
use Rattle.inverse_lifting.specs.Steps.{Ready, step_held, step_gives}
use Rattle.inverse_lifting.specs.Rows.{row_line, low_small, high_small, step_ready, step_asked, step_taken, held_at, stand_next}
use Rattle.inverse_lifting.proofs.row_steps.Goals as goal

pub up_to-a-requires : goal.up_to-a-requires
up_to-a-requires g c e = let h = (c.requires.middle e).1 c.loop-i.i (omega arith) (omega arith) in omega arith

pub up_to-b-requires : goal.up_to-b-requires
up_to-b-requires g c e = let h = (c.requires.middle e).1 c.loop-i.i (omega arith) (omega arith) in omega arith

pub scaled-requires : goal.scaled-requires
scaled-requires g c = (low_small c.requires.ready c.requires.two c.loop-i.i c.up_to-a.result c.up_to-b.result c.up_to-a.ensures c.up_to-b.ensures, lit≤ tt, lit< tt)

pub scaled-requires-in-loop-i : goal.scaled-requires-in-loop-i
scaled-requires-in-loop-i g c = (high_small c.requires.ready c.requires.two c.loop-i.i c.up_to-a.result c.up_to-b.result c.up_to-a.ensures c.up_to-b.ensures, lit≤ tt, lit< tt)

pub stepped-t-requires : goal.stepped-t-requires
stepped-t-requires g c =
    let ready : let a = c.args in
    Ready (row_line (at a.work.now) a.from a.w) c.loop-i.i (lows a.w) (highs a.w) c.loop-i.t c.scaled.result c.scaled-in-loop-i.result =
    step_ready c.requires.ready c.requires.two c.loop-i.i c.up_to-a.result c.up_to-b.result c.up_to-a.ensures c.up_to-b.ensures
    c.loop-i.t c.scaled.result c.scaled-in-loop-i.result (omega arith) c.loop-i.invariant.3 c.scaled.ensures c.scaled-in-loop-i.ensures in (
      step_asked ready,
      λ e. let m = c.requires.middle e in (omega arith, m.1 c.loop-i.i (omega arith) (omega arith)),
    )

pub loop-i-preserved : goal.loop-i-preserved
loop-i-preserved g c =
    let ready : let a = c.args in
    Ready (row_line (at a.work.now) a.from a.w) c.loop-i.i (lows a.w) (highs a.w) c.loop-i.t c.scaled.result c.scaled-in-loop-i.result =
    step_ready c.requires.ready c.requires.two c.loop-i.i c.up_to-a.result c.up_to-b.result c.up_to-a.ensures c.up_to-b.ensures
    c.loop-i.t c.scaled.result c.scaled-in-loop-i.result (omega arith) c.loop-i.invariant.3 c.scaled.ensures c.scaled-in-loop-i.ensures in
    let q = ready in
    let d = step_taken q c.stepped-t.ensures in (
      omega arith,
      omega (arith, c.loop-i-test.true),
      simp length-set c.loop-i.invariant.2,
      λ h. held_at (step_held q d) (omega arith),
      stand_next _ c.loop-i.i c.loop-i.line c.stepped-t.result _ _ c.loop-i.invariant.4 (step_gives q d) (omega arith)
          (again c.stepped-t.result.even (search rules)) (again c.stepped-t.result.odd (search rules)),
    )

pub returns : goal.returns
returns g c =
    let e : c.loop-i.i ≡ c.args.end = omega arith in
    record { held = λ h. held_at (c.loop-i.invariant.3 (omega arith)) (omega arith); stand = λ k two h. c.loop-i.invariant.4 k two (omega arith) }

pub loop-i-init : goal.loop-i-init
loop-i-init g c = let p = c.requires in (omega arith, p.order, refl, p.held, p.stand)

-- `reversible::pixel_columns` meets its contract. The loop's invariant: i lines of highs and i of lows are done.
use mathlib.Core.Path.{◌≡◌}
use Prim.Native.Nat.{◌+◌}
use native.Mathlib.Omega.{arith}
use Rattle.lines.specs.Lines.{highs}
use Rattle.slices.specs.Patch.{at}
use Rattle.reversible.specs.Columns.{high_more, low_more, columns_done, lows_to}
use Rattle.reversible.proofs.pixel_columns.Goals as goal

pub low_at-requires-clause-highs_to : goal.low_at-requires-clause-highs_to
low_at-requires-clause-highs_to c =
    let t = c.loop-i in
    let g = c.args in
    let after_high = high_more g.pixels.now g.middle g.w g.h t.i t.i (at g.plane.now) (at t.plane) t.invariant _ c.loop-i-test.true (omega arith) c.high_at.ensures in
    after_high.highs_stand

pub loop-i-preserved : goal.loop-i-preserved
loop-i-preserved c =
    let t = c.loop-i in
    let g = c.args in
    let after_high = high_more g.pixels.now g.middle g.w g.h t.i t.i (at g.plane.now) (at t.plane) t.invariant _ c.loop-i-test.true (omega arith) c.high_at.ensures in
    low_more g.pixels.now g.middle g.w g.h (t.i + 1) t.i (at g.plane.now) _ after_high _ (omega arith) c.low_at.ensures

pub returns-then-high-h : goal.returns-then-high-h
returns-then-high-h c =
    let t = c.loop-i in
    let g = c.args in
    let e : t.i ≡ highs g.h = omega arith in
    columns_done g.pixels.now g.middle g.w g.h t.i (highs g.h + 1) (at g.plane.now) _
    (low_more g.pixels.now g.middle g.w g.h t.i (highs g.h) (at g.plane.now) (at t.plane) (lows_to t.invariant e) _ (omega arith) c.low_at-then-high-h.ensures) c.requires e (omega arith)

pub returns-else-high-h : goal.returns-else-high-h
returns-else-high-h c =
    let t = c.loop-i in
    let g = c.args in
    columns_done g.pixels.now g.middle g.w g.h t.i t.i (at g.plane.now) _ t.invariant c.requires (omega arith) (omega arith)

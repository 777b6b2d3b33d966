-- `inverse_lifting::inverse_strip` meets its contract. The loop's invariant: the steps before step i are taken.
use Rattle.std.specs.Prelude.{◌≡◌, ℕ, ◌+◌}
use Rattle.std.proofs.Common.{subst, arith, length-drop, length-take-le}
use Rattle.lines.specs.Lines.{lows}
use Rattle.inverse_lifting.specs.Strips.{high_place}
use Rattle.inverse_lifting.specs.StripSteps.{high_line_lem}
use Rattle.inverse_lifting.specs.StripLoop.{StripDone, none_taken, column_ready, strip_more, strip_all, placed_as}
use Rattle.inverse_lifting.proofs.inverse_strip.Goals as goal

pub feed-requires : goal.feed-requires
feed-requires c =
    let q = c.requires.0 in
    (record { few = q.placed.few; narrow = q.placed.narrow; in_plane = q.in_plane; in_work = λ k h. omega (arith, q.placed.in_work k h) }, c.loop-i.invariant.0)

pub strip_step-requires : goal.strip_step-requires
strip_step-requires c =
    let q = c.requires.0 in
    let t = c.loop-i in
    let there = q.in_plane _ (high_line_lem c.args.s.size.lines t.i q.placed.two.least) in (
      record {
        placed = placed_as q.placed _ _ t.auto.work t.auto.line;
        some_high = omega (arith, there, length-drop (high_place c.args.s.place c.args.s.size t.i) c.args.plane.now);
        some_low = omega (arith, c.feed.auto.next);
        room = t.invariant.1;
        within = c.loop-i-test.true;
        y = _;
        ready = column_ready q t.invariant.2 c.loop-i-test.true c.feed.ensures;
      },
      there,
    )

pub loop-i-init : goal.loop-i-init
loop-i-init c =
    let s = c.split_at_mut-held.ensures in
    (length-take-le c.args.s.size.columns c.split_at_mut-held.result.1.now (omega (arith, s.back_len, c.requires.1)), omega (arith, s.front_len, c.as_chunks_mut-held.ensures.front_len), none_taken _ _ _ _ _ _)

pub loop-i-preserved : goal.loop-i-preserved
loop-i-preserved c =
    let t = c.loop-i in
    (omega (arith, c.feed.auto.next), omega (arith, c.strip_step.auto.held), strip_more c.requires.0 t.invariant.2 c.loop-i-test.true c.feed.ensures c.strip_step.ensures)

pub returns : goal.returns
returns c =
    let t = c.loop-i in
    let a = c.args in
    let e : t.i ≡ lows a.s.size.lines + 2 = omega arith in
    strip_all c.requires.0 (subst (λ (i : ℕ). StripDone a.plane.now a.work.now t.work t.low t.held a.s.place a.s.size i) e t.invariant.2)

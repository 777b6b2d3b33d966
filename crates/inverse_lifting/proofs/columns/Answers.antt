-- `inverse_lifting::columns` meets its contract. A single line goes by itself. The loop's invariant: the first `done` columns are inverted.
use mathlib.Core.Path.{◌≡◌, refl, sym, ap, subst, ◌∙◌}
use Prim.Native.Nat.{ℕ, ◌+◌, ◌*◌, ◌≤◌}
use native.Mathlib.Omega.{arith}
use lib.IntN.{nat_abs}
use lib.ListN.{length}
use Rattle.slices.specs.Patch.{at}
use Rattle.slices.specs.PatchLines.{lines_none, lines_to}
use Rattle.inverse_lifting.specs.Fixed.{limit}
use Rattle.inverse_lifting.specs.Planes.{Safe}
use Rattle.inverse_lifting.specs.Strips.{source, inverted, Lies, source_as_was, inverted_more, inverted_none, inverted_single}
use Rattle.inverse_lifting.proofs.columns.Goals as goal

pub single_line-requires : goal.single_line-requires
single_line-requires c =
    let a = c.args in
    let e : a.b.lines ≡ 1 = omega arith in record {
      lies = (subst (Lies _ _ a.a a.b.columns) e c.requires.lies.0, c.requires.lies.3);
      by_index = λ j g. subst (λ (h : ℕ). nat_abs (source a.a h (at a.plane.now) (at a.work.now) j 0) ≤ limit) e ((c.requires.by_index j g).enters 0 (omega arith));
    }

pub returns-then-b-eq1 : goal.returns-then-b-eq1
returns-then-b-eq1 c =
    let a = c.args in
    let e : 1 ≡ a.b.lines = omega arith in record {
      work = c.single_line.ensures ∙ inverted_single a.a a.b.lowbits a.b.highbits a.b.columns (at a.plane.now) (at a.work.now)
          ∙ ap (λ (h : ℕ). inverted a.a a.b.lowbits a.b.highbits a.b.columns h (at a.plane.now) (at a.work.now)) e;
      state = refl;
      line = refl;
    }

pub inverse_strip-requires : goal.inverse_strip-requires
inverse_strip-requires c =
    let width : let a = c.args in (1 ≤ c.min-s.result) × (c.loop-done.done + c.min-s.result ≤ a.b.columns) × (5 * c.min-s.result ≤ length a.state.now) =
    (omega (arith, c.min-s.ensures), omega (arith, c.min-s.ensures), omega (arith, c.min-s.ensures)) in
    let t = c.loop-done in
    let a = c.args in
    let q = c.requires.lies.0 in
    let z = width in (
      record {
        placed = record {
          two = record { least = omega arith };
          few = q.few;
          narrow = omega (arith, q.narrow);
          in_work = λ k h. omega (arith, q.in_work k h, t.invariant.1);
          spare = omega (arith, t.invariant.3, c.requires.lies.2);
          lowbits = c.requires.lies.3;
          highbits = c.requires.lies.4;
        };
        in_plane = λ k h. omega (arith, q.in_plane k h);
        safe = λ j g.
            subst (Safe a.b.lowbits a.b.highbits a.b.lines)
            (sym (source_as_was a.a a.b.lowbits a.b.highbits t.done c.min-s.result a.b.lines (omega (arith, q.narrow)) (at a.plane.now) (at a.work.now) _ t.invariant.4 j g))
            (c.requires.by_index (t.done + j) (omega arith));
      },
      omega (arith, t.invariant.2),
    )

pub loop-done-preserved : goal.loop-done-preserved
loop-done-preserved c =
    let width : let a = c.args in (1 ≤ c.min-s.result) × (c.loop-done.done + c.min-s.result ≤ a.b.columns) × (5 * c.min-s.result ≤ length a.state.now) =
    (omega (arith, c.min-s.ensures), omega (arith, c.min-s.ensures), omega (arith, c.min-s.ensures)) in
    let t = c.loop-done in
    let a = c.args in
    let z = width in (
      omega arith,
      omega (arith, t.invariant.1),
      omega (arith, t.invariant.2),
      omega (arith, t.invariant.3),
      inverted_more a.a a.b.lowbits a.b.highbits t.done c.min-s.result a.b.lines (omega (arith, c.requires.lies.0.narrow)) (at a.plane.now) (at a.work.now) _ t.invariant.4 _ c.inverse_strip.ensures,
    )

pub returns : goal.returns
returns c =
    let t = c.loop-done in
    let a = c.args in
    let e : t.done ≡ a.b.columns = omega arith in
    record {
      work = t.invariant.4 ∙ ap (λ (w : ℕ). inverted a.a a.b.lowbits a.b.highbits w a.b.lines (at a.plane.now) (at a.work.now)) e;
      state = t.invariant.2;
      line = t.invariant.3;
    }

pub returns-then-b-eq0 : goal.returns-then-b-eq0
returns-then-b-eq0 c = record { work = lines_to _ _ 0 _ _ _ _ (lines_none _ _ _ _) (omega arith); state = refl; line = refl }

pub overflow_add-done : goal.overflow_add-done
overflow_add-done c =
    let width : let a = c.args in (1 ≤ c.min-s.result) × (c.loop-done.done + c.min-s.result ≤ a.b.columns) × (5 * c.min-s.result ≤ length a.state.now) =
    (omega (arith, c.min-s.ensures), omega (arith, c.min-s.ensures), omega (arith, c.min-s.ensures)) in
    omega (arith, width)

pub loop-done-smaller : goal.loop-done-smaller
loop-done-smaller c =
    let width : let a = c.args in (1 ≤ c.min-s.result) × (c.loop-done.done + c.min-s.result ≤ a.b.columns) × (5 * c.min-s.result ≤ length a.state.now) =
    (omega (arith, c.min-s.ensures), omega (arith, c.min-s.ensures), omega (arith, c.min-s.ensures)) in
    omega (arith, width)

pub loop-done-init : goal.loop-done-init
loop-done-init c = (omega arith, refl, refl, refl, inverted_none _ _ _ _ _ _)

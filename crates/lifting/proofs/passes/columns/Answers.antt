-- `lifting::passes::columns` meets its contract. The loop's invariant: the first `done` columns are worked.
use mathlib.Core.Path.{◌≡◌, refl, sym, ap, subst, ◌∙◌}
use Prim.Native.Nat.{ℕ, ◌+◌, ◌*◌, ◌-◌, ◌/◌, ◌<◌, ◌≤◌}
use native.Mathlib.Omega.{arith}
use lib.ListN.{length}
use Rattle.std.specs.Prelude.{min}
use Rattle.slices.specs.Patch.{at}
use Rattle.lifting.specs.Kernels.{worked, SafeKernel, columns_worked}
use Rattle.slices.specs.PartLaws.{column_as_was, columns_more, columns_none}
use Rattle.lifting.specs.Strips.{some_width, enough_room, part_strip}
use Rattle.lifting.proofs.passes.columns.Goals as goal

-- the strip's width
width : (t h most rest s : ℕ) → 0 < h → h ≤ t → most ≡ min 64 (t / h) → 0 < rest → s ≡ min most rest → (1 ≤ s) × (s ≤ rest) × (h * s ≤ t)
width t h most rest s some room e left is =
    let one = some_width t h some room in
    (omega arith, omega arith, enough_room t h s (omega arith))

pub loop-done-init : goal.loop-done-init
loop-done-init c = (omega arith, refl, refl, columns_none (worked c.args.kernel) _ _ _ _)

pub overflow_add-next : goal.overflow_add-next
overflow_add-next c = omega (arith, c.requires.part.0.narrow)

pub strip-requires : goal.strip-requires
strip-requires c =
    let a = c.args in
    let wide : (1 ≤ c.min-s.result) × (c.min-s.result ≤ a.part.w - c.loop-done.done) × (a.part.h * c.min-s.result ≤ length a.buffer.now) =
    width (length a.buffer.now) a.part.h c.min-most.result (a.part.w - c.loop-done.done) c.min-s.result (omega arith) (omega arith) c.min-most.ensures (omega arith) c.min-s.ensures in
    let p = c.requires.part.0 in
    record {
      strip_room = part_strip p c.requires.part.1 _ _ (omega arith) c.loop-done.done _ wide.0 (omega arith) (omega arith);
      by_index = λ j g. subst (SafeKernel a.kernel a.part.h)
          (sym (column_as_was (worked a.kernel) a.part.stride a.part.from c.loop-done.done c.min-s.result a.part.h (omega (arith, p.narrow)) (at a.plane.now) _ c.loop-done.invariant.3 j g))
          (c.requires.by_index (c.loop-done.done + j) (omega arith));
    }

pub overflow_add-done : goal.overflow_add-done
overflow_add-done c =
    let a = c.args in
    let wide : (1 ≤ c.min-s.result) × (c.min-s.result ≤ a.part.w - c.loop-done.done) × (a.part.h * c.min-s.result ≤ length a.buffer.now) =
    width (length a.buffer.now) a.part.h c.min-most.result (a.part.w - c.loop-done.done) c.min-s.result (omega arith) (omega arith) c.min-most.ensures (omega arith) c.min-s.ensures in
    omega arith

pub loop-done-preserved : goal.loop-done-preserved
loop-done-preserved c =
    let a = c.args in
    let wide : (1 ≤ c.min-s.result) × (c.min-s.result ≤ a.part.w - c.loop-done.done) × (a.part.h * c.min-s.result ≤ length a.buffer.now) =
    width (length a.buffer.now) a.part.h c.min-most.result (a.part.w - c.loop-done.done) c.min-s.result (omega arith) (omega arith) c.min-most.ensures (omega arith) c.min-s.ensures in (
      omega arith,
      omega arith,
      omega arith,
      columns_more (worked a.kernel) a.part.stride a.part.from c.loop-done.done c.min-s.result a.part.h (omega (arith, c.requires.part.0.narrow)) (at a.plane.now) _ c.loop-done.invariant.3 _ c.strip.ensures,
    )

pub loop-done-smaller : goal.loop-done-smaller
loop-done-smaller c =
    let a = c.args in
    let wide : (1 ≤ c.min-s.result) × (c.min-s.result ≤ a.part.w - c.loop-done.done) × (a.part.h * c.min-s.result ≤ length a.buffer.now) =
    width (length a.buffer.now) a.part.h c.min-most.result (a.part.w - c.loop-done.done) c.min-s.result (omega arith) (omega arith) c.min-most.ensures (omega arith) c.min-s.ensures in
    omega arith

pub returns : goal.returns
returns c =
    let a = c.args in
    let e : c.loop-done.done ≡ a.part.w = omega arith in
    record {
      plane = c.loop-done.invariant.3 ∙ ap (λ (w : ℕ). columns_worked a.kernel a.part.stride a.part.from w a.part.h (at a.plane.now)) e;
      buffer = c.loop-done.invariant.2;
    }

-- In the middle both lines of highs beside it, at the ends the one.
use mathlib.Core.Path.{◌≡◌, refl, sym, ap, ◌∙◌}
use Prim.Native.Nat.{ℕ, suc, ◌+◌, ◌*◌, ◌-◌, ◌<◌, ◌≤◌}
use native.Mathlib.Omega.{arith}
use native.Mathlib.Nat.{mul-le-mul_right}
use Rattle.lines.specs.Lines.{lows, highs, Liftable}
use Rattle.lines.specs.LineLaws.{some_highs_lem}
use Rattle.lifting.specs.declared.Step.TheVariants.{Update}
use Rattle.lifting.specs.Steps.{applied, Safe}
use Rattle.slices.specs.Runs.{as_type}
use Rattle.slices.specs.Patch.{at, patch_ext}
use Rattle.reversible.specs.Columns.{line_in_lem, lines_few, low_first, low_middle, low_last}
use Rattle.reversible.proofs.low_at.Goals as goal

module _ (i w h : ℕ) where
  -- the line's own pixels, its place in the plane, and the lines of highs beside it
  own_in : i < lows h → 2 * i * w + w ≤ w * h
  own_in l = line_in_lem w h (2 * i) (omega arith)

  first_in : Liftable h → lows h * w + w ≤ w * h
  first_in tall = line_in_lem w h (lows h) (omega (arith, some_highs_lem h tall))

  to_before : i < lows h → i * w + w ≤ lows h * w
  to_before l = omega (arith, line_in_lem w (lows h) i l)

  before_in : 0 < i → i < lows h → (lows h + i - 1) * w + w ≤ w * h
  before_in some l = line_in_lem w h (lows h + i - 1) (omega arith)

  before_after : 0 < i → lows h * w ≤ (lows h + i - 1) * w
  before_after some = mul-le-mul_right {m = lows h} {n = lows h + i - 1} w (omega arith)

  -- in the middle, the line after it too
  both_in : 0 < i → i < highs h → (lows h + i - 1) * w + w + w ≤ w * h
  both_in some l =
      let e : suc (lows h + i - 1) * w ≡ (lows h + i) * w = ap (λ (t : ℕ). t * w) (omega arith) in
      omega (arith, line_in_lem w h (lows h + i) (omega arith))

pub low_end-requires : goal.low_end-requires
low_end-requires c =
    let g = c.args in
    let p = c.requires.pixel_room in record {
      n_in_bounds = omega (arith, own_in g.i g.w g.h p.1, first_in g.i g.w g.h p.0.tall, to_before g.i g.w g.h p.1, p.0.held, p.0.room);
      by_index = λ j q. as_type (sym (low_first (Safe Update) g.pixels.now g.middle g.w g.h j g.i (at g.plane.now) c.requires.highs_to q p.0.tall c.if-i-eq0.true)) ((p.0.safe j q).on_lows_lem g.i p.1);
    }

pub low_line-requires : goal.low_line-requires
low_line-requires c =
    let g = c.args in
    let p = c.requires.pixel_room in
    let i = c.if-i-h.true in
    let some : 0 < g.i = omega arith in record {
      n_in_bounds = omega (arith, own_in g.i g.w g.h p.1, to_before g.i g.w g.h p.1, before_in g.i g.w g.h some p.1, before_after g.i g.w g.h some, both_in g.i g.w g.h some i, p.0.held, p.0.room);
      by_index = λ j q. as_type (sym (low_middle (Safe Update) g.pixels.now g.middle g.w g.h j g.i (at g.plane.now) c.requires.highs_to q some i _ refl)) ((p.0.safe j q).on_lows_lem g.i p.1);
    }

pub low_end-requires-else-i-h : goal.low_end-requires-else-i-h
low_end-requires-else-i-h c =
    let g = c.args in
    let p = c.requires.pixel_room in
    let some : 0 < g.i = omega arith in record {
      n_in_bounds = omega (arith, own_in g.i g.w g.h p.1, to_before g.i g.w g.h p.1, before_in g.i g.w g.h some p.1, before_after g.i g.w g.h some, p.0.held, p.0.room);
      by_index = λ j q. as_type (sym (low_last (Safe Update) g.pixels.now g.middle g.w g.h j g.i (at g.plane.now) c.requires.highs_to q some p.1 (omega arith) _ refl)) ((p.0.safe j q).on_lows_lem g.i p.1);
    }

pub returns-then-i-eq0 : goal.returns-then-i-eq0
returns-then-i-eq0 c =
    let g = c.args in
    c.low_end.ensures ∙ patch_ext _ _ _ _ (at g.plane.now) (λ j p. low_first (applied Update) g.pixels.now g.middle g.w g.h j g.i (at g.plane.now) c.requires.highs_to p c.requires.pixel_room.0.tall c.if-i-eq0.true)

pub returns-then-i-h : goal.returns-then-i-h
returns-then-i-h c =
    let g = c.args in
    let some : 0 < g.i = omega arith in
    c.low_line.ensures ∙ patch_ext _ _ _ _ (at g.plane.now) (λ j p. low_middle (applied Update) g.pixels.now g.middle g.w g.h j g.i (at g.plane.now) c.requires.highs_to p some c.if-i-h.true _ refl)

pub returns-else-i-h : goal.returns-else-i-h
returns-else-i-h c =
    let g = c.args in
    let some : 0 < g.i = omega arith in
    c.low_end-else-i-h.ensures ∙ patch_ext _ _ _ _ (at g.plane.now) (λ j p. low_last (applied Update) g.pixels.now g.middle g.w g.h j g.i (at g.plane.now) c.requires.highs_to p some c.requires.pixel_room.1 (omega arith) _ refl)

pub overflow_add-low : goal.overflow_add-low
overflow_add-low c = let p = c.requires.pixel_room.0 in omega (arith, lines_few c.args.w c.args.h p.some, p.held)

pub overflow_mul-own : goal.overflow_mul-own
overflow_mul-own c = let p = c.requires.pixel_room in omega (arith, lines_few c.args.w c.args.h p.0.some, p.0.held, p.1)

pub overflow_mul-own-2 : goal.overflow_mul-own-2
overflow_mul-own-2 c = let p = c.requires.pixel_room in omega (arith, own_in c.args.i c.args.w c.args.h p.1, p.0.held)

pub overflow_mul-to : goal.overflow_mul-to
overflow_mul-to c = let p = c.requires.pixel_room in omega (arith, own_in c.args.i c.args.w c.args.h p.1, p.0.held)

pub overflow_mul-low : goal.overflow_mul-low
overflow_mul-low c = let p = c.requires.pixel_room.0 in omega (arith, first_in c.args.i c.args.w c.args.h p.tall, p.room)

pub overflow_add-before : goal.overflow_add-before
overflow_add-before c = let p = c.requires.pixel_room in omega (arith, lines_few c.args.w c.args.h p.0.some, p.0.held, p.1)

pub overflow_mul-before : goal.overflow_mul-before
overflow_mul-before c = let p = c.requires.pixel_room in omega (arith, before_in c.args.i c.args.w c.args.h (omega arith) p.1, p.0.room)

pub overflow_add-before-then-i-h : goal.overflow_add-before-then-i-h
overflow_add-before-then-i-h c = let p = c.requires.pixel_room in omega (arith, before_in c.args.i c.args.w c.args.h (omega arith) p.1, p.0.room)

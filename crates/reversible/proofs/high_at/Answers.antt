-- In the middle both lines beside it, at the end of an even height the one.
use mathlib.Core.Path.{sym, ◌∙◌}
use Prim.Native.Nat.{ℕ, ◌+◌, ◌*◌, ◌<◌, ◌≤◌}
use native.Mathlib.Omega.{arith}
use Rattle.lines.specs.Lines.{lows, highs}
use Rattle.lifting.specs.declared.Step.TheVariants.{Predict}
use Rattle.lifting.specs.Steps.{applied, Safe}
use Rattle.slices.specs.Runs.{as_type}
use Rattle.slices.specs.Patch.{at, patch_ext}
use Rattle.reversible.specs.Columns.{line_in_lem, lines_few, high_middle, high_last}
use Rattle.reversible.proofs.high_at.Goals as goal

module _ (i w h : ℕ) where
  -- the line's own pixels, its place in the plane, and in the middle the line after it
  own_in : i < highs h → (2 * i + 1) * w + w ≤ w * h
  own_in l = line_in_lem w h (2 * i + 1) (omega arith)

  to_in : i < highs h → (lows h + i) * w + w ≤ w * h
  to_in l = line_in_lem w h (lows h + i) (omega arith)

  after_in : i + 1 < lows h → (2 * i + 1) * w + w + w ≤ w * h
  after_in l = omega (arith, line_in_lem w h (2 * i + 2) (omega arith))

pub overflow_add-low : goal.overflow_add-low
overflow_add-low c = let p = c.requires.0 in omega (arith, lines_few c.args.w c.args.h p.some, p.held)

pub overflow_mul-own : goal.overflow_mul-own
overflow_mul-own c = let p = c.requires.0 in omega (arith, lines_few c.args.w c.args.h p.some, p.held)

pub overflow_add-own : goal.overflow_add-own
overflow_add-own c = let p = c.requires.0 in omega (arith, lines_few c.args.w c.args.h p.some, p.held)

pub overflow_mul-own-2 : goal.overflow_mul-own-2
overflow_mul-own-2 c = omega (arith, own_in c.args.i c.args.w c.args.h c.requires.1, c.requires.0.held)

pub overflow_add-to : goal.overflow_add-to
overflow_add-to c = let p = c.requires.0 in omega (arith, lines_few c.args.w c.args.h p.some, p.room)

pub overflow_mul-to : goal.overflow_mul-to
overflow_mul-to c = omega (arith, to_in c.args.i c.args.w c.args.h c.requires.1, c.requires.0.room)

pub overflow_add-i : goal.overflow_add-i
overflow_add-i c = let p = c.requires.0 in omega (arith, lines_few c.args.w c.args.h p.some, p.held)

pub overflow_add-own-then-i-low : goal.overflow_add-own-then-i-low
overflow_add-own-then-i-low c = omega (arith, after_in c.args.i c.args.w c.args.h c.if-i-low.true, c.requires.0.held)

pub high_line-requires : goal.high_line-requires
high_line-requires c =
    let g = c.args in
    let p = c.requires.0 in
    let l = c.if-i-low.true in record {
      n_in_bounds = omega (arith, own_in g.i g.w g.h c.requires.1, to_in g.i g.w g.h c.requires.1, after_in g.i g.w g.h l, p.held, p.room);
      by_index = λ j q. as_type (sym (high_middle (Safe Predict) g.pixels.now g.middle g.w g.h j g.i l)) ((p.safe j q).on_highs_lem g.i c.requires.1);
    }

pub high_end-requires : goal.high_end-requires
high_end-requires c =
    let g = c.args in
    let p = c.requires.0 in record {
      n_in_bounds = omega (arith, own_in g.i g.w g.h c.requires.1, to_in g.i g.w g.h c.requires.1, p.held, p.room);
      by_index = λ j q. as_type (sym (high_last (Safe Predict) g.pixels.now g.middle g.w g.h j g.i c.requires.1 c.if-i-low.false)) ((p.safe j q).on_highs_lem g.i c.requires.1);
    }

pub returns-then-i-low : goal.returns-then-i-low
returns-then-i-low c =
    let g = c.args in
    c.high_line.ensures ∙ patch_ext _ _ _ _ (at g.plane.now) (λ j p. high_middle (applied Predict) g.pixels.now g.middle g.w g.h j g.i c.if-i-low.true)

pub returns-else-i-low : goal.returns-else-i-low
returns-else-i-low c =
    let g = c.args in
    c.high_end.ensures ∙ patch_ext _ _ _ _ (at g.plane.now) (λ j p. high_last (applied Predict) g.pixels.now g.middle g.w g.h j g.i c.requires.1 c.if-i-low.false)

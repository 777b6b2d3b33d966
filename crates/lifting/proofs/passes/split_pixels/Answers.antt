-- `lifting::passes::split_pixels` meets its contract. The loop's invariant: i lows and i highs are there.
use mathlib.Core.Path.{◌≡◌, refl, ap, ◌∙◌}
use Prim.Native.Nat.{ℕ, ◌+◌, ◌*◌}
use native.Mathlib.Omega.{arith}
use lib.IntN.{ℤ}
use Rattle.lines.specs.Lines.{lows, highs}
use Rattle.slices.specs.Patch.{patch}
use Rattle.lifting.specs.Buffers.{filled_none, filled_low, filled_high, filled_to}
use Rattle.lifting.specs.PixelLaws.{pixel_at_lem}
use Rattle.lifting.proofs.passes.split_pixels.Goals as goal

-- one value is a line of one
line-of-one : (t u : ℕ) (row x z : ℕ → ℤ) → t ≡ u → z ≡ patch t 1 row x → z ≡ patch u 1 row x
line-of-one t u row x z e is = is ∙ ap (λ (t : ℕ). patch t 1 row x) e

pub loop-i-init : goal.loop-i-init
loop-i-init c = (omega arith, refl, filled_none _ _ _ _ _)

pub loop-i-preserved : goal.loop-i-preserved
loop-i-preserved c =
    let i = c.loop-i.i in
    let n = c.args.n in (
      omega arith,
      omega arith,
      filled_high
          (filled_low c.loop-i.invariant.2 _ _ (line-of-one i (i * 1) _ _ _ (omega arith) c.put_pixel.ensures) (λ j h. pixel_at_lem c.args.pixels.now c.args.middle (c.args.from + 2 * i) c.args.from j (2 * i) (omega arith)) (omega arith))
          _ _ (line-of-one (lows n + i) (lows n * 1 + i * 1) _ _ _ (omega arith) c.put_pixel-in-loop-i.ensures) (λ j h. pixel_at_lem c.args.pixels.now c.args.middle (c.args.from + 2 * i + 1) c.args.from j (2 * i + 1) (omega arith)) (omega arith),
    )

pub returns-then-high-low : goal.returns-then-high-low
returns-then-high-low c =
    let n = c.args.n in
    filled_to (filled_low {a = highs n} {b = highs n} (filled_to c.loop-i.invariant.2 (omega arith) (omega arith)) _ _ (line-of-one (highs n) (highs n * 1) _ _ _ (omega arith) c.put_pixel-then-high-low.ensures) (λ j h. pixel_at_lem c.args.pixels.now c.args.middle (c.args.from + 2 * highs n) c.args.from j (2 * highs n) (omega arith)) (omega arith)) (omega arith) (omega arith)

pub returns-else-high-low : goal.returns-else-high-low
returns-else-high-low c = filled_to c.loop-i.invariant.2 (omega arith) (omega arith)

-- The stages on a line of n samples with the edges of document 01, exact and in fixed point, for any pass. (Nothing of this is to be believed:
-- the definitions of exact, irreversible and viewing are instances, by computation or short laws in their Pass.)
use Rattle.std.specs.Prelude.{ℕ, zero, suc, List, ℤ}
use Rattle.lines.specs.Lines.{lows, highs, low_after, high_before, high_after}
use Rattle.exact.specs.Fractions.{Frac}
use Rattle.stages.specs.Stages.{Side, low, high, Kind, lifts, scales, Stage, stage, made, worked, Product, bits}
use Rattle.stages.specs.Fixed.{step, scale}

abbrev pub other : Side → Side
other low = high
other high = low

-- the neighbours of a place, and the number of places
abbrev pub before_in : Side → ℕ → ℕ
before_in low i = high_before i
before_in high i = i

abbrev pub after_in : ℕ → Side → ℕ → ℕ
after_in n low i = high_after n i
after_in n high i = low_after n i

abbrev pub count : ℕ → Side → ℕ
count n low = lows n
count n high = highs n

-- what stands on the line after m stages
unfoldable pub exact_after : List Stage → ℕ → (Side → ℕ → Frac) → ℕ → Side → ℕ → Frac
unfolding made
exact_after st n x zero = x
exact_after st n x (suc m) = worked before_in (after_in n) (stage st m).side (λ k. made (stage st m).kind (stage st m).constant) (exact_after st n x m)

-- what a stage makes of an own value at fo bits and its two neighbours at fm bits
unfoldable pub fixed_made : Kind → Product → Frac → ℕ → ℕ → ℕ → ℕ → ℤ → ℤ → ℤ → ℤ
fixed_made lifts p c F fm fo f own x y = step p c F fm fo f own x y
fixed_made scales p c F fm fo f own x y = scale c F fo f own

-- what stands on a line of n after m stages: F are the bits of the constants, fp the widths of the products, fi the bits of the input's
-- sides, f those of the nodes
unfoldable pub fixed_after : List Stage → (ℕ → ℕ) → (ℕ → Product) → (Side → ℕ) → (ℕ → ℕ) → ℕ → (Side → ℕ → ℤ) → ℕ → Side → ℕ → ℤ
fixed_after st F fp fi f n v zero = v
fixed_after st F fp fi f n v (suc m) =
    let t = (stage st m).side in
    worked before_in (after_in n) t (λ k. fixed_made (stage st m).kind (fp m) (stage st m).constant (F m) (bits st fi f m (other t)) (bits st fi f m t) (f m)) (fixed_after st F fp fi f n v m)

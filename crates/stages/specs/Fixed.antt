-- The fixed-point stages (document 01: the lifting). Values are whole numbers without limit: v at f fractional bits means v / 2^f.
use Rattle.std.specs.Prelude.{ℕ, ◌+◌, ◌*◌, ◌-◌, ◌^◌, max, min, ℤ, pos, ◌+ℤ◌, ◌*ℤ◌}
use Rattle.std.proofs.Common.{pow_pos}
use Rattle.numbers.specs.Floor.{floor_div}
use Rattle.exact.specs.Fractions.{Frac}
use Rattle.stages.specs.Stages.{Product, uncut, cut_to, product_bits}

-- v / 2^f
unfoldable pub fixed_value : ℤ → ℕ → Frac
fixed_value v f = record { num = v; den = 2 ^ f; above = pow_pos f }

-- A constant at F bits: the nearest multiple of 2^-F, as a whole number of them (no tie arises: Constants). (floor_div z m is the floor of z / m.)
unfoldable pub nearest : Frac → ℕ → ℤ
nearest c F = floor_div (c.num *ℤ pos (2 * 2 ^ F) +ℤ pos c.den) (2 * c.den)

-- z at `full` bits, cut once towards minus infinity to f bits
unfoldable pub cut : ℕ → ℕ → ℤ → ℤ
cut full f z = floor_div (z *ℤ pos (2 ^ (f - full))) (2 ^ (full - f))

-- A product at `full` bits, cut downwards to its width fp where fp is smaller (document 02, job 7); uncut where it has no width.
unfoldable pub cut_product : Product → ℕ → ℤ → ℤ
cut_product uncut full z = z
cut_product (cut_to fp) full z = cut full (min fp full) z

-- A stage that lifts: own value at fo bits, neighbours x and y at fm bits, the constant at F bits. The product, formed without loss at
-- F + fm bits, is cut to its width first. The sum is formed without loss, at the larger of fo and the product's bits, and cut once to f bits.
unfoldable pub step : Product → Frac → ℕ → ℕ → ℕ → ℕ → ℤ → ℤ → ℤ → ℤ
step p c F fm fo f own x y =
    let product = product_bits p (F + fm) in
    let full = max fo product in
    cut full f (own *ℤ pos (2 ^ (full - fo)) +ℤ cut_product p (F + fm) (nearest c F *ℤ (x +ℤ y)) *ℤ pos (2 ^ (full - product)))

-- The same at an end of a line, where both neighbours are x (document 02, job 2): twice the rounded constant times x (source document 003,
-- equations 3 and 4). Ends: it is the step of x and x.
unfoldable pub step_end : Product → Frac → ℕ → ℕ → ℕ → ℕ → ℤ → ℤ → ℤ
step_end p c F fm fo f own x =
    let product = product_bits p (F + fm) in
    let full = max fo product in
    cut full f (own *ℤ pos (2 ^ (full - fo)) +ℤ cut_product p (F + fm) (pos 2 *ℤ nearest c F *ℤ x) *ℤ pos (2 ^ (full - product)))

-- A stage that scales: the product has F + fm bits.
unfoldable pub scale : Frac → ℕ → ℕ → ℕ → ℤ → ℤ
scale c F fm f x = cut (F + fm) f (nearest c F *ℤ x)

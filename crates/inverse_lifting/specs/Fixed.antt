-- The fixed-point inverse of one line (document 02, jobs 1 and 6). Values are whole numbers without limit: v at f fractional bits means v / 2^f.
-- Every node has 20 fractional bits, every constant 24.
use Rattle.std.specs.Prelude.{ℕ, ◌+◌, ◌*◌, ◌^◌, ◌<◌, ◌≤◌, ℤ, pos, nat_abs, ◌+ℤ◌, ◌-ℤ◌, ◌*ℤ◌}
use Rattle.lines.specs.Lines.{lows, highs, Liftable, on_highs, on_lows, interleaved}
use Rattle.lines.specs.Planes.{OnLine, from_one}
use Rattle.exact.specs.Fractions.{Frac}
use Rattle.exact.specs.Exact.{alpha, beta, gamma, delta, zeta, zeta_inverse}
use Rattle.stages.specs.Fixed.{nearest, cut, scale}

-- the fractional bits of every node of the inverse, and of every constant
abbrev pub node_bits : ℕ
node_bits = 20

abbrev pub inverse_bits : ℕ
inverse_bits = 24

-- what no value of the inverse may exceed in magnitude (document 02, job 1: refusal 13), and that at the bits of a node
abbrev pub max_value : ℕ
max_value = 2 ^ 15

abbrev pub limit : ℕ
limit = max_value * 2 ^ node_bits

-- A stage P1, U1, P2, U2 inverted. The constant times the sum of the neighbours is taken from the own value without loss and cut once
-- downwards.
unfoldable pub inverse_step : Frac → ℤ → ℤ → ℤ → ℤ
inverse_step c own x y = cut (inverse_bits + node_bits) node_bits (own *ℤ pos (2 ^ inverse_bits) -ℤ nearest c inverse_bits *ℤ (x +ℤ y))

-- One line of n values y, two or more, the lows first: the lows have fl bits, the highs fh. A node is named by the stage that is inverted there.
module _ (fl fh : ℕ) (n : ℕ) (y : ℕ → ℤ) where
  -- lows times 1 / zeta
  unfoldable pub at_g1 : ℕ → ℤ
  at_g1 i = scale zeta_inverse inverse_bits fl node_bits (y i)

  -- highs times zeta
  unfoldable pub at_g2 : ℕ → ℤ
  at_g2 i = scale zeta inverse_bits fh node_bits (y (lows n + i))

  unfoldable pub at_u2 : ℕ → ℤ
  at_u2 = on_lows (inverse_step delta) n at_g1 at_g2

  unfoldable pub at_p2 : ℕ → ℤ
  at_p2 = on_highs (inverse_step gamma) n at_u2 at_g2

  unfoldable pub at_u1 : ℕ → ℤ
  at_u1 = on_lows (inverse_step beta) n at_u2 at_p2

  unfoldable pub at_p1 : ℕ → ℤ
  at_p1 = on_highs (inverse_step alpha) n at_u1 at_p2

  -- each value of two or more to its place: U1 inverted gives the even places, P1 inverted the odd ones
  unfoldable pub fixed_inverse_long : ℕ → ℤ
  fixed_inverse_long = interleaved at_u1 at_p1

  -- no value on the way is above 2^15 in magnitude
  pub record SmallLong : Type 0 where
    pub g1 : (k : ℕ) → k < lows n → nat_abs (at_g1 k) ≤ limit
    pub g2 : (k : ℕ) → k < highs n → nat_abs (at_g2 k) ≤ limit
    pub u2 : (k : ℕ) → k < lows n → nat_abs (at_u2 k) ≤ limit
    pub p2 : (k : ℕ) → k < highs n → nat_abs (at_p2 k) ≤ limit
    pub u1 : (k : ℕ) → k < lows n → nat_abs (at_u1 k) ≤ limit
    pub p1 : (k : ℕ) → k < highs n → nat_abs (at_p1 k) ≤ limit

-- A pass inverted. A single low value of fl bits enters at the bits of a node, uncut (document 02, job 6).
unfoldable pub fixed_inverse : ℕ → ℕ → OnLine ℤ
fixed_inverse fl fh = from_one (cut fl node_bits) (fixed_inverse_long fl fh)

-- no value on the way is above 2^15 in magnitude: of two values or more at every stage, of a single one what it enters as
pub record Small (fl fh n : ℕ) (y : ℕ → ℤ) : Type 0 where
  pub long : Liftable n → SmallLong fl fh n y
  pub single : n < 2 → (k : ℕ) → k < n → nat_abs (fixed_inverse fl fh n y k) ≤ limit

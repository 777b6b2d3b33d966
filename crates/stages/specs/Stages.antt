-- A pass as the list of its stages (document 01: the lifting).
use Rattle.std.specs.Prelude.{ℕ, zero, suc, min, List, [], ◌∷◌, get_or}
use Rattle.exact.specs.Fractions.{Frac, ◌⊗◌, neg, one_f}
use Rattle.exact.specs.Exact.{alpha, beta, gamma, delta, zeta, zeta_inverse, lift}

pub data Side : Type 0 where
  low high : Side

-- A stage lifts (adds to the own value a constant times the sum of the two neighbours) or scales (multiplies by a constant).
pub data Kind : Type 0 where
  lifts scales : Kind

-- A stage works each value of its side; the neighbours of a value are of the other side.
pub record Stage : Type 0 where
  pub side : Side
  pub kind : Kind
  pub constant : Frac

abbrev pub lifting : Side → Frac → Stage
lifting s c = record { side = s; kind = lifts; constant = c }

abbrev pub scaling : Side → Frac → Stage
scaling s c = record { side = s; kind = scales; constant = c }

-- Stage m of a pass, which is the list of its stages; they count from 0. (No stage past the last is asked for.)
abbrev pub stage : List Stage → ℕ → Stage
stage stages m = get_or stages m (scaling low one_f)

-- P1, U1, P2, U2, G1, G2
abbrev pub forward : List Stage
forward = lifting high alpha ∷ lifting low beta ∷ lifting high gamma ∷ lifting low delta ∷ scaling low zeta ∷ scaling high zeta_inverse ∷ []

-- G1, G2, U2, P2, U1, P1 inverted
abbrev pub inverse : List Stage
inverse = scaling low zeta_inverse ∷ scaling high zeta ∷ lifting low (neg delta) ∷ lifting high (neg gamma) ∷ lifting low (neg beta) ∷ lifting high (neg alpha) ∷ []

-- what a stage makes of an own value and its two neighbours
unfoldable pub made : Kind → Frac → Frac → Frac → Frac → Frac
made lifts c own x y = lift c own x y
made scales c own x y = c ⊗ own

-- One stage on a line: at each place k of side t the function f is given k, the own value and the values before and after it, which
-- are of the other side; the other side stays.
module _ {A : Type 0} {I : Type 0} (before after : Side → I → I) where
  abbrev pub worked : Side → (I → A → A → A → A) → (Side → I → A) → Side → I → A
  worked low f x low k = f k (x low k) (x high (before low k)) (x high (after low k))
  worked low f x high k = x high k
  worked high f x low k = x low k
  worked high f x high k = f k (x high k) (x low (before high k)) (x low (after high k))

-- The width of a stage's product (document 02, job 7): the product is not cut, or it is cut downwards to fp fractional bits.
pub data Product : Type 0 where
  uncut : Product
  cut_to : ℕ → Product

-- the bits of a product that has so many before its cut: fp, where it is smaller, takes their place
abbrev pub product_bits : Product → ℕ → ℕ
product_bits uncut full = full
product_bits (cut_to fp) full = min fp full

-- a number for each side: a stage on side t gives its side a new one
abbrev pub replaced : Side → ℕ → (Side → ℕ) → Side → ℕ
replaced low a old low = a
replaced low a old high = old high
replaced high a old low = old low
replaced high a old high = a

-- the fractional bits of a side after m stages: fi those of the input's sides, f those of the nodes
unfoldable pub bits : List Stage → (Side → ℕ) → (ℕ → ℕ) → ℕ → Side → ℕ
bits st fi f zero = fi
bits st fi f (suc m) = replaced (stage st m).side (f m) (bits st fi f m)

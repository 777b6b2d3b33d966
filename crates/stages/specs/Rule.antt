-- The rule of the judge (document 01), for any pass. All bounds are whole numbers of 2^-32; each product by a gain or a power of two is
-- rounded up by itself, before any sum.
use Rattle.std.specs.Prelude.{ℕ, zero, suc, ◌+◌, ◌*◌, ◌-◌, ◌^◌, max, true, false, List, [], ◌∷◌, ltb}
use Rattle.numbers.specs.Ceiling.{up_div}
use Rattle.stages.specs.Stages.{Side, low, high, Kind, lifts, scales, Stage, stage, Product, uncut, cut_to, product_bits, bits}
use Rattle.stages.specs.Gains.{Source, samples, lows, highs, node, gain}

pub record Bound : Type 0 where
  pub range : ℕ
  pub error : ℕ

-- a product by a gain, which is a whole number of 2^-16
unfoldable pub times_gain : ℕ → ℕ → ℕ
times_gain x g = up_div (x * g) 65536

-- 2^-f where f is below the full precision
unfoldable pub loss : ℕ → ℕ → ℕ
loss f full = elim (ltb f full) [ true ↦ 2 ^ (32 - f) | false ↦ 0 ]

-- The loss of a product's cut (document 02, job 7): 2^-fp where fp is below F plus the multiplied value's bits, rounded up to a whole
-- number of 2^-32.
unfoldable pub product_loss : Product → ℕ → ℕ
product_loss uncut full = 0
product_loss (cut_to fp) full = elim (ltb fp full) [ true ↦ up_div (2 ^ 32) (2 ^ fp) | false ↦ 0 ]

-- Own error of a stage that lifts: the constant has F bits; the value that it multiplies has fm bits and r is its range plus error; the
-- other operand has fo bits and the node f. The loss of the product's cut joins it, and in the full precision the product's width, where
-- it is smaller, takes the place of F + fm.
unfoldable pub own_lift : Product → ℕ → ℕ → ℕ → ℕ → ℕ → ℕ
own_lift p F fm fo f r = up_div r (2 ^ F) + product_loss p (F + fm) + loss f (max fo (product_bits p (F + fm)))

-- of one that scales
unfoldable pub own_scale : ℕ → ℕ → ℕ → ℕ → ℕ
own_scale F fm f r = up_div r (2 ^ (F + 1)) + loss f (F + fm)

-- A single sample of fi bits, cut to f bits: its error and 2^-f, the latter only where f is below fi (document 02, job 6).
abbrev pub single_error : ℕ → Bound → ℕ → ℕ
single_error fi b f = b.error + loss f fi

-- What enters a pass: one node, even and odd places together; or low and high input as two nodes whose parts add.
pub data Entering : Type 0 where
  together : Bound → Entering
  apart : Bound → Bound → Entering

module _ (st : List Stage) where
  -- x at a source, carried to side s after m stages: times the gain
  abbrev pub carried : ℕ → Source → Side → ℕ → ℕ
  carried x i s m = times_gain x (gain st s m i)

  -- the range (or the error) of what enters, carried to side s after m stages
  unfoldable pub input_part : (Bound → ℕ) → Entering → Side → ℕ → ℕ
  input_part r (together b) s m = carried (r b) samples s m
  input_part r (apart a b) s m = carried (r a) lows s m + carried (r b) highs s m

-- One pass: e bounds what enters, F are the bits of the constants, fp the widths of the products, fi the bits of the input's sides, f the
-- bits of the nodes.
module _ (st : List Stage) (e : Entering) (F : ℕ → ℕ) (fp : ℕ → Product) (fi : Side → ℕ) (f : ℕ → ℕ) where
  -- range of a node: the input's range times the gain from the input
  unfoldable pub range_at : Side → ℕ → ℕ
  range_at s m = input_part st (λ b. b.range) e s m

  -- own error of stage i by its kind and side, where r is the range plus error of each side before it
  unfoldable pub own_error_of : Kind → Side → ℕ → (Side → ℕ) → ℕ
  own_error_of lifts low i r = own_lift (fp i) (F i) (bits st fi f i high) (bits st fi f i low) (f i) (r high)
  own_error_of lifts high i r = own_lift (fp i) (F i) (bits st fi f i low) (bits st fi f i high) (f i) (r low)
  own_error_of scales low i r = own_scale (F i) (bits st fi f i low) (f i) (r low)
  own_error_of scales high i r = own_scale (F i) (bits st fi f i high) (f i) (r high)

  -- what the own errors of the first i stages, the last of them first, bring to a node: each times the gain from its stage
  unfoldable pub stages_part : ℕ → List ℕ → Side → ℕ → ℕ
  stages_part zero owns s m = 0
  stages_part (suc i) [] s m = 0
  stages_part (suc i) (own ∷ owns) s m = stages_part i owns s m + carried st own (node i) s m

  -- own errors of the first i stages, the last first
  unfoldable pub owns : ℕ → List ℕ
  owns zero = []
  owns (suc i) =
      let earlier = owns i in
      own_error_of (stage st i).kind (stage st i).side i (λ s. range_at s i + (input_part st (λ b. b.error) e s i + stages_part i earlier s i)) ∷ earlier

  -- error of a node: the input's error times the gain from the input, plus each stage's own error times the gain from it, up to and
  -- including the node's
  unfoldable pub error_at : Side → ℕ → ℕ
  error_at s m = input_part st (λ b. b.error) e s m + stages_part m (owns m) s m

  unfoldable pub side_bound : Side → ℕ → Bound
  side_bound s m = record { range = range_at s m; error = error_at s m }

-- One lifting step on unlimited integers, and what keeps the machine's step from overflowing.
use Rattle.std.specs.Prelude.{◌≡◌, ℕ, ◌+◌, ◌*◌, ◌<◌, ◌≤◌, ◌^◌, Bool, true, false, ℤ, pos, neg_ℤ, ◌+ℤ◌, ◌-ℤ◌, ◌*ℤ◌}
use Rattle.std.specs.Int.Signed.{shr_z}
use Rattle.std.specs.Int.{w32, w64}
use Rattle.std.proofs.Common.{SFits}
use Rattle.lifting.specs.declared.Step.{Step}
use Rattle.lifting.specs.declared.Step.TheVariants.{Predict, Update, InversePredict, InverseUpdate, Scaled, Separate, Combined, Cut, BiasedCut}
use Rattle.lifting.specs.declared.Factor.{Factor}
use Rattle.lifting.specs.declared.Factor.TheVariants.{Plain, Biased}

-- ---- steps

-- ⌊z / 2⌋ and ⌊(z + 2) / 4⌋
abbrev pub half : ℤ → ℤ
half z = shr_z z 2

abbrev pub quarter : ℤ → ℤ
quarter z = shr_z (z +ℤ pos 2) 4

-- ⌊(2 ^ k own + c (x + y)) / 2 ^ cut⌋
abbrev pub scaled : ℕ → ℤ → ℕ → ℤ → ℤ → ℤ → ℤ
scaled k c cut own x y = shr_z (pos (2 ^ k) *ℤ own +ℤ c *ℤ (x +ℤ y)) (2 ^ cut)

-- a product that is cut by itself: ⌊c (x + y) / 2 ^ first⌋
abbrev pub product : ℤ → ℕ → ℤ → ℤ → ℤ
product c first x y = shr_z (c *ℤ (x +ℤ y)) (2 ^ first)

-- the step with such a product: ⌊(2 ^ k own + 2 ^ up ⌊c (x + y) / 2 ^ first⌋) / 2 ^ cut⌋
abbrev pub cut_first : ℕ → ℤ → ℕ → ℕ → ℕ → ℤ → ℤ → ℤ → ℤ
cut_first k c first up cut own x y = shr_z (pos (2 ^ k) *ℤ own +ℤ pos (2 ^ up) *ℤ product c first x y) (2 ^ cut)

-- a constant by its size and its sign
abbrev pub signed : Bool → ℕ → ℤ
signed true c = neg_ℤ (pos c)
signed false c = pos c

abbrev pub applied : Step → ℤ → ℤ → ℤ → ℤ
applied Predict own x y = own -ℤ half (x +ℤ y)
applied Update own x y = own +ℤ quarter (x +ℤ y)
applied InversePredict own x y = own +ℤ half (x +ℤ y)
applied InverseUpdate own x y = own -ℤ quarter (x +ℤ y)
applied (Scaled k c cut) own x y = scaled k c cut own x y
applied (Separate down rise c base cut) own x y = scaled (cut + rise) (signed down c) cut own x y
applied (Combined down k c offset base cut) own x y = scaled k (signed down c) cut own x y
applied (Cut k c first up cut) own x y = cut_first k c first up cut own x y
applied (BiasedCut down k c offset first up base cut) own x y = cut_first k (signed down c) first up cut own x y

-- ⌊(2 ^ k own + 2 c x) / 2 ^ cut⌋
abbrev pub scaled_end : ℕ → ℤ → ℕ → ℤ → ℤ → ℤ
scaled_end k c cut own x = shr_z (pos (2 ^ k) *ℤ own +ℤ pos 2 *ℤ c *ℤ x) (2 ^ cut)

-- ⌊(2 ^ k own + 2 ^ up ⌊2 c x / 2 ^ first⌋) / 2 ^ cut⌋
abbrev pub cut_first_end : ℕ → ℤ → ℕ → ℕ → ℕ → ℤ → ℤ → ℤ
cut_first_end k c first up cut own x = shr_z (pos (2 ^ k) *ℤ own +ℤ pos (2 ^ up) *ℤ shr_z (pos 2 *ℤ c *ℤ x) (2 ^ first)) (2 ^ cut)

-- A step at an end of its line, where both neighbours are x, by the reduced equations: source document 003, equations 3 and 4 (the constant is
-- doubled), source document 004, equations 4 to 6. `ended_is` of Ends: it is the step of x and x.
abbrev pub ended : Step → ℤ → ℤ → ℤ
ended Predict own x = own -ℤ x
ended Update own x = own +ℤ half (x +ℤ pos 1)
ended InversePredict own x = own +ℤ x
ended InverseUpdate own x = own -ℤ half (x +ℤ pos 1)
ended (Scaled k c cut) own x = scaled_end k c cut own x
ended (Separate down rise c base cut) own x = scaled_end (cut + rise) (signed down c) cut own x
ended (Combined down k c offset base cut) own x = scaled_end k (signed down c) cut own x
ended (Cut k c first up cut) own x = cut_first_end k c first up cut own x
ended (BiasedCut down k c offset first up base cut) own x = cut_first_end k (signed down c) first up cut own x

-- ---- every number on the way fits

-- the neighbours' sum and its negative fit an i32
pub record SumSafe (x y : ℤ) : Type 0 where
  pub sum : SFits w32 (x +ℤ y)
  pub negated : SFits w32 (pos 0 -ℤ (x +ℤ y))

-- the sum, negated where the constant is negative
abbrev pub signed_sum : Bool → ℤ → ℤ → ℤ
signed_sum true x y = pos 0 -ℤ (x +ℤ y)
signed_sum false x y = x +ℤ y

pub record HalfSafe (x y r : ℤ) : Type 0 where
  pub sides : SFits w32 (x +ℤ y)
  pub result : SFits w32 r

pub record QuarterSafe (x y r : ℤ) : Type 0 where
  pub sides : SFits w32 (x +ℤ y)
  pub more : SFits w32 (x +ℤ y +ℤ pos 2)
  pub result : SFits w32 r

-- products in i64, and twice the constant; the own value at the result's bits, where these are no fewer than its own, fits an i32
pub record ScaledSafe (k : ℕ) (c : ℤ) (cut : ℕ) (own x y : ℤ) : Type 0 where
  pub few : k ≤ 62
  pub short : cut < 64
  pub sides : SumSafe x y
  pub left : SFits w64 (pos (2 ^ k) *ℤ own)
  pub right : SFits w64 (c *ℤ (x +ℤ y))
  pub both : SFits w64 (pos (2 ^ k) *ℤ own +ℤ c *ℤ (x +ℤ y))
  pub doubled : SFits w64 (pos 2 *ℤ c)
  pub scaled_up : (r : ℕ) → k ≡ cut + r → SFits w32 (own *ℤ pos (2 ^ r))
  pub result : SFits w32 (scaled k c cut own x y)

-- Unsigned numbers: the sum is biased by 2 ^ 31, c times it is below 2 ^ 63 and, cut, too large by `base`.
pub record SeparateSafe (down : Bool) (rise c base cut : ℕ) (own x y : ℤ) : Type 0 where
  pub some : 1 ≤ cut
  pub short : cut ≤ 31
  pub steep : rise < 32
  pub room : c < 2147483648
  pub tied : c * 2147483648 ≡ base * 2 ^ cut
  pub sides : SumSafe x y
  pub scaled_up : SFits w32 (own *ℤ pos (2 ^ rise))
  pub result : SFits w32 (scaled (cut + rise) (signed down c) cut own x y)

-- The own value is biased too. `offset` more makes what the sum is too large by a multiple of 2 ^ cut. `scaled_up` as in `ScaledSafe`: an end takes the
-- step in that form.
pub record CombinedSafe (down : Bool) (k c offset base cut : ℕ) (own x y : ℤ) : Type 0 where
  pub some : 1 ≤ cut
  pub short : cut < 64
  pub few : k ≤ 30
  pub room : c < 2147483648
  pub more : offset ≤ 4611686018427387904
  pub tied : (2 ^ k + c) * 2147483648 + offset ≡ base * 2 ^ cut
  pub sides : SumSafe x y
  pub scaled_up : (r : ℕ) → k ≡ cut + r → SFits w32 (own *ℤ pos (2 ^ r))
  pub result : SFits w32 (scaled k (signed down c) cut own x y)

-- products in i64, before and after their cut, and twice the constant
pub record CutSafe (k : ℕ) (c : ℤ) (first up cut : ℕ) (own x y : ℤ) : Type 0 where
  pub few : k ≤ 62
  pub rises : up ≤ 62
  pub early : first < 64
  pub short : cut < 64
  pub sides : SumSafe x y
  pub whole : SFits w64 (c *ℤ (x +ℤ y))
  pub doubled : SFits w64 (pos 2 *ℤ c)
  pub left : SFits w64 (pos (2 ^ k) *ℤ own)
  pub right : SFits w64 (pos (2 ^ up) *ℤ product c first x y)
  pub both : SFits w64 (pos (2 ^ k) *ℤ own +ℤ pos (2 ^ up) *ℤ product c first x y)
  pub result : SFits w32 (cut_first k c first up cut own x y)

-- Unsigned numbers: own value and sum are biased. `offset` more makes what the product is too large by `mid` times 2 ^ first, and the whole is too
-- large by `base` times 2 ^ cut. An end takes the step in the form of `CutSafe`.
pub record BiasedCutSafe (down : Bool) (k c offset first up base cut : ℕ) (own x y : ℤ) : Type 0 where
  pub few : k ≤ 30
  pub room : c < 268435456
  pub more : offset ≤ 288230376151711744
  pub early : first ≤ 58
  pub rises : up ≤ first
  pub mid : ℕ
  pub tied : c * 2147483648 + offset ≡ mid * 2 ^ first
  pub even : 2 ^ k * 2147483648 + mid * 2 ^ up ≡ base * 2 ^ cut
  pub signedly : CutSafe k (signed down c) first up cut own x y

abbrev pub Safe : Step → ℤ → ℤ → ℤ → Type 0
Safe Predict own x y = HalfSafe x y (own -ℤ half (x +ℤ y))
Safe Update own x y = QuarterSafe x y (own +ℤ quarter (x +ℤ y))
Safe InversePredict own x y = HalfSafe x y (own +ℤ half (x +ℤ y))
Safe InverseUpdate own x y = QuarterSafe x y (own -ℤ quarter (x +ℤ y))
Safe (Scaled k c cut) own x y = ScaledSafe k c cut own x y
Safe (Separate down rise c base cut) own x y = SeparateSafe down rise c base cut own x y
Safe (Combined down k c offset base cut) own x y = CombinedSafe down k c offset base cut own x y
Safe (Cut k c first up cut) own x y = CutSafe k c first up cut own x y
Safe (BiasedCut down k c offset first up base cut) own x y = BiasedCutSafe down k c offset first up base cut own x y

-- r does what s does, wherever s may be taken
pub record SameStep (s r : Step) : Type 0 where
  pub same : (own x y : ℤ) → applied r own x y ≡ applied s own x y
  pub safe : (own x y : ℤ) → Safe s own x y → Safe r own x y

-- ---- scalings

-- a value times a constant, cut once
abbrev pub scaled_by : Factor → ℤ → ℤ
scaled_by (Plain c cut) x = shr_z (c *ℤ x) (2 ^ cut)
scaled_by (Biased c offset base cut) x = shr_z (pos c *ℤ x) (2 ^ cut)

pub record PlainSafe (c : ℤ) (cut : ℕ) (x : ℤ) : Type 0 where
  pub short : cut < 64
  pub product : SFits w64 (c *ℤ x)
  pub result : SFits w32 (shr_z (c *ℤ x) (2 ^ cut))

pub record BiasedSafe (c offset base cut : ℕ) (x : ℤ) : Type 0 where
  pub some : 1 ≤ cut
  pub short : cut < 64
  pub room : c < 2147483648
  pub more : offset ≤ 4611686018427387904
  pub tied : c * 2147483648 + offset ≡ base * 2 ^ cut
  pub result : SFits w32 (shr_z (pos c *ℤ x) (2 ^ cut))

abbrev pub FactorSafe : Factor → ℤ → Type 0
FactorSafe (Plain c cut) x = PlainSafe c cut x
FactorSafe (Biased c offset base cut) x = BiasedSafe c offset base cut x

pub record SameFactor (g r : Factor) : Type 0 where
  pub same : (x : ℤ) → scaled_by r x ≡ scaled_by g x
  pub safe : (x : ℤ) → FactorSafe g x → FactorSafe r x

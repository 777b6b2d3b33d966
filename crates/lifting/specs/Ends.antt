-- Steps at an end of a line, where both neighbours are one: the reduced equations give what the step gives of x and x (`ended_is`), and
-- what they ask follows from what it asks.
use Rattle.std.specs.Prelude.{◌≡◌, refl, Bool, true, false, ℕ, suc, ◌+◌, ◌*◌, ◌^◌, ◌<◌, ◌≤◌, ℤ, pos, negsuc, nat_abs, ◌+ℤ◌, ◌-ℤ◌, ◌*ℤ◌}
use Rattle.std.proofs.Common.{sym, ap, subst, ◌∙◌, arith, le_refl, lt_of_le_of_lt, pow_mono, pow-add, SFits}
use Rattle.std.specs.Int.Signed.{shr_z}
use Rattle.std.specs.Int.{w32, w64}
use Rattle.numbers.specs.Abs.{abs_neg, abs_add_≤, abs_mul_≤, mag_of_abs}
use Rattle.numbers.specs.Floor.{half_twice, quarter_twice}
use Rattle.numbers.specs.Laws.{twice_times}
use Rattle.lifting.specs.declared.Step.{Step}
use Rattle.lifting.specs.declared.Step.TheVariants.{Predict, Update, InversePredict, InverseUpdate, Scaled, Separate, Combined, Cut, BiasedCut}
use Rattle.lifting.specs.Steps.{scaled, scaled_end, cut_first, cut_first_end, signed, applied, ended, Safe, SumSafe, ScaledSafe, SeparateSafe, CombinedSafe}
use Rattle.lifting.specs.Bias.{power_out}

-- ---- the reduced equations

scaled_twice : (k : ℕ) (c : ℤ) (cut : ℕ) (own x : ℤ) → scaled_end k c cut own x ≡ scaled k c cut own x x
scaled_twice k c cut own x = ap (λ (z : ℤ). shr_z (pos (2 ^ k) *ℤ own +ℤ z) (2 ^ cut)) (twice_times c x)

cut_twice : (k : ℕ) (c : ℤ) (first up cut : ℕ) (own x : ℤ) → cut_first_end k c first up cut own x ≡ cut_first k c first up cut own x x
cut_twice k c first up cut own x = ap (λ (z : ℤ). shr_z (pos (2 ^ k) *ℤ own +ℤ pos (2 ^ up) *ℤ shr_z z (2 ^ first)) (2 ^ cut)) (twice_times c x)

pub ended_is : (s : Step) (own x : ℤ) → ended s own x ≡ applied s own x x
ended_is Predict own x = ap (λ (z : ℤ). own -ℤ z) (sym (half_twice x))
ended_is Update own x = ap (λ (z : ℤ). own +ℤ z) (sym (quarter_twice x))
ended_is InversePredict own x = ap (λ (z : ℤ). own +ℤ z) (sym (half_twice x))
ended_is InverseUpdate own x = ap (λ (z : ℤ). own -ℤ z) (sym (quarter_twice x))
ended_is (Scaled k c cut) own x = scaled_twice k c cut own x
ended_is (Separate down rise c base cut) own x = scaled_twice (cut + rise) (signed down c) cut own x
ended_is (Combined down k c offset base cut) own x = scaled_twice k (signed down c) cut own x
ended_is (Cut k c first up cut) own x = cut_twice k c first up cut own x
ended_is (BiasedCut down k c offset first up base cut) own x = cut_twice k (signed down c) first up cut own x

-- ---- every number on the way fits

pub ended_fits : (s : Step) (own x : ℤ) → SFits w32 (applied s own x x) → SFits w32 (ended s own x)
ended_fits s own x h = subst (SFits w32) (sym (ended_is s own x)) h

-- what an i32 holds
fits_size : (z : ℤ) → SFits w32 z → nat_abs z ≤ 2147483648
fits_size (pos n) h = let l : n < 2147483648 = h.sfits in omega arith
fits_size (negsuc n) h = let l : n < 2147483648 = h.sfits in omega arith

fits_64 : (z : ℤ) {b : ℕ} → nat_abs z ≤ b → b < 9223372036854775808 → SFits w64 z
fits_64 z h l = record { sfits = mag_of_abs z (lt_of_le_of_lt h l) }

-- one more than x, where twice x fits
pub more_fits : (x : ℤ) → SFits w32 (x +ℤ x) → SFits w32 (x +ℤ pos 1)
more_fits x h = record { sfits = mag_of_abs (x +ℤ pos 1) (lt_of_le_of_lt (abs_add_≤ x (pos 1) (halved x h) (le_refl 1)) (omega arith)) }
  where
    halved : (x : ℤ) → SFits w32 (x +ℤ x) → nat_abs x ≤ 1073741824
    halved (pos n) h = let l : n + n < 2147483648 = h.sfits in omega arith
    halved (negsuc n) h = let l : suc (n + n) < 2147483648 = h.sfits in omega arith

-- ---- the biased forms as the steps that they stand for

abbrev pub unbiased : Step → Step
unbiased Predict = Predict
unbiased Update = Update
unbiased InversePredict = InversePredict
unbiased InverseUpdate = InverseUpdate
unbiased (Scaled k c cut) = Scaled k c cut
unbiased (Separate down rise c base cut) = Scaled (cut + rise) (signed down c) cut
unbiased (Combined down k c offset base cut) = Scaled k (signed down c) cut
unbiased (Cut k c first up cut) = Cut k c first up cut
unbiased (BiasedCut down k c offset first up base cut) = Cut k (signed down c) first up cut

pub unbiased_is : (s : Step) (own x : ℤ) → ended (unbiased s) own x ≡ ended s own x
unbiased_is Predict own x = refl
unbiased_is Update own x = refl
unbiased_is InversePredict own x = refl
unbiased_is InverseUpdate own x = refl
unbiased_is (Scaled k c cut) own x = refl
unbiased_is (Separate down rise c base cut) own x = refl
unbiased_is (Combined down k c offset base cut) own x = refl
unbiased_is (Cut k c first up cut) own x = refl
unbiased_is (BiasedCut down k c offset first up base cut) own x = refl

-- a scaled step with a constant of 31 bits and a sign
module _ (c : ℤ) (own x y : ℤ) (room : nat_abs c ≤ 2147483647) (sides : SumSafe x y) where
  scaled_safe : (k cut : ℕ) → k ≤ 62 → cut < 64 → nat_abs (pos (2 ^ k) *ℤ own) ≤ 4611686018427387904 → ((r : ℕ) → k ≡ cut + r → SFits w32 (own *ℤ pos (2 ^ r)))
      → SFits w32 (scaled k c cut own x y) → ScaledSafe k c cut own x y
  scaled_safe k cut few short left scaled_up result =
      let right : nat_abs (c *ℤ (x +ℤ y)) ≤ 2147483647 * 2147483648 = abs_mul_≤ c (x +ℤ y) room (fits_size (x +ℤ y) sides.sum) in
      record {
        few = few;
        short = short;
        sides = sides;
        left = fits_64 _ left (omega arith);
        right = fits_64 _ right (omega arith);
        both = fits_64 _ (abs_add_≤ (pos (2 ^ k) *ℤ own) (c *ℤ (x +ℤ y)) left right) (omega arith);
        doubled = fits_64 _ (abs_mul_≤ (pos 2) c (le_refl 2) room) (omega arith);
        scaled_up = scaled_up;
        result = result;
      }

signed_size : (down : Bool) (c : ℕ) → c < 2147483648 → nat_abs (signed down c) ≤ 2147483647
signed_size true c h = omega (arith, abs_neg (pos c))
signed_size false c h = omega arith

separate_safe : (down : Bool) (rise c base cut : ℕ) (own x y : ℤ) → SeparateSafe down rise c base cut own x y → ScaledSafe (cut + rise) (signed down c) cut own x y
separate_safe down rise c base cut own x y h =
    scaled_safe (signed down c) own x y (signed_size down c h.room) h.sides (cut + rise) cut (omega (arith, h.short, h.steep)) (omega (arith, h.short)) left
    (λ r e. subst (λ (r : ℕ). SFits w32 (own *ℤ pos (2 ^ r))) (omega arith) h.scaled_up) h.result
  where
    left : nat_abs (pos (2 ^ (cut + rise)) *ℤ own) ≤ 4611686018427387904
    left =
        subst (λ (z : ℤ). nat_abs z ≤ 4611686018427387904) (sym (power_out (pos (2 ^ cut)) (pos (2 ^ rise)) own) ∙ ap (λ (n : ℕ). pos n *ℤ own) (sym (pow-add 2 cut rise)))
        (abs_mul_≤ (pos (2 ^ cut)) (own *ℤ pos (2 ^ rise)) (pow_mono {i = cut} {j = 31} h.short) (fits_size (own *ℤ pos (2 ^ rise)) h.scaled_up))

combined_safe : (down : Bool) (k c offset base cut : ℕ) (own x y : ℤ) → SFits w32 own → CombinedSafe down k c offset base cut own x y → ScaledSafe k (signed down c) cut own x y
combined_safe down k c offset base cut own x y fits h =
    scaled_safe (signed down c) own x y (signed_size down c h.room) h.sides k cut (omega (arith, h.few)) h.short
    (omega (arith, abs_mul_≤ (pos (2 ^ k)) own (pow_mono {i = k} {j = 30} h.few) (fits_size own fits))) h.scaled_up h.result

pub unbiased_safe : (s : Step) (own x y : ℤ) → SFits w32 own → Safe s own x y → Safe (unbiased s) own x y
unbiased_safe Predict own x y fits h = h
unbiased_safe Update own x y fits h = h
unbiased_safe InversePredict own x y fits h = h
unbiased_safe InverseUpdate own x y fits h = h
unbiased_safe (Scaled k c cut) own x y fits h = h
unbiased_safe (Separate down rise c base cut) own x y fits h = separate_safe down rise c base cut own x y h
unbiased_safe (Combined down k c offset base cut) own x y fits h = combined_safe down k c offset base cut own x y fits h
unbiased_safe (Cut k c first up cut) own x y fits h = h
unbiased_safe (BiasedCut down k c offset first up base cut) own x y fits h = h.signedly

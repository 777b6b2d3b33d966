-- What a look over values tells (refusals 11 and 12).
use Rattle.std.specs.Prelude.{◌≡◌, ℕ, suc, ◌+◌, ◌*◌, ◌/◌, ◌%◌, ◌^◌, ◌<◌, ◌≤◌, Bool, true, false, ◌&&◌, T, List, length, take, drop, ℤ, pos, negsuc, neg_ℤ, ◌-ℤ◌, ◌≤ℤ◌, ◌<ℤ◌, FitsSigned, bit_or, nat_lt, refl}
use Rattle.std.proofs.Common.{sym, ◌∙◌, subst, length-take-le, length-drop, get_or-take, get_or-drop, arith, ltb→lt, lt→ltb, pow_pos, pow_mono}
use Rattle.std.proofs.Math.Decide.{ℕ_discrete}
use Rattle.std.proofs.lemmas.Nat.{or_lt, and_le_l, and_le_r}
use Rattle.std.specs.Int.Bits.{or_add_and}
use Rattle.std.specs.Int.Signed.{mag}
use Rattle.std.specs.Int.{w32}
use Rattle.slices.specs.Patch.{at}
use Rattle.slices.specs.Biased.{biased}
use Rattle.numbers.specs.Dif.{by_dif, difs}
use Rattle.numbers.specs.Tests.{both, and_intro}

-- an answer tells whether P holds
pub record Tells (P : Type 0) (r : Bool) : Type 0 where
  pub holds : T r → P
  pub told : P → T r

abbrev pub Between : ℤ → ℤ → ℤ → Type 0
Between least most z = (least ≤ℤ z) × (z ≤ℤ most)

-- a number of k bits beside the sign
abbrev pub OfBits : ℕ → ℤ → Type 0
OfBits k z = (neg_ℤ (pos (2 ^ k)) ≤ℤ z) × (z <ℤ pos (2 ^ k))

pub tells_same : {P : Type 0} (r s : Bool) → Tells P r → Tells P s → r ≡ s
tells_same true true t u = refl
tells_same true false t u = absurd (u.told (t.holds tt))
tells_same false true t u = absurd (t.told (u.holds tt))
tells_same false false t u = refl

pub tells_both : {P Q : Type 0} {r : Bool} → (P → Q) → (Q → P) → Tells P r → Tells Q r
tells_both there back t = record { holds = λ h. there (t.holds h); told = λ q. t.told (back q) }

-- numbers below q and not below -q lie between two numbers
pub below_between : (q z : ℤ) → (neg_ℤ q ≤ℤ z) × (z <ℤ q) → Between (neg_ℤ q) (q -ℤ pos 1) z
below_between = by_dif _ λ a b. by_dif _ λ c d. simp difs (omega arith)

pub between_below : (q z : ℤ) → Between (neg_ℤ q) (q -ℤ pos 1) z → (neg_ℤ q ≤ℤ z) × (z <ℤ q)
between_below = by_dif _ λ a b. by_dif _ λ c d. simp difs (omega arith)

-- ---- what holds at every place below n

module _ (P : ℕ → Type 0) where
  abbrev pub Every : ℕ → Type 0
  Every n = (j : ℕ) → j < n → P j

  pub every_none : Tells (Every 0) true
  every_none = record { holds = λ t j h. absurd (omega arith); told = λ e. tt }

  pub every_more : (n : ℕ) (r s : Bool) → Tells (Every n) r → Tells (P n) s → Tells (Every (n + 1)) (r && s)
  every_more n r s t u = record {
    holds = λ k j h. go (both r s k) j h (ℕ_discrete j n);
    told = λ e. and_intro r s (t.told (λ j h. e j (omega arith))) (u.told (e n (omega arith)));
  }
    where
      go : T r × T s → (j : ℕ) → j < n + 1 → Dec (j ≡ n) → P j
      go k j h (yes e) = subst P (sym e) (u.holds k.1)
      go k j h (no f) = t.holds k.0 j (omega arith)

-- a look at a row of n values, from place s of a plane on
pub row_tells : (Q : ℤ → Type 0) (values : List ℤ) (s n w : ℕ) (r : Bool) → n ≡ w → s + w ≤ length values
    → Tells ((j : ℕ) → j < length (take n (drop s values)) → Q (at (take n (drop s values)) j)) r → Tells ((j : ℕ) → j < w → Q (at values (s + j))) r
row_tells Q values s n w r e room t = record {
  holds = λ k j h. subst Q (there j h) (t.holds k j (omega (arith, long)));
  told = λ p. t.told (λ j h. let i : j < w = omega (arith, long) in subst Q (sym (there j i)) (p j i));
}
  where
    long : length (take n (drop s values)) ≡ w
    long = length-take-le n (drop s values) (omega (arith, length-drop s values)) ∙ e

    there : (j : ℕ) → j < w → at (take n (drop s values)) j ≡ at values (s + j)
    there j h = get_or-take n (drop s values) j (pos 0) (omega arith) ∙ get_or-drop s values j (pos 0)

-- ---- numbers of k bits beside the sign

-- how far a number lies above -top, where 2 ^ 32 counts as 0
abbrev pub above_least : ℕ → ℤ → ℕ
above_least top z = (biased z + (2147483648 + top)) % 4294967296

pub above_is : (top x : ℕ) → ((x + 2147483648) % 4294967296 + top) % 4294967296 ≡ (x + (2147483648 + top)) % 4294967296
above_is top x = omega arith

-- so it is below twice the top where the number is between
module _ (m : ℕ) where
  short_of : (z : ℤ) → mag z < m → (neg_ℤ (pos m) ≤ℤ z) × (z <ℤ pos m)
  short_of = by_dif _ λ a b. simp difs (omega arith)

  of_short : (z : ℤ) → neg_ℤ (pos m) ≤ℤ z → z <ℤ pos m → mag z < m
  of_short = by_dif _ λ a b. simp difs (omega arith)

  module _ (few : m ≤ 2147483648) where
    above_short : (z : ℤ) → FitsSigned w32 z → above_least m z < 2 * m → mag z < m
    above_short (pos n) h i = let l : n < 2147483648 = h.sfits in omega arith
    above_short (negsuc n) h i = let l : n < 2147483648 = h.sfits in omega arith

    short_above : (z : ℤ) → FitsSigned w32 z → mag z < m → above_least m z < 2 * m
    short_above (pos n) h i = let l : n < 2147483648 = h.sfits in omega arith
    short_above (negsuc n) h i = let l : n < 2147483648 = h.sfits in omega arith

-- the bits of two numbers together
gathered_left : (k a b : ℕ) → bit_or a b < 2 ^ k → a < 2 ^ k
gathered_left k a b h = omega (arith, or_add_and a b, and_le_r a b)

gathered_right : (k a b : ℕ) → bit_or a b < 2 ^ k → b < 2 ^ k
gathered_right k a b h = omega (arith, or_add_and a b, and_le_l a b)

module _ (k : ℕ) (few : k ≤ 31) (z : ℕ → ℤ) where
  top : 2 ^ k ≤ 2147483648
  top = pow_mono {i = k} {j = 31} few

  twice : 2 ^ suc k ≡ 2 * 2 ^ k
  twice = omega arith

  -- what is gathered tells of all
  pub record Gathered (n total : ℕ) : Type 0 where
    pub holds : total < 2 ^ suc k → (j : ℕ) → j < n → OfBits k (z j)
    pub told : ((j : ℕ) → j < n → OfBits k (z j)) → total < 2 ^ suc k

  pub gathered_none : Gathered 0 0
  gathered_none = record { holds = λ t j h. absurd (omega arith); told = λ e. pow_pos (suc k) }

  pub gathered_more : (n total : ℕ) → FitsSigned w32 (z n) → Gathered n total → Gathered (n + 1) (bit_or total (above_least (2 ^ k) (z n)))
  gathered_more n total fits g = record {
    holds = λ t j h. go t j h (ℕ_discrete j n);
    told = λ e. or_lt (suc k) total (above_least (2 ^ k) (z n)) (g.told (λ j h. e j (omega arith)))
        (let b = e n (omega arith) in omega (arith, twice, short_above (2 ^ k) top (z n) fits (of_short (2 ^ k) (z n) b.0 b.1)));
  }
    where
      go : bit_or total (above_least (2 ^ k) (z n)) < 2 ^ suc k → (j : ℕ) → j < n + 1 → Dec (j ≡ n) → OfBits k (z j)
      go t j h (yes e) =
          subst (λ (i : ℕ). OfBits k (z i)) (sym e) (short_of (2 ^ k) (z n) (above_short (2 ^ k) top (z n) fits (omega (arith, twice, gathered_right (suc k) total (above_least (2 ^ k) (z n)) t))))
      go t j h (no d) = g.holds (gathered_left (suc k) total (above_least (2 ^ k) (z n)) t) j (omega arith)

  pub gathered_tells : (n total : ℕ) → Gathered n total → Tells ((j : ℕ) → j < n → OfBits k (z j)) (nat_lt (total / 2) (2 ^ k))
  gathered_tells n total g = record { holds = λ t. g.holds (omega (arith, twice, ltb→lt (total / 2) (2 ^ k) t)); told = λ e. lt→ltb (total / 2) (2 ^ k) (omega (arith, twice, g.told e)) }

-- The constants, and the exact 9/7 lifting of one line (document 01: the lifting; the exact transform).
use Rattle.std.specs.Prelude.{ℕ, ◌+◌, ◌*◌, ◌^◌, pos, neg_ℤ}
use Rattle.std.proofs.Common.{lit<}
use Rattle.exact.specs.Fractions.{Frac, ◌⊕◌, ◌⊗◌}
use Rattle.lines.specs.Lines.{on_highs, on_lows, lows_first}
use Rattle.lines.specs.Planes.{OnLine, from_one}

-- -1.586134342
abbrev pub alpha : Frac
alpha = record { num = neg_ℤ (pos 1586134342); den = 10 ^ 9; above = lit< tt }

-- -0.05298011854
abbrev pub beta : Frac
beta = record { num = neg_ℤ (pos 5298011854); den = 10 ^ 11; above = lit< tt }

-- 0.8829110762
abbrev pub gamma : Frac
gamma = record { num = pos 8829110762; den = 10 ^ 10; above = lit< tt }

-- 0.4435068522
abbrev pub delta : Frac
delta = record { num = pos 4435068522; den = 10 ^ 10; above = lit< tt }

-- 1.149604398
abbrev pub zeta : Frac
zeta = record { num = pos 1149604398; den = 10 ^ 9; above = lit< tt }

-- 1 / 1.149604398, the exact quotient
abbrev pub zeta_inverse : Frac
zeta_inverse = record { num = pos (10 ^ 9); den = 1149604398; above = lit< tt }

-- own value and a constant times the sum of two neighbours
unfoldable pub lift : Frac → Frac → Frac → Frac → Frac
lift c own x y = own ⊕ c ⊗ (x ⊕ y)

-- One pass over n samples x, two or more. P1 and P2 add to each high, U1 and U2 to each low; each reads what the one before left.
module _ (n : ℕ) (x : ℕ → Frac) where
  -- the first sample and every second one after it are lows, all others highs
  unfoldable pub low₀ : ℕ → Frac
  low₀ i = x (2 * i)

  unfoldable pub high₀ : ℕ → Frac
  high₀ i = x (2 * i + 1)

  unfoldable pub p1 : ℕ → Frac
  p1 = on_highs (lift alpha) n low₀ high₀

  unfoldable pub u1 : ℕ → Frac
  u1 = on_lows (lift beta) n low₀ p1

  unfoldable pub p2 : ℕ → Frac
  p2 = on_highs (lift gamma) n u1 p1

  unfoldable pub u2 : ℕ → Frac
  u2 = on_lows (lift delta) n u1 p2

  -- lows times zeta
  unfoldable pub g1 : ℕ → Frac
  g1 i = zeta ⊗ u2 i

  -- highs divided by zeta
  unfoldable pub g2 : ℕ → Frac
  g2 i = zeta_inverse ⊗ p2 i

  -- what two samples or more leave: the lows first, then the highs
  unfoldable pub exact_long : ℕ → Frac
  exact_long = lows_first n g1 g2

-- What a pass leaves. A single sample is its only low value, uncut (document 02, job 6).
unfoldable pub exact_pass : OnLine Frac
exact_pass = from_one (λ v. v) exact_long

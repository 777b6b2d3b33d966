-- The exact inverse (document 02, job 1): the lifting inverted in reverse, in fractions. It is the inverse of document 01's exact transform,
-- both ways (InverseLaws), so that nothing of it need be taken on trust.
use Rattle.std.specs.Prelude.{ℕ, ◌+◌}
use Rattle.lines.specs.Lines.{lows, on_highs, on_lows, interleaved}
use Rattle.lines.specs.Planes.{OnLine, OnPart, from_one, level_columns_first, inverse_levels}
use Rattle.exact.specs.Fractions.{Frac, ◌⊖◌, ◌⊕◌, ◌⊗◌}
use Rattle.exact.specs.Exact.{alpha, beta, gamma, delta, zeta, zeta_inverse}

-- own value less a constant times the sum of two neighbours
unfoldable pub inverse_lift : Frac → Frac → Frac → Frac → Frac
inverse_lift c own x y = own ⊖ c ⊗ (x ⊕ y)

-- One line of n values y, two or more, the lows first. Each stage reads what the one before left, with the edges of document 01.
module _ (n : ℕ) (y : ℕ → Frac) where
  -- lows times 1 / zeta
  unfoldable pub un_g1 : ℕ → Frac
  un_g1 i = zeta_inverse ⊗ y i

  -- highs times zeta
  unfoldable pub un_g2 : ℕ → Frac
  un_g2 i = zeta ⊗ y (lows n + i)

  unfoldable pub un_u2 : ℕ → Frac
  un_u2 = on_lows (inverse_lift delta) n un_g1 un_g2

  unfoldable pub un_p2 : ℕ → Frac
  un_p2 = on_highs (inverse_lift gamma) n un_u2 un_g2

  unfoldable pub un_u1 : ℕ → Frac
  un_u1 = on_lows (inverse_lift beta) n un_u2 un_p2

  unfoldable pub un_p1 : ℕ → Frac
  un_p1 = on_highs (inverse_lift alpha) n un_u1 un_p2

  -- each value to its place
  unfoldable pub exact_inverse_long : ℕ → Frac
  exact_inverse_long = interleaved un_u1 un_p1

-- A pass inverted. A single low value is the sample (document 02, job 6).
unfoldable pub exact_inverse_pass : OnLine Frac
exact_inverse_pass = from_one (λ v. v) exact_inverse_long

-- a plane of L levels: level L first, columns before rows
unfoldable pub exact_inverse : ℕ → OnPart Frac
exact_inverse = inverse_levels (λ l. level_columns_first exact_inverse_pass (λ low. exact_inverse_pass))

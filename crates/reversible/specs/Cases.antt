-- The 5/3 by cases (document 02, job 2): the ends apart from the middle, as source document 004 has them. Equations 1 and 2 are `predict` and
-- `update` of Reversible; equation 3 is for a line that starts with a high, which ours do not. CaseLaws proves the passes those of Reversible.
use Rattle.std.specs.Prelude.{ℕ, ◌+◌, ◌*◌, ℤ, pos, ◌+ℤ◌, ◌-ℤ◌}
use Rattle.numbers.specs.Floor.{floor_div}
use Rattle.lines.specs.Lines.{lows, lows_first, interleaved}
use Rattle.lines.specs.Cases.{highs_by_cases, lows_by_cases}
use Rattle.reversible.specs.Reversible.{predict, update, inverse_predict, inverse_update}

-- ---- forward

-- Equation 5, the last high of an even length: high minus its one neighbour.
unfoldable pub predict_end : ℤ → ℤ → ℤ
predict_end own x = own -ℤ x

-- Equation 4, the first low, and equation 6, the last low of an odd length: low plus the floor of (its one high plus 1) over 2.
unfoldable pub update_end : ℤ → ℤ → ℤ
update_end own y = own +ℤ floor_div (y +ℤ pos 1) 2

module _ (n : ℕ) (x : ℕ → ℤ) where
  -- equations 1 and 5
  unfoldable pub high_by_cases : ℕ → ℤ
  high_by_cases = highs_by_cases predict predict_end n (λ i. x (2 * i)) (λ i. x (2 * i + 1))

  -- equations 2, 4 and 6
  unfoldable pub low_by_cases : ℕ → ℤ
  low_by_cases = lows_by_cases update update_end n (λ i. x (2 * i)) high_by_cases

  -- what the pass leaves: the lows first, then the highs
  unfoldable pub pass_by_cases : ℕ → ℤ
  pass_by_cases = lows_first n low_by_cases high_by_cases

-- ---- back, which the paper does not print: the same equations inverted are ours

-- equation 5 inverted
unfoldable pub inverse_predict_end : ℤ → ℤ → ℤ
inverse_predict_end own x = own +ℤ x

-- equations 4 and 6 inverted
unfoldable pub inverse_update_end : ℤ → ℤ → ℤ
inverse_update_end own y = own -ℤ floor_div (y +ℤ pos 1) 2

module _ (n : ℕ) (y : ℕ → ℤ) where
  -- equations 2, 4 and 6 inverted
  unfoldable pub low_inverse_by_cases : ℕ → ℤ
  low_inverse_by_cases = lows_by_cases inverse_update inverse_update_end n y (λ i. y (lows n + i))

  -- equations 1 and 5 inverted
  unfoldable pub high_inverse_by_cases : ℕ → ℤ
  high_inverse_by_cases = highs_by_cases inverse_predict inverse_predict_end n low_inverse_by_cases (λ i. y (lows n + i))

  -- each value to its place
  unfoldable pub inverse_by_cases : ℕ → ℤ
  inverse_by_cases = interleaved low_inverse_by_cases high_inverse_by_cases

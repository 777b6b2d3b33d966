-- The 5/3 by cases is the 5/3, at every place of every length from 2 (`pass_is`, `back_is`).
use Rattle.std.specs.Prelude.{ℕ, ◌≡◌, refl, ℤ, pos, ◌+ℤ◌, ◌-ℤ◌}
use Rattle.std.proofs.Math.Path.{sym}
use Rattle.std.proofs.Common.{◌∙◌, ap, lit<, lit≤}
use Rattle.numbers.specs.Floor.{floor_div, half_twice, quarter_twice}
use Rattle.lines.specs.Lines.{lows, highs, Liftable, lows_first}
use Rattle.lines.specs.Cases.{highs_by_cases, lows_by_cases, of_high, of_low, Reduced}
use Rattle.lines.specs.LineLaws.{Equal, first_equal, interleaved_equal}
use Rattle.lines.specs.InverseLaws.{equal}
use Rattle.lines.specs.OneLaws.{one_long}
use Rattle.lines.proofs.CaseLaws.{congruence_equal, highs_are_lem, lows_are_lem}
use Rattle.reversible.specs.Reversible.{predict, update, inverse_predict, inverse_update, high, low, reversible_long, reversible_pass, low_inverse, high_inverse, inverse_long, inverse_pass}
use Rattle.reversible.specs.Cases.{predict_end, update_end, inverse_predict_end, inverse_update_end, high_by_cases, low_by_cases, pass_by_cases, low_inverse_by_cases, high_inverse_by_cases, inverse_by_cases}

-- ---- the reduced equations

pub update_end_lem : Reduced ◌≡◌ update update_end
unfolding update update_end
update_end_lem own y = ap (λ (z : ℤ). own +ℤ z) (sym (quarter_twice y))

pub predict_end_lem : Reduced ◌≡◌ predict predict_end
unfolding predict predict_end
predict_end_lem own x = ap (λ (z : ℤ). own -ℤ z) (sym (half_twice x))

pub inverse_predict_end_lem : Reduced ◌≡◌ inverse_predict inverse_predict_end
unfolding inverse_predict inverse_predict_end
inverse_predict_end_lem own x = ap (λ (z : ℤ). own +ℤ z) (sym (half_twice x))

pub inverse_update_end_lem : Reduced ◌≡◌ inverse_update inverse_update_end
unfolding inverse_update inverse_update_end
inverse_update_end_lem own y = ap (λ (z : ℤ). own -ℤ z) (sym (quarter_twice y))

-- ---- the passes

module _ (n : ℕ) (works : Liftable n) where
  module _ (x : ℕ → ℤ) where
    high_is_lem : Equal (highs n) (high_by_cases n x) (high n x)
    unfolding high_by_cases high
    high_is_lem = highs_are_lem equal (congruence_equal predict) predict_end_lem n works (λ i p. refl) (λ i p. refl)

    low_is_lem : Equal (lows n) (low_by_cases n x) (low n x)
    unfolding low_by_cases low
    low_is_lem = lows_are_lem equal (congruence_equal update) update_end_lem n works (λ i p. refl) high_is_lem

    -- forward: source document 004, equations 1, 2 and 4 to 6
    pub pass_is : Equal n (pass_by_cases n x) (reversible_pass n x)
    unfolding pass_by_cases reversible_pass reversible_long
    pass_is k h = first_equal n low_is_lem high_is_lem k h ∙ sym (one_long (λ v. v) reversible_long n x k works)

  module _ (y : ℕ → ℤ) where
    low_back_is : Equal (lows n) (low_inverse_by_cases n y) (low_inverse n y)
    unfolding low_inverse_by_cases low_inverse
    low_back_is = lows_are_lem equal (congruence_equal inverse_update) inverse_update_end_lem n works (λ i p. refl) (λ i p. refl)

    high_back_is : Equal (highs n) (high_inverse_by_cases n y) (high_inverse n y)
    unfolding high_inverse_by_cases high_inverse
    high_back_is = highs_are_lem equal (congruence_equal inverse_predict) inverse_predict_end_lem n works low_back_is (λ i p. refl)

    -- back
    pub back_is : Equal n (inverse_by_cases n y) (inverse_pass n y)
    unfolding inverse_by_cases inverse_pass inverse_long
    back_is k h = interleaved_equal n low_back_is high_back_is k h ∙ sym (one_long (λ v. v) inverse_long n y k works)

-- ---- the shortest lines, where the ends meet

-- two samples: a first low and the last high of an even length
pub two_samples : (x : ℕ → ℤ) → let d = x 1 -ℤ x 0 in (reversible_pass 2 x 0 ≡ x 0 +ℤ floor_div (d +ℤ pos 1) 2) × (reversible_pass 2 x 1 ≡ d)
unfolding pass_by_cases low_by_cases high_by_cases highs_by_cases lows_by_cases of_high of_low predict_end update_end lows_first
two_samples x = let two : Liftable 2 = record { least = lit≤ tt } in (sym (pass_is 2 two x 0 (lit< tt)), sym (pass_is 2 two x 1 (lit< tt)))

-- three samples: a high with two neighbours, which is the one neighbour of the first low and of the last low of an odd length
pub three_samples : (x : ℕ → ℤ) → let d = x 1 -ℤ floor_div (x 0 +ℤ x 2) 2 in
    (reversible_pass 3 x 0 ≡ x 0 +ℤ floor_div (d +ℤ pos 1) 2) × (reversible_pass 3 x 1 ≡ x 2 +ℤ floor_div (d +ℤ pos 1) 2) × (reversible_pass 3 x 2 ≡ d)
unfolding pass_by_cases low_by_cases high_by_cases highs_by_cases lows_by_cases of_high of_low predict update_end lows_first
three_samples x = let three : Liftable 3 = record { least = lit≤ tt } in (sym (pass_is 3 three x 0 (lit< tt)), sym (pass_is 3 three x 1 (lit< tt)), sym (pass_is 3 three x 2 (lit< tt)))

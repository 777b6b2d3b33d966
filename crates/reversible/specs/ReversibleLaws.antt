-- The 5/3 transform and its way back invert each other, whatever the sides, in either order of rows and columns (`forward_back`,
-- `back_forward`), and read nothing outside the picture.
use Rattle.std.specs.Prelude.{ℕ, ◌+◌, ◌*◌, ◌<◌, ◌≡◌, ℤ, pos, ◌+ℤ◌, ◌-ℤ◌}
use Rattle.std.proofs.Common.{◌∙◌, arith}
use Rattle.std.proofs.Math.Path.{fun_ext}
use Rattle.numbers.specs.Dif.{by_dif, difs}
use Rattle.numbers.specs.Floor.{floor_div}
use Rattle.lines.specs.Lines.{lows, highs, Liftable, low_after, high_before, high_after, on_highs, on_lows}
use Rattle.lines.specs.Planes.{Plane}
use Rattle.lines.specs.LineLaws.{some_highs_lem, first_low_lem, first_high, even_place_lem, odd_place, by_parity, by_half, Equal, first_equal, interleaved_equal, evens_equal, odds_equal, lows_equal, highs_equal}
use Rattle.lines.specs.Neighbours.{low_after_in, on_highs_equal, on_lows_equal}
use Rattle.lines.specs.PlaneLaws.{Agree}
use Rattle.lines.specs.InverseLaws.{equal, Inverses, InversesPart, rows_first_inverses, columns_first_inverses, levels_left_inverse, levels_right_inverse, levels_read, back_reads}
use Rattle.lines.specs.OneLaws.{one_inverses}
use Rattle.reversible.specs.Reversible.{Order, columns_first, rows_first, predict, update, high, low, reversible_long, reversible_pass, forward_level, forward, inverse_predict, inverse_update, low_inverse, high_inverse, inverse_long, inverse_pass, inverse_level, inverse}

-- ---- steps

pub take-add : (a s : ℤ) → a -ℤ s +ℤ s ≡ a
take-add = by_dif _ λ a b. by_dif _ λ c d. simp difs (omega arith)

pub add_take : (a s : ℤ) → a +ℤ s -ℤ s ≡ a
add_take = by_dif _ λ a b. by_dif _ λ c d. simp difs (omega arith)

inverse_predict_predict : (a x y : ℤ) → inverse_predict (predict a x y) x y ≡ a
unfolding inverse_predict predict
inverse_predict_predict a x y = take-add a (floor_div (x +ℤ y) 2)

predict_inverse_predict : (a x y : ℤ) → predict (inverse_predict a x y) x y ≡ a
unfolding inverse_predict predict
predict_inverse_predict a x y = add_take a (floor_div (x +ℤ y) 2)

inverse_update_update : (a x y : ℤ) → inverse_update (update a x y) x y ≡ a
unfolding inverse_update update
inverse_update_update a x y = add_take a (floor_div (x +ℤ y +ℤ pos 2) 4)

update_inverse_update : (a x y : ℤ) → update (inverse_update a x y) x y ≡ a
unfolding inverse_update update
update_inverse_update a x y = take-add a (floor_div (x +ℤ y +ℤ pos 2) 4)

-- ---- a line of two values or more

module _ (n : ℕ) (y : ℕ → ℤ) where
  back_even : (i : ℕ) → inverse_long n y (2 * i) ≡ low_inverse n y i
  unfolding inverse_long
  back_even i = even_place_lem (low_inverse n y) (high_inverse n y) i

  back_odd : (i : ℕ) → inverse_long n y (2 * i + 1) ≡ high_inverse n y i
  unfolding inverse_long
  back_odd i = odd_place (low_inverse n y) (high_inverse n y) i

module _ (n : ℕ) (works : Liftable n) where
  module _ (x : ℕ → ℤ) where
    low_left_inverse : (i : ℕ) → i < lows n → low_inverse n (reversible_long n x) i ≡ x (2 * i)
    unfolding low_inverse on_lows reversible_long low
    low_left_inverse i h =
        rw (first_low_lem n (low n x) (high n x) i h, first_high n (low n x) (high n x) (high_before i), first_high n (low n x) (high n x) (high_after n i))
        (inverse_update_update (x (2 * i)) (high n x (high_before i)) (high n x (high_after n i)))

    high_left_inverse : (i : ℕ) → i < highs n → high_inverse n (reversible_long n x) i ≡ x (2 * i + 1)
    unfolding high_inverse on_highs reversible_long high
    high_left_inverse i h =
        rw (first_high n (low n x) (high n x) i, low_left_inverse i (omega arith), low_left_inverse (low_after n i) (low_after_in n i h))
        (inverse_predict_predict (x (2 * i + 1)) (x (2 * i)) (x (2 * low_after n i)))

    long_left_inverse : (k : ℕ) → k < n → inverse_long n (reversible_long n x) k ≡ x k
    long_left_inverse = by_parity (λ k. inverse_long n (reversible_long n x) k ≡ x k) n
        (λ i h. back_even n (reversible_long n x) i ∙ low_left_inverse i h)
        (λ i h. back_odd n (reversible_long n x) i ∙ high_left_inverse i h)

  module _ (y : ℕ → ℤ) where
    high_right_inverse : (i : ℕ) → high n (inverse_long n y) i ≡ y (lows n + i)
    unfolding high on_highs high_inverse
    high_right_inverse i =
        rw (back_odd n y i, back_even n y i, back_even n y (low_after n i))
        (predict_inverse_predict (y (lows n + i)) (low_inverse n y i) (low_inverse n y (low_after n i)))

    low_right_inverse : (i : ℕ) → low n (inverse_long n y) i ≡ y i
    unfolding low on_lows low_inverse
    low_right_inverse i =
        rw (high_right_inverse (high_before i), high_right_inverse (high_after n i), back_even n y i)
        (update_inverse_update (y i) (y (lows n + high_before i)) (y (lows n + high_after n i)))

    long_right_inverse : (k : ℕ) → k < n → reversible_long n (inverse_long n y) k ≡ y k
    unfolding reversible_long
    long_right_inverse = by_half (λ k. reversible_long n (inverse_long n y) k ≡ y k) n
        (λ i h. first_low_lem n (low n (inverse_long n y)) (high n (inverse_long n y)) i h ∙ low_right_inverse i)
        (λ i h. first_high n (low n (inverse_long n y)) (high n (inverse_long n y)) i ∙ high_right_inverse i)

  -- it reads its n values and no others
  module _ (x y : ℕ → ℤ) (same : Equal n x y) where
    long_same : Equal n (reversible_long n x) (reversible_long n y)
    unfolding reversible_long low high
    long_same =
        let l = evens_equal n same in
        let h = on_highs_equal n l (odds_equal n same) predict in
        first_equal n (on_lows_equal n l h update (some_highs_lem n works)) h

    back_same : Equal n (inverse_long n x) (inverse_long n y)
    unfolding inverse_long low_inverse high_inverse
    back_same =
        let h = highs_equal n same in
        let l = on_lows_equal n (lows_equal n same) h inverse_update (some_highs_lem n works) in
        interleaved_equal n l (on_highs_equal n l h inverse_predict)

-- from one value on, each pass is the inverse of the other and reads its n values and no others
pub passes_left_inverse : Inverses ◌≡◌ reversible_pass inverse_pass
unfolding reversible_pass inverse_pass
passes_left_inverse = one_inverses equal reversible_long inverse_long long_same back_same long_left_inverse long_right_inverse

-- ---- levels

pub level_left_inverse : (order : Order) → InversesPart ◌≡◌ (forward_level order) (inverse_level order)
level_left_inverse columns_first = columns_first_inverses equal passes_left_inverse (λ low. passes_left_inverse)
level_left_inverse rows_first = rows_first_inverses equal passes_left_inverse (λ low. passes_left_inverse)

module _ (order : Order) (L w h : ℕ) where
  pub forward_back : (p : Plane ℤ) → inverse order L w h (forward order L w h p) ≡ p
  unfolding forward inverse
  forward_back p = fun_ext λ r. fun_ext λ c. levels_left_inverse equal (λ l. level_left_inverse order) w h L p r c

  pub back_forward : (p : Plane ℤ) → forward order L w h (inverse order L w h p) ≡ p
  unfolding forward inverse
  back_forward p = fun_ext λ r. fun_ext λ c. levels_right_inverse equal (λ l. level_left_inverse order) w h L p r c

  -- what lies outside the picture is not read
  module _ (p q : Plane ℤ) (same : Agree w h p q) where
    pub forward_agrees : Agree w h (forward order L w h p) (forward order L w h q)
    unfolding forward
    forward_agrees = levels_read equal (λ l. level_left_inverse order) w h w h (omega arith) (omega arith) L p q same

    pub back_agrees : Agree w h (inverse order L w h p) (inverse order L w h q)
    unfolding inverse
    back_agrees = back_reads equal (λ l. level_left_inverse order) w h w h (omega arith) (omega arith) L p q same

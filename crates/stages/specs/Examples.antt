-- Bounds of one pass by computation; the numbers were made by another program too.
use Rattle.std.specs.Prelude.{ℕ, ◌^◌, ◌≡◌, refl, List, [], ◌∷◌}
use Rattle.exact.specs.Fractions.{◌⊕◌, ◌⊗◌, neg, whole, magnitude, rounded_up}
use Rattle.numbers.specs.Ceiling.{up_div}
use Rattle.exact.specs.Exact.{lift}
use Rattle.stages.specs.Stages.{Stage, Side, low, high, made, forward, inverse, uncut, cut_to, bits}
use Rattle.stages.specs.Gains.{values_after, sum_to, input_answer, node_answer, sum_from, exact_gain, gain}
use Rattle.stages.specs.Rule as Rule
use Rattle.stages.specs.Rule.{Bound, Entering, together, apart}

abbrev bound : ℕ → ℕ → Bound
bound r e = record { range = r; error = e }

-- all F 24, all f 20
abbrev after : List Stage → Entering → Side → ℕ → Bound
after st e = Rule.side_bound st e (λ i. 24) (λ i. uncut) (λ s. 8) (λ i. 20)

-- P1, U1, P2, U2, G1, G2 of level 1 rows at depth 8
pub forward_bounds :
    let b = after forward (together (bound (2 ^ 31) 0)) in
    b high 1 ∷ b low 2 ∷ b high 3 ∷ b low 4 ∷ b low 5 ∷ b high 6 ∷ []
    ≡ bound 8959885312 4224 ∷ bound 3096903680 5079 ∷ bound 4530503680 16683 ∷ bound 3646586880 22999 ∷ bound 4192141312 30645 ∷ bound 3940909056 18745 ∷ []
unfolding Rule.side_bound Rule.range_at Rule.error_at Rule.owns Rule.stages_part Rule.own_error_of Rule.input_part Rule.own_lift Rule.product_loss Rule.own_scale Rule.loss Rule.times_gain bits up_div gain exact_gain sum_from sum_to input_answer node_answer values_after made rounded_up lift ◌⊕◌ ◌⊗◌ whole magnitude
forward_bounds = refl

-- G1, G2, U2, P2, U1, P1 inverted, lows of range 2^11 and highs of range 2^8
pub inverse_bounds :
    let b = after inverse (apart (bound (2 ^ 43) 0) (bound (2 ^ 40) 0)) in
    b low 1 ∷ b high 2 ∷ b low 3 ∷ b high 4 ∷ b low 5 ∷ b high 6 ∷ []
    ≡ bound 7651484237824 266240 ∷ bound 1264012230656 36864 ∷ bound 8772688805888 378378 ∷ bound 16754851971072 1232002 ∷ bound 8533848358912 1430023 ∷ bound 9754625703936 4818382 ∷ []
unfolding Rule.side_bound Rule.range_at Rule.error_at Rule.owns Rule.stages_part Rule.own_error_of Rule.input_part Rule.own_lift Rule.product_loss Rule.own_scale Rule.loss Rule.times_gain bits up_div gain exact_gain sum_from sum_to input_answer node_answer values_after made rounded_up lift ◌⊕◌ ◌⊗◌ neg whole magnitude
inverse_bounds = refl

-- A product of F + fm = 44 bits cut to 0, 20, 32, 33, 43 and 44 bits, and uncut: what is lost, in 2^-32.
pub product_losses :
    Rule.product_loss (cut_to 0) 44 ∷ Rule.product_loss (cut_to 20) 44 ∷ Rule.product_loss (cut_to 32) 44 ∷ Rule.product_loss (cut_to 33) 44 ∷ Rule.product_loss (cut_to 43) 44 ∷ Rule.product_loss (cut_to 44) 44 ∷ Rule.product_loss uncut 44 ∷ []
    ≡ 4294967296 ∷ 4096 ∷ 1 ∷ 1 ∷ 1 ∷ 0 ∷ 0 ∷ []
unfolding Rule.product_loss up_div
product_losses = refl

-- The same as a part of a stage's own error: F 24, the multiplied value at 20 bits with range plus error 2^31, the other operand at 8 bits, the
-- node at 20 bits. Cut to 20 bits, the product loses 2^-20 and the node nothing; cut to 40 bits, one unit and 2^-20.
pub own_errors_lem :
    Rule.own_lift uncut 24 20 8 20 (2 ^ 31) ∷ Rule.own_lift (cut_to 40) 24 20 8 20 (2 ^ 31) ∷ Rule.own_lift (cut_to 20) 24 20 8 20 (2 ^ 31) ∷ []
    ≡ 4224 ∷ 4225 ∷ 4224 ∷ []
unfolding Rule.own_lift Rule.product_loss Rule.loss up_div
own_errors_lem = refl

-- The gains of the two passes as numbers, in whole numbers of 2^-16.
use Rattle.std.specs.Prelude.{List, [], ◌∷◌, ℕ, zero, suc, ◌-◌}
use Rattle.stages.specs.Stages.{stage, forward, inverse}
use Rattle.stages.specs.Gains.{Source, samples, lows, highs, node, gain}

-- from the input, which counts as a node, and from P1, U1, P2, U2, G1, G2, in a line each, to the input and to P1, U1, P2, U2, G1, G2
abbrev pub forward_gains : List (List ℕ)
forward_gains =
    (65536 ∷ 273434 ∷ 94510 ∷ 138260 ∷ 111285 ∷ 127934 ∷ 120267 ∷ [])
    ∷ (0 ∷ 65536 ∷ 6945 ∷ 65536 ∷ 45749 ∷ 52593 ∷ 57008 ∷ [])
    ∷ (0 ∷ 0 ∷ 65536 ∷ 115725 ∷ 168186 ∷ 193347 ∷ 100665 ∷ [])
    ∷ (0 ∷ 0 ∷ 0 ∷ 65536 ∷ 58132 ∷ 66829 ∷ 57008 ∷ [])
    ∷ (0 ∷ 0 ∷ 0 ∷ 0 ∷ 65536 ∷ 75341 ∷ 0 ∷ [])
    ∷ (0 ∷ 0 ∷ 0 ∷ 0 ∷ 0 ∷ 65536 ∷ 0 ∷ [])
    ∷ (0 ∷ 0 ∷ 0 ∷ 0 ∷ 0 ∷ 0 ∷ 65536 ∷ [])
    ∷ []

-- from the lows, the highs and G1, G2, U2, P2, U1, P1 inverted to G1, G2, U2, P2, U1, P1 inverted
abbrev pub inverse_gains : List (List ℕ)
inverse_gains =
    (57008 ∷ 0 ∷ 57008 ∷ 100665 ∷ 57008 ∷ 63260 ∷ [])
    ∷ (0 ∷ 75341 ∷ 66829 ∷ 193347 ∷ 52593 ∷ 75341 ∷ [])
    ∷ (65536 ∷ 0 ∷ 65536 ∷ 115725 ∷ 65536 ∷ 72724 ∷ [])
    ∷ (0 ∷ 65536 ∷ 58132 ∷ 168186 ∷ 45749 ∷ 65536 ∷ [])
    ∷ (0 ∷ 0 ∷ 65536 ∷ 115725 ∷ 65536 ∷ 72724 ∷ [])
    ∷ (0 ∷ 0 ∷ 0 ∷ 65536 ∷ 6945 ∷ 87565 ∷ [])
    ∷ (0 ∷ 0 ∷ 0 ∷ 0 ∷ 65536 ∷ 207898 ∷ [])
    ∷ (0 ∷ 0 ∷ 0 ∷ 0 ∷ 0 ∷ 65536 ∷ [])
    ∷ []

abbrev pub forward_source : ℕ → Source
forward_source zero = samples
forward_source (suc i) = node i

abbrev pub inverse_source : ℕ → Source
inverse_source zero = lows
inverse_source (suc zero) = highs
inverse_source (suc (suc i)) = node i

-- from place i to place j: 0 the input, 1 to 6 what that many stages leave
abbrev pub forward_gain : ℕ → ℕ → ℕ
forward_gain i j = gain forward (stage forward (j - 1)).side j (forward_source i)

-- from source i to what stage j leaves
abbrev pub inverse_gain : ℕ → ℕ → ℕ
inverse_gain i j = gain inverse (stage inverse j).side (suc j) (inverse_source i)

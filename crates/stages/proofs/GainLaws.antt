-- The gains of the two passes as numbers are the gains.
use Rattle.std.specs.Prelude.{◌≡◌, refl, List, [], ℕ, ◌<◌, get_or}
use Rattle.std.proofs.Common.{sym, ◌∙◌, ap}
use Rattle.lines.specs.Planes.{tabulate}
use Rattle.lines.specs.RowLaws.{tabulate_at}
use Rattle.exact.specs.Fractions.{◌⊕◌, ◌⊗◌, neg, whole, magnitude, rounded_up}
use Rattle.numbers.specs.Ceiling.{up_div}
use Rattle.exact.specs.Exact.{lift}
use Rattle.stages.specs.Stages.{made}
use Rattle.stages.specs.Gains.{values_after, sum_to, input_answer, node_answer, sum_from, exact_gain, gain}
use Rattle.stages.specs.GainTable.{forward_gains, inverse_gains, forward_gain, inverse_gain}

forward_gains_lem : tabulate 7 (λ i. tabulate 7 (forward_gain i)) ≡ forward_gains
unfolding tabulate gain exact_gain sum_from sum_to input_answer node_answer values_after made rounded_up up_div lift ◌⊕◌ ◌⊗◌ whole magnitude
forward_gains_lem = refl

inverse_gains_lem : tabulate 8 (λ i. tabulate 6 (inverse_gain i)) ≡ inverse_gains
unfolding tabulate gain exact_gain sum_from sum_to input_answer node_answer values_after made rounded_up up_div lift ◌⊕◌ ◌⊗◌ neg whole magnitude
inverse_gains_lem = refl

entry : (f : ℕ → ℕ → ℕ) (n m : ℕ) (rows : List (List ℕ)) → tabulate n (λ i. tabulate m (f i)) ≡ rows → (i j : ℕ) → i < n → j < m → f i j ≡ get_or (get_or rows i []) j 0
entry f n m rows e i j h k =
    sym (ap (λ (row : List ℕ). get_or row j 0) (tabulate_at n (λ i. tabulate m (f i)) [] i h) ∙ tabulate_at m (f i) 0 j k)
    ∙ ap (λ (t : List (List ℕ)). get_or (get_or t i []) j 0) e

pub forward_gain_lem : (i j : ℕ) → i < 7 → j < 7 → forward_gain i j ≡ get_or (get_or forward_gains i []) j 0
forward_gain_lem = entry forward_gain 7 7 forward_gains forward_gains_lem

pub inverse_gain_lem : (i j : ℕ) → i < 8 → j < 6 → inverse_gain i j ≡ get_or (get_or inverse_gains i []) j 0
inverse_gain_lem = entry inverse_gain 8 6 inverse_gains inverse_gains_lem

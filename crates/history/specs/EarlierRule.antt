-- The rule of bounds before document 02, job 7: no product is cut.
use Rattle.std.specs.Prelude.{ℕ, zero, suc, ◌+◌, ◌^◌, max, List, [], ◌∷◌}
use Rattle.numbers.specs.Ceiling.{up_div}
use Rattle.stages.specs.Stages.{Side, low, high, Kind, lifts, scales, Stage, stage, bits}
use Rattle.stages.specs.Gains.{node}
use Rattle.stages.specs.Rule.{Bound, loss, own_scale, Entering, carried, input_part}

-- plus 2^-f where f is below the full precision, the larger of the other operand's bits and F plus the multiplied value's bits
unfoldable pub old_lift : ℕ → ℕ → ℕ → ℕ → ℕ → ℕ
old_lift F fm fo f r = up_div r (2 ^ F) + loss f (max fo (F + fm))

module _ (st : List Stage) (e : Entering) (F : ℕ → ℕ) (fi : Side → ℕ) (f : ℕ → ℕ) where
  unfoldable pub old_from : Kind → Side → ℕ → (Side → ℕ) → ℕ
  old_from lifts low i r = old_lift (F i) (bits st fi f i high) (bits st fi f i low) (f i) (r high)
  old_from lifts high i r = old_lift (F i) (bits st fi f i low) (bits st fi f i high) (f i) (r low)
  old_from scales low i r = own_scale (F i) (bits st fi f i low) (f i) (r low)
  old_from scales high i r = own_scale (F i) (bits st fi f i high) (f i) (r high)

  unfoldable pub old_bring : ℕ → List ℕ → Side → ℕ → ℕ
  old_bring zero own s m = 0
  old_bring (suc i) [] s m = 0
  old_bring (suc i) (own ∷ earlier) s m = old_bring i earlier s m + carried st own (node i) s m

  unfoldable pub old_owns : ℕ → List ℕ
  old_owns zero = []
  old_owns (suc i) =
      let earlier = old_owns i in
      old_from (stage st i).kind (stage st i).side i (λ s. input_part st (λ b. b.range) e s i + (input_part st (λ b. b.error) e s i + old_bring i earlier s i)) ∷ earlier

  unfoldable pub old_bound_at : Side → ℕ → Bound
  old_bound_at s m = record { range = input_part st (λ b. b.range) e s m; error = input_part st (λ b. b.error) e s m + old_bring m (old_owns m) s m }

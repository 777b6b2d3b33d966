-- Bounds as the program holds them, and what is carried to a place by a table of gains (document 01: the judge).
use Rattle.std.specs.Prelude.{ℕ, zero, suc, ◌+◌, ◌^◌, List, [], get_or}
use Rattle.stages.specs.Rule.{Bound, times_gain}
use Rattle.bounds_rule.specs.declared.Bound as Code

-- a bound as the program holds it
abbrev pub as_held : Bound → Code.Bound
as_held b = record { range = b.range; error = b.error }

-- a bound that the program holds
abbrev pub as_bound : Code.Bound → Bound
as_bound b = record { range = b.range; error = b.error }

-- the gain from i to j, in whole numbers of 2^-16, where line i has those from i
abbrev pub gain_in : List (List ℕ) → ℕ → ℕ → ℕ
gain_in gains i j = get_or (get_or gains i []) j 0

-- what the first n sources carry to j, where x has what each has of its own
unfoldable pub carried_to : List (List ℕ) → List ℕ → ℕ → ℕ → ℕ
carried_to gains x j zero = 0
carried_to gains x j (suc n) = carried_to gains x j n + times_gain (get_or x n 0) (gain_in gains n j)

-- ---- the sizes that the program takes

-- what is multiplied by a gain
abbrev pub most_carried : ℕ
most_carried = 2 ^ 49

-- the largest gain of either pass
abbrev pub most_gain : ℕ
most_gain = 273434

-- range plus error of a value that a stage multiplies
abbrev pub most_multiplied : ℕ
most_multiplied = 2 ^ 62

-- The stages of an inverse pass and the sources of its errors by number, as the program counts them.
use Rattle.std.specs.Prelude.{ℕ, zero, suc, ◌+◌, ◌*◌, ◌-◌, ◌^◌, ◌≤◌, Bool, true, false, ◌&&◌, List, [], ◌∷◌, eqb, ltb, get_or}
use Rattle.inverse_lifting.specs.Fixed.{node_bits, inverse_bits}
use Rattle.width_table.specs.Nodes.{Node, P1, U1, P2, U2, G1, G2, nodes_per_pass, Rows, LowColumns, HighColumns}
use Rattle.width_table.specs.declared.WidthTable.{WidthTable}
use Rattle.width_table.specs.Table.{max_levels, max_integer_bits}
use Rattle.stages.specs.Stages.{inverse, uncut}
use Rattle.stages.specs.GainTable.{inverse_gains}
use Rattle.stages.specs.Rule.{Bound, apart, times_gain, own_lift, own_scale}
use Rattle.stages.proofs.RuleLaws as RuleLaws
use Rattle.view_precision.specs.Bounds.{larger, pass_bound, pass_right, level_gives}
use Rattle.view_precision.specs.Odd.{own_odd}
use Rattle.bounds_rule.specs.Carried.{gain_in, carried_to}

-- stages from 0; sources: 0 the lows, 1 the highs, from 2 on the stages
abbrev pub stages : ℕ
stages = nodes_per_pass

abbrev pub sources : ℕ
sources = stages + 2

-- those that scale come first
abbrev pub scalings : ℕ
scalings = 2

-- that which leaves the even output
abbrev pub even_stage : ℕ
even_stage = 4

-- the node that a stage leaves
abbrev pub node_after : ℕ → Node
node_after zero = G1
node_after (suc zero) = G2
node_after (suc (suc zero)) = U2
node_after (suc (suc (suc zero))) = P2
node_after (suc (suc (suc (suc zero)))) = U1
node_after (suc (suc (suc (suc (suc j))))) = P1

-- the gain from source i to what stage j leaves, in whole numbers of 2^-16
abbrev pub gain_at : ℕ → ℕ → ℕ
gain_at = gain_in inverse_gains

-- the bound of what stage j leaves on lines of two values or more, from the ranges of the lows and the highs and from what each source
-- has of its own
abbrev pub bound_from : ℕ → ℕ → List ℕ → ℕ → Bound
bound_from low high own j = record { range = times_gain low (gain_at 0 j) + times_gain high (gain_at 1 j); error = carried_to inverse_gains own j sources }

-- on lines from one value: that of the even output is the larger of that and the lows
abbrev pub node_from : Bound → Bound → List ℕ → ℕ → Bound
node_from a b own j = elim (eqb j even_stage) [
  | true ↦ larger (bound_from a.range b.range own j) a
  | false ↦ bound_from a.range b.range own j
]

abbrev pub total : Bound → ℕ
total b = b.range + b.error

-- range plus error of the value that stage j multiplies: G1 the lows, G2 the highs, any other what the stage before left
abbrev pub total_from : Bound → Bound → List ℕ → ℕ → ℕ
total_from a b own zero = total a
total_from a b own (suc zero) = total b
total_from a b own (suc (suc j)) = total (node_from a b own (suc j))

-- the own error of stage j, where r is the range plus error of the value that it multiplies
unfoldable pub inverse_own_error : ℕ → ℕ → ℕ
inverse_own_error j r = elim (ltb j scalings) [
  | true ↦ own_scale inverse_bits 0 node_bits r
  | false ↦ own_lift uncut inverse_bits node_bits node_bits node_bits r
]

-- One pass, as in Bounds.
module _ (a b : Bound) where
  abbrev rule : ℕ → ℕ
  rule = RuleLaws.own_at inverse (apart a b) (λ i. inverse_bits) (λ i. uncut) (λ s. 0) (λ i. node_bits)

  -- what a source has of its own: the lows and the highs their errors, a stage its own error
  unfoldable pub own_at : ℕ → ℕ
  own_at zero = a.error
  own_at (suc zero) = b.error
  own_at (suc (suc zero)) = rule 0
  own_at (suc (suc (suc zero))) = rule 1
  own_at (suc (suc (suc (suc zero)))) = rule 2
  own_at (suc (suc (suc (suc (suc zero))))) = rule 3
  own_at (suc (suc (suc (suc (suc (suc zero)))))) = rule 4
  own_at (suc (suc (suc (suc (suc (suc (suc j))))))) = own_odd a b

  -- the same of the sources below k, and zeros
  unfoldable pub owns_below : ℕ → List ℕ
  owns_below k = own 0 ∷ own 1 ∷ own 2 ∷ own 3 ∷ own 4 ∷ own 5 ∷ own 6 ∷ own 7 ∷ []
    where
      own : ℕ → ℕ
      own i = elim (ltb i k) [ true ↦ own_at i | false ↦ 0 ]

-- ---- sizes

-- range and error of a stored coefficient are at most this, in whole numbers of 2^-32
abbrev pub most_stored : ℕ
most_stored = 2 ^ (max_integer_bits - 1) * 2 ^ 32

-- at most n times that, in range and in error
pub record AtMostStored (n : ℕ) (b : Bound) : Type 0 where
  pub range : b.range ≤ n * most_stored
  pub error : b.error ≤ n * most_stored

-- the low-low that a level takes: a level adds no more than eight times what is stored
abbrev pub most_entering : ℕ
most_entering = 1 + 8 * max_levels

-- what the program feeds to a pass
abbrev pub most_fed : ℕ
most_fed = 64

abbrev pub largest : ℕ
largest = most_fed * most_stored

abbrev pub SmallFed : Bound → Type 0
SmallFed = AtMostStored most_fed

abbrev pub AllSmall : List ℕ → Type 0
AllSmall own = (i : ℕ) → get_or own i 0 ≤ largest

-- range plus error of any node of the pass is at most this
abbrev pub most_total : ℕ
most_total = 64 * largest

-- ---- levels

-- `nodes_right` of Bounds, whatever error the stored coefficients start at
abbrev pub level_right : WidthTable → ℕ → ℕ → Bound → Bool
level_right t steps l b = pass_right (pass_bound t steps l b LowColumns) && pass_right (pass_bound t steps l b HighColumns) && pass_right (pass_bound t steps l b Rows)

unfoldable pub levels_right : WidthTable → ℕ → ℕ → Bound → Bool
levels_right t steps zero b = true
levels_right t steps (suc k) b = level_right t steps (suc k) b && levels_right t steps k (level_gives t steps (suc k) b)

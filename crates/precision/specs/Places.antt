-- The places of a pass by number, as the program counts them: 0 the input, 1 to 6 the nodes.
use Rattle.std.specs.Prelude.{ℕ, zero, suc, ◌+◌, ◌*◌, ◌-◌, ◌^◌, ◌<◌, ◌≤◌, Bool, true, false, List, [], ◌∷◌, T, ltb, eqb, ◌≡◌, get_or, take}
use Rattle.refusals.specs.Answers.{Answer, passed}
use Rattle.width_table.specs.Numbered.{node_of, pass_of, IsNode, IsPass, IsProduct}
use Rattle.width_table.specs.Nodes.{Node, P2, G1, G2, nodes_per_pass, node_number, Pass, Rows, LowColumns, HighColumns, TableNode, node_at, level_nodes}
use Rattle.width_table.specs.declared.WidthTable.{WidthTable}
use Rattle.width_table.specs.Table.{max_constant_bits, max_integer_bits, max_fraction_bits, max_product_bits, constant_bits, fraction_bits, input_bits, form_right}
use Rattle.width_table.specs.Readers.{constant_bits_at, integer_bits_at, fraction_bits_at, cut_at, input_bits_at}
use Rattle.stages.specs.Stages.{forward, Product, cut_to}
use Rattle.bounds_rule.specs.Carried.{as_held, as_bound, gain_in}
use Rattle.stages.specs.GainTable.{forward_gains}
use Rattle.stages.proofs.RuleLaws as RuleLaws
use Rattle.stages.specs.Rule.{Bound, together, own_lift, own_scale}
use Rattle.table_meaning.specs.Products.{product_of}
use Rattle.precision.specs.Bounds.{node_bound, bound_of, entering}
use Rattle.bounds_rule.specs.declared.Bound as Code
use Rattle.precision.specs.declared.PassBounds.{PassBounds}
use Rattle.precision.specs.declared.Widths.{Widths}
use Rattle.precision.specs.Verdict.{judged_by, first_refusal}
use Rattle.precision.specs.BoundCalls.{bound_numbered}

-- the input and the nodes
abbrev pub places : ℕ
places = nodes_per_pass + 1

-- range plus error of a node that fits is at most this, in whole numbers of 2^-32
abbrev pub most_fitting : ℕ
most_fitting = 2 ^ (max_integer_bits - 1) * 2 ^ 32

-- and of a place of the pass that it enters at most this
abbrev pub most_total : ℕ
most_total = 2 ^ 51

-- an own error of that pass is at most this: 7.5 times most_fitting
abbrev pub largest : ℕ
largest = 15 * 2 ^ 42

-- the gain from place i to place j, in whole numbers of 2^-16
abbrev pub gain_at : ℕ → ℕ → ℕ
gain_at = gain_in forward_gains

-- the place whose value a stage multiplies, and that of the other operand of P1, U1, P2, U2
abbrev pub multiplied : ℕ → ℕ
multiplied k = elim (eqb k (node_number G2)) [ true ↦ node_number P2 | false ↦ k - 1 ]

abbrev pub other : ℕ → ℕ
other k = k - 2

-- One pass, as in Bounds.
module _ (F : Node → ℕ) (fp : Node → Product) (fi : ℕ) (b : Bound) (f : Node → ℕ) where
  abbrev pub bits_at : ℕ → ℕ
  bits_at zero = fi
  bits_at (suc k) = f (node_of (suc k))

  -- the own error of a place; the input's error
  unfoldable pub own_at : ℕ → ℕ
  own_at zero = b.error
  own_at (suc i) = RuleLaws.own_at forward (together b) (λ i. F (node_of (suc i))) (λ i. fp (node_of (suc i))) (λ s. fi) (λ i. f (node_of (suc i))) i

  -- range plus error of a place
  unfoldable pub total_at : ℕ → ℕ
  total_at zero = b.range + b.error
  total_at (suc k) = (node_bound F fp fi b f (node_of (suc k))).range + (node_bound F fp fi b f (node_of (suc k))).error

  -- the own error of place k where r is the range plus error of the value that it multiplies
  unfoldable pub own_error_at : ℕ → ℕ → ℕ
  own_error_at k r = elim (ltb k (node_number G1)) [
    | true ↦ own_lift (fp (node_of k)) (F (node_of k)) (bits_at (multiplied k)) (bits_at (other k)) (bits_at k) r
    | false ↦ own_scale (F (node_of k)) (bits_at (multiplied k)) (bits_at k) r
  ]

  -- the own errors of the places below k, and zeros
  unfoldable pub owns_below : ℕ → List ℕ
  owns_below k = own 0 ∷ own 1 ∷ own 2 ∷ own 3 ∷ own 4 ∷ own 5 ∷ own 6 ∷ []
    where
      own : ℕ → ℕ
      own i = elim (ltb i k) [ true ↦ own_at i | false ↦ 0 ]

-- ---- the same of a table

-- what enters a pass
abbrev pub fed : WidthTable → ℕ → Pass → Bound
fed t l Rows = entering t l
fed t l LowColumns = bound_of t (node_at l Rows G1)
fed t l HighColumns = bound_of t (node_at l Rows G2)

-- what enters the pass that follows the first k passes of level l; after all three it is the rows of the next level
abbrev pub fed_after : WidthTable → ℕ → ℕ → Bound
fed_after t l zero = entering t l
fed_after t l (suc zero) = bound_of t (node_at l Rows G1)
fed_after t l (suc (suc zero)) = bound_of t (node_at l Rows G2)
fed_after t l (suc (suc (suc k))) = bound_of t (node_at l LowColumns G1)

module _ (t : WidthTable) (l : ℕ) (p : Pass) where
  abbrev pub bits_of : ℕ → ℕ
  bits_of = bits_at (constant_bits t) (product_of t l p) (input_bits t l p) (fed t l p) (fraction_bits t l p)

  abbrev pub own_error_of : ℕ → ℕ → ℕ
  own_error_of = own_error_at (constant_bits t) (product_of t l p) (input_bits t l p) (fed t l p) (fraction_bits t l p)

  abbrev pub own_here : ℕ → ℕ
  own_here = own_at (constant_bits t) (product_of t l p) (input_bits t l p) (fed t l p) (fraction_bits t l p)

  abbrev pub owns_of : ℕ → List ℕ
  owns_of = owns_below (constant_bits t) (product_of t l p) (input_bits t l p) (fed t l p) (fraction_bits t l p)

-- the own error of a place, from a pass's widths as the program holds them, where r is as above
unfoldable pub own_by : Widths → ℕ → ℕ → ℕ
own_by w k r = elim (ltb k (node_number G1)) [
  | true ↦ own_lift (cut_to (get_or w.products (k - 1) 0)) (get_or w.constants (k - 1) 0) (get_or w.fractions (multiplied k) 0) (get_or w.fractions (other k) 0) (get_or w.fractions k 0) r
  | false ↦ own_scale (get_or w.constants (k - 1) 0) (get_or w.fractions (multiplied k) 0) (get_or w.fractions k 0) r
]

-- the bound of a node by its numbers, as the program holds it
abbrev pub bound_of_node : WidthTable → ℕ → ℕ → ℕ → Code.Bound
bound_of_node t l p n = as_held (bound_numbered t l p n)

-- the bound that it holds for a place
abbrev pub held_at : PassBounds → ℕ → Code.Bound
held_at b k = record { range = get_or b.ranges k 0; error = get_or b.errors k 0 }

-- the verdict on a node whose bound is so held
unfoldable pub judged_as : Code.Bound → ℕ → ℕ → Bool → List ℕ → Answer Unit
judged_as b = judged_by (as_bound b)

-- level l and pass p are ones of a table of right form
pub record At (t : WidthTable) (l p : ℕ) : Type 0 where
  pub form : T (form_right t)
  pub level_from : 1 ≤ l
  pub level_to : l ≤ t.levels
  pub pass : IsPass p

-- widths within the limits
pub record Limited (w : Widths) : Type 0 where
  pub constant : (k : ℕ) → IsNode k → get_or w.constants (k - 1) 0 ≤ max_constant_bits
  pub integer : (k : ℕ) → IsNode k → (1 ≤ get_or w.integers (k - 1) 0) × (get_or w.integers (k - 1) 0 ≤ max_integer_bits)
  pub fraction : (k : ℕ) → k < places → get_or w.fractions k 0 ≤ max_fraction_bits
  pub product : (k : ℕ) → IsProduct k → get_or w.products (k - 1) 0 ≤ max_product_bits

-- the program holds the widths of the pass
pub record Read (t : WidthTable) (l p : ℕ) (w : Widths) : Type 0 where
  pub place : At t l p
  pub constant : (k : ℕ) → IsNode k → get_or w.constants (k - 1) 0 ≡ constant_bits_at t k
  pub integer : (k : ℕ) → IsNode k → get_or w.integers (k - 1) 0 ≡ integer_bits_at t l p k
  pub fraction : (k : ℕ) → IsNode k → get_or w.fractions k 0 ≡ fraction_bits_at t l p k
  pub input : get_or w.fractions 0 0 ≡ input_bits_at t l p
  pub product : (k : ℕ) → IsProduct k → get_or w.products (k - 1) 0 ≡ cut_at t l p k

-- and b is what enters the pass; it is small, since the node that feeds it fits
pub record Enters (t : WidthTable) (l p : ℕ) (b : Code.Bound) : Type 0 where
  pub place : At t l p
  pub is : b ≡ as_held (fed t l (pass_of p))
  pub small : b.range + b.error ≤ most_fitting

-- the program holds the pass's widths, and the bounds of its nodes
pub record BoundsOf (t : WidthTable) (l p : ℕ) (b : PassBounds) : Type 0 where
  pub widths : Read t l p b.widths
  pub is : (k : ℕ) → IsNode k → held_at b k ≡ bound_of_node t l p k
  pub small : (k : ℕ) → IsNode k → (held_at b k).range + (held_at b k).error ≤ most_total

-- the program holds bound b, and it is small enough to enter a pass
pub record Reached (b : Bound) (held : Code.Bound) : Type 0 where
  pub is : held ≡ as_held b
  pub small : held.range + held.error ≤ most_fitting

-- o is the first refusal of the nodes before; where there is none, the program holds b, which comes next
abbrev pub Goes : WidthTable → List TableNode → Bound → Answer Unit → Code.Bound → Type 0
Goes t before b o held = (o ≡ first_refusal t before) × (o ≡ passed → Reached b held)

-- the same of the first k passes of a level, and of the pass that follows them
abbrev pub After : WidthTable → ℕ → ℕ → Answer Unit → Code.Bound → Type 0
After t l k = Goes t (take (k * nodes_per_pass) (level_nodes l)) (fed_after t l k)

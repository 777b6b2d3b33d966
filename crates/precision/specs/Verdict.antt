-- The verdict on a width table (document 01: the judge, and why a book comes back).
use Rattle.std.specs.Prelude.{ℕ, ◌+◌, ◌*◌, ◌-◌, ◌^◌, ◌<◌, ◌≤◌, Bool, ◌||◌, not, List, [], ◌∷◌, ◌≡◌, T, leb, ltb}
use Rattle.refusals.specs.Answers.{Answer, passed, asks, asks_giving, ◌then◌}
use Rattle.width_table.specs.declared.WidthTable.{WidthTable}
use Rattle.width_table.specs.Nodes.{Node, Pass, TableNode, node_at, pass_number, node_number, table_order}
use Rattle.width_table.specs.Table.{integer_bits, fraction_bits, form_right}
use Rattle.stages.specs.Rule.{Bound}
use Rattle.table_meaning.specs.Subbands.{kept_at}
use Rattle.precision.specs.Bounds.{bound_of}

-- A node fits if range plus error is at most 2^(IB-1) - 2^-f.
abbrev pub fits : Bound → ℕ → ℕ → Bool
fits b IB f = leb (b.range + b.error + 2 ^ (32 - f)) (2 ^ (IB - 1) * 2 ^ 32)

-- The error is below 2 times 2^-f.
abbrev pub below_two_steps : Bound → ℕ → Bool
below_two_steps b f = ltb b.error (2 * 2 ^ (32 - f))

-- the level, pass (1 to 3) and node (1 to 6) that a refusal gives
abbrev pub place_numbers : TableNode → List ℕ
place_numbers p = p.level ∷ pass_number p.pass ∷ node_number p.node ∷ []

-- At one node fit comes first (6); a kept node also needs its error below two steps (7).
abbrev pub judged_by : Bound → ℕ → ℕ → Bool → List ℕ → Answer Unit
judged_by b IB f kept place =
    asks_giving (fits b IB f) (6, place)
    (asks_giving (not kept || below_two_steps b f) (7, place)
    passed)

-- The verdict on a table whose nodes have the bounds `bound`.
module _ (t : WidthTable) (bound : TableNode → Bound) where
  abbrev pub judged_with : TableNode → Answer Unit
  judged_with p = judged_by (bound p) (integer_bits t p.level p.pass p.node) (fraction_bits t p.level p.pass p.node) (kept_at t.levels p.level p.pass p.node) (place_numbers p)

  -- the first refusal, in the order of the list
  abbrev pub first_refusal_with : List TableNode → Answer Unit
  first_refusal_with [] = passed
  first_refusal_with (p ∷ ps) = judged_with p then first_refusal_with ps

  -- Form comes first (4), then the nodes in book order (6 and 7 as one step).
  abbrev pub verdict_with : Answer Unit
  verdict_with = asks (form_right t) 4 (first_refusal_with (table_order t.levels))

-- The judge's: these with its own bounds (Bounds). To unfold one is to unfold those above it.
unfoldable pub judged : WidthTable → TableNode → Answer Unit
judged t = judged_with t (bound_of t)

unfoldable pub first_refusal : WidthTable → List TableNode → Answer Unit
unfolding judged
first_refusal t = first_refusal_with t (bound_of t)

unfoldable pub verdict : WidthTable → Answer Unit
unfolding first_refusal
verdict t = verdict_with t (bound_of t)

abbrev pub Accepted : WidthTable → Type 0
Accepted t = verdict t ≡ passed

-- a level of an accepted table
pub record IsLevel (t : WidthTable) (l : ℕ) : Type 0 where
  pub accepted : Accepted t
  pub least : 1 ≤ l
  pub most : l ≤ t.levels

-- What acceptance promises, and all that it asks (Promise): the form is right, every node fits, every kept node's error is below two
-- steps.
pub record AcceptPromise (t : WidthTable) : Type 0 where
  pub form : T (form_right t)
  pub fit : (l : ℕ) → 1 ≤ l → l ≤ t.levels → (p : Pass) (n : Node)
      → (bound_of t (node_at l p n)).range + (bound_of t (node_at l p n)).error + 2 ^ (32 - fraction_bits t l p n) ≤ 2 ^ (integer_bits t l p n - 1) * 2 ^ 32
  pub steps : (l : ℕ) → 1 ≤ l → l ≤ t.levels → (p : Pass) (n : Node) → T (kept_at t.levels l p n)
      → (bound_of t (node_at l p n)).error < 2 * 2 ^ (32 - fraction_bits t l p n)

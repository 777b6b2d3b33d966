-- Level 1 row P1 with IB 2 is refused 6 (document 01: numbers to hold it against), in every table of right form and whatever its other numbers
-- are (`first_node_refused`): that node is the first in book order, and its range, 2^31 times 273434 / 2^16, is above 2.
use Prim.Native.Nat.{ℕ, zero, suc, ◌+◌, ◌*◌, ◌-◌, ◌^◌, ◌<◌, ◌≤◌}
use Rattle.std.specs.Prelude.{false, [], ◌∷◌, ◌≡◌, T}
use Rattle.std.proofs.Common.{◌∙◌, arith, lit≤, pow_mono}
use Rattle.std.proofs.lemmas.Bool.{lt-leb}
use Rattle.numbers.specs.Ceiling.{up_div}
use Rattle.refusals.specs.Answers.{refused}
use Rattle.refusals.specs.AnswerLaws.{asks_right, asks_wrong, then_refused}
use Rattle.stages.specs.Rule as Rule
use Rattle.stages.specs.Rule.{times_gain}
use Rattle.stages.proofs.ForwardLaws.{range_at_lem}
use Rattle.width_table.specs.Nodes.{P1, Rows, node_at, level_nodes, table_order}
use Rattle.width_table.specs.Numbered.{node_of}
use Rattle.width_table.specs.Limits.{form_levels}
use Rattle.width_table.specs.declared.WidthTable.{WidthTable}
use Rattle.width_table.specs.Table.{constant_bits, integer_bits, fraction_bits, input_bits, form_right}
use Rattle.table_meaning.specs.Products.{product_of}
use Rattle.precision.specs.Bounds.{node_bound, row_bound, pass_bound, entering, bound_of}
use Rattle.precision.specs.Verdict.{fits, judged, first_refusal, verdict}
use Rattle.precision.specs.Promise.{refusal_++}

-- the same for every table
pub first_range : (t : WidthTable) → (bound_of t (node_at 1 Rows P1)).range ≡ 8959885312
unfolding bound_of entering pass_bound row_bound node_bound Rule.side_bound times_gain up_div
first_range t = range_at_lem _ (λ i. constant_bits t (node_of (suc i))) (λ i. product_of t 1 Rows (node_of (suc i))) (input_bits t 1 Rows) (λ i. fraction_bits t 1 Rows (node_of (suc i))) 1 (lit≤ tt)

module _ (t : WidthTable) (few : integer_bits t 1 Rows P1 ≤ 2) where
  no_fit : fits (bound_of t (node_at 1 Rows P1)) (integer_bits t 1 Rows P1) (fraction_bits t 1 Rows P1) ≡ false
  no_fit =
      let bound = bound_of t (node_at 1 Rows P1) in
      let above : 2 ^ (integer_bits t 1 Rows P1 - 1) * 2 ^ 32 < bound.range + bound.error + 2 ^ (32 - fraction_bits t 1 Rows P1) = omega (arith, first_range t, pow_mono {i = integer_bits t 1 Rows P1 - 1} {j = 1} (omega arith)) in
      lt-leb _ _ above

  first_judged : judged t (node_at 1 Rows P1) ≡ refused (6, 1 ∷ 1 ∷ 1 ∷ [])
  unfolding judged
  first_judged = asks_wrong _ _ _ no_fit

  -- it comes before all others, whatever the levels
  first_of : (k : ℕ) → first_refusal t (table_order (suc k)) ≡ refused (6, 1 ∷ 1 ∷ 1 ∷ [])
  unfolding first_refusal
  first_of zero = then_refused (judged t (node_at 1 Rows P1)) _ _ first_judged
  first_of (suc k) = refusal_++ t (table_order (suc k)) (level_nodes (suc (suc k))) ∙ then_refused (first_refusal t (table_order (suc k))) _ _ (first_of k)

-- Refused 6 at level 1, pass 1, node 1.
pub first_node_refused : (t : WidthTable) → T (form_right t) → integer_bits t 1 Rows P1 ≤ 2 → verdict t ≡ refused (6, 1 ∷ 1 ∷ 1 ∷ [])
unfolding verdict
first_node_refused t right few = asks_right (form_right t) _ _ right ∙ first t.levels (form_levels t right).0
  where
    first : (L : ℕ) → 1 ≤ L → first_refusal t (table_order L) ≡ refused (6, 1 ∷ 1 ∷ 1 ∷ [])
    first zero some = absurd (omega arith)
    first (suc k) some = first_of t few k

-- A table without tag 5 has the ranges and errors that it had before document 02, job 7 (`old_bounds`), which are told as before
-- (`old_bound_told`), and its old verdict (`old_verdict_lem`).
use Prim.Native.Nat.{ℕ, zero, suc, ◌+◌, max}
use mathlib.Core.List.{List, [], ◌∷◌}
use Rattle.std.specs.Prelude.{◌≡◌, false}
use Rattle.std.proofs.Math.Path.{refl, ap, fun_ext}
use Rattle.std.proofs.Common.{◌∙◌}
use Rattle.stages.specs.Stages.{Side, low, high, Kind, lifts, scales, Stage, stage, uncut, bits, forward}
use Rattle.stages.specs.Gains.{node}
use Rattle.stages.specs.Rule.{Bound, Entering, carried, input_part, range_at, own_error_of, stages_part, owns, error_at, side_bound, together, single_error}
use Rattle.stages.proofs.ProductLaws.{own_uncut}
use Rattle.history.specs.EarlierRule.{old_bound_at, old_lift, old_from, old_bring, old_owns}
use Rattle.width_table.specs.Nodes.{Node, P1, U1, P2, U2, G1, G2, Pass, TableNode}
use Rattle.width_table.specs.Numbered.{node_of}
use Rattle.width_table.specs.declared.WidthTable.{WidthTable}
use Rattle.width_table.specs.Table.{constant_bits, fraction_bits, input_bits}
use Rattle.table_meaning.specs.ProductLaws.{none_cut}
use Rattle.precision.specs.Bounds.{bound_after, node_bound, by_rule, bound_of_by, bound_of}
use Rattle.precision.specs.Verdict.{verdict_with, verdict}
use Rattle.precision.specs.BoundCalls.{bound_answer_with, bound_answer}
use Rattle.history.specs.EarlierAnalysis.{old_after, old_at, old_bound_of, old_verdict, old_bound_answer}

-- ---- the rule

module _ (st : List Stage) (e : Entering) (F : ℕ → ℕ) (fi : Side → ℕ) (f : ℕ → ℕ) where
  from_same : (k : Kind) (t : Side) (i : ℕ) (r : Side → ℕ) → own_error_of st e F (λ i. uncut) fi f k t i r ≡ old_from st e F fi f k t i r
  unfolding own_error_of old_from old_lift
  from_same lifts low i r = own_uncut (F i) (bits st fi f i high) (bits st fi f i low) (f i) (r high)
  from_same lifts high i r = own_uncut (F i) (bits st fi f i low) (bits st fi f i high) (f i) (r low)
  from_same scales low i r = refl
  from_same scales high i r = refl

  bring_same : (i : ℕ) (l : List ℕ) (s : Side) (m : ℕ) → stages_part st e F (λ i. uncut) fi f i l s m ≡ old_bring st e F fi f i l s m
  unfolding stages_part old_bring
  bring_same zero l s m = refl
  bring_same (suc i) [] s m = refl
  bring_same (suc i) (own ∷ l) s m = ap (λ (k : ℕ). k + carried st own (node i) s m) (bring_same i l s m)

  owns_same : (i : ℕ) → owns st e F (λ i. uncut) fi f i ≡ old_owns st e F fi f i
  unfolding owns old_owns range_at
  owns_same zero = refl
  owns_same (suc i) = ap next (owns_same i) ∙ ap (λ (g : Side → ℕ). own_error_of st e F (λ i. uncut) fi f (stage st i).kind (stage st i).side i (λ s. input_part st (λ b. b.range) e s i + (input_part st (λ b. b.error) e s i + g s)) ∷ old_owns st e F fi f i) (λ u s. bring_same i (old_owns st e F fi f i) s i u) ∙ ap (λ (k : ℕ). k ∷ old_owns st e F fi f i) (from_same (stage st i).kind (stage st i).side i _)
    where
      next : List ℕ → List ℕ
      next l = own_error_of st e F (λ i. uncut) fi f (stage st i).kind (stage st i).side i (λ s. input_part st (λ b. b.range) e s i + (input_part st (λ b. b.error) e s i + stages_part st e F (λ i. uncut) fi f i l s i)) ∷ l

  pub old_bound : (s : Side) (m : ℕ) → side_bound st e F (λ i. uncut) fi f s m ≡ old_bound_at st e F fi f s m
  unfolding side_bound old_bound_at range_at error_at
  old_bound s m =
      let bound : ℕ → Bound = λ k. record { range = input_part st (λ b. b.range) e s m; error = input_part st (λ b. b.error) e s m + k } in
      ap (λ (l : List ℕ). bound (stages_part st e F (λ i. uncut) fi f m l s m)) (owns_same m) ∙ ap bound (bring_same m (old_owns st e F fi f m) s m)

-- ---- the analysis

module _ (F : Node → ℕ) (fi : ℕ) (b : Bound) (f : Node → ℕ) where
  after_same : (s : Side) (m : ℕ) → bound_after F (λ n. uncut) fi b f s m ≡ old_after F fi b f s m
  after_same = old_bound forward (together b) (λ i. F (node_of (suc i))) (λ s. fi) (λ i. f (node_of (suc i)))

  at_same : (n : Node) → node_bound F (λ n. uncut) fi b f n ≡ old_at F fi b f n
  unfolding node_bound old_at
  at_same P1 = after_same high 1
  at_same U1 = after_same low 2
  at_same P2 = after_same high 3
  at_same U2 = after_same low 4
  at_same G1 = ap (λ (x : Bound). record { range = x.range; error = max x.error (single_error fi b (f G1)) }) (after_same low 5)
  at_same G2 = after_same high 6

module _ (t : WidthTable) (e : t.has_products ≡ false) where
  pass_at : (l : ℕ) (p : Pass) (b : Bound) (n : Node) → by_rule node_bound t l p b n ≡ old_at (constant_bits t) (input_bits t l p) b (fraction_bits t l p) n
  pass_at l p b n =
      (λ u. node_bound (constant_bits t) (none_cut t l p e u) (input_bits t l p) b (fraction_bits t l p) n)
      ∙ at_same (constant_bits t) (input_bits t l p) b (fraction_bits t l p) n

  pass_same : by_rule node_bound t ≡ by_rule (λ F fp. old_at F) t
  pass_same = λ u l p b n. pass_at l p b n u

  -- Without tag 5 each node has its old range and error.
  pub old_bounds : (p : TableNode) → bound_of t p ≡ old_bound_of t p
  unfolding bound_of old_bound_of
  old_bounds p = ap (λ (pass : ℕ → Pass → Bound → Node → Bound). bound_of_by pass p) pass_same

  -- And the table has its old verdict.
  pub old_verdict_lem : verdict t ≡ old_verdict t
  unfolding verdict old_verdict
  old_verdict_lem = ap (verdict_with t) (fun_ext old_bounds)

  pub old_bound_told : (level pass place : ℕ) → bound_answer t level pass place ≡ old_bound_answer t level pass place
  unfolding bound_answer old_bound_answer
  old_bound_told level pass place = ap (λ (bound : TableNode → Bound). bound_answer_with t bound level pass place) (fun_ext old_bounds)

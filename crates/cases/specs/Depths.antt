-- Document 01 names two tables without their depth (numbers to hold it against). At every depth they have the verdicts that it gives them
-- (`usual_accepted`, `rough_refused`): the depth enters the analysis as the bits of what the first rows take in alone, and where P1 and U1 of
-- these rows have fewer fractional bits than their constants, their cuts lose the same at every depth (`depth_no_matter`).
use Prim.Native.Nat.{ℕ, zero, suc, ◌+◌, ◌^◌, ◌<◌, ◌≤◌, max}
use Rattle.std.specs.Prelude.{Bool, false, ◌&&◌, ◌≡◌}
use mathlib.Core.List.{List, [], ◌∷◌}
use Rattle.std.proofs.Math.Path.{refl, sym, ap, ap₂}
use Rattle.std.proofs.Common.{◌∙◌, arith, lit≤}
use Rattle.numbers.specs.Ceiling.{up_div}
use Rattle.numbers.specs.Tests.{every, is_between}
use Rattle.refusals.specs.Answers.{refused, asks}
use Rattle.stages.specs.Stages.{Side, low, high, Kind, lifts, scales, stage, forward, uncut, replaced, bits}
use Rattle.stages.specs.Gains.{node}
use Rattle.stages.specs.Rule as Rule
use Rattle.stages.specs.Rule.{Bound, together, carried, input_part, own_lift, own_scale, range_at, own_error_of, stages_part, owns, error_at}
use Rattle.stages.proofs.RuleLaws.{loss_below}
use Rattle.stages.proofs.ProductLaws.{own_uncut}
use Rattle.width_table.specs.Nodes.{Node, P1, U1, P2, U2, G1, G2, every_node, Pass, Rows, LowColumns, HighColumns, TableNode, table_order, product_order}
use Rattle.width_table.specs.Numbered.{node_of}
use Rattle.width_table.specs.declared.WidthTable.{WidthTable}
use Rattle.width_table.specs.Table.{max_depth, max_levels, depth_right, levels_right, constant_right, constant_bits, fraction_bits, input_bits, node_right, product_held, form_right}
use Rattle.width_table.specs.WorkedTables.{usual_of, rough_of, usual, rough}
use Rattle.table_meaning.specs.Products.{product_of}
use Rattle.table_meaning.specs.ProductLaws.{none_cut}
use Rattle.precision.specs.Bounds.{bound_after, node_bound, by_rule, bound_of_by, bound_of}
use Rattle.precision.specs.Verdict.{first_refusal_with, verdict, Accepted}
use Rattle.precision.specs.LongLines.{long_bound}
use Rattle.precision.specs.LongLaws.{same_bound}
use Rattle.worked_precision.specs.Verdicts as Depth8

-- ---- one pass that cuts no product, fed at fi or at fi' bits

module _ (b : Bound) (F : ℕ → ℕ) (f : ℕ → ℕ) (fi fi' : ℕ) (first : f 0 < F 0) (second : f 1 < F 1) where
  -- the bits of a side: of the input, until a stage works it
  bits_same : (m : ℕ) (s : Side) → bits forward (λ s. fi) f (suc (suc m)) s ≡ bits forward (λ s. fi') f (suc (suc m)) s
  unfolding bits
  bits_same zero low = refl
  bits_same zero high = refl
  bits_same (suc m) s = λ u. replaced (stage forward (suc (suc m))).side (f (suc (suc m))) (λ s. bits_same m s u) s

  -- the own errors of P1 and U1
  P1-same : (r : ℕ) → own_lift uncut (F 0) fi fi (f 0) r ≡ own_lift uncut (F 0) fi' fi' (f 0) r
  P1-same r =
      own_uncut (F 0) fi fi (f 0) r
      ∙ ap (λ (x : ℕ). up_div r (2 ^ F 0) + x) (loss_below (f 0) (max fi (F 0 + fi)) (omega arith) ∙ sym (loss_below (f 0) (max fi' (F 0 + fi')) (omega arith)))
      ∙ sym (own_uncut (F 0) fi' fi' (f 0) r)

  U1-same : (r : ℕ) → own_lift uncut (F 1) (f 0) fi (f 1) r ≡ own_lift uncut (F 1) (f 0) fi' (f 1) r
  U1-same r =
      own_uncut (F 1) (f 0) fi (f 1) r
      ∙ ap (λ (x : ℕ). up_div r (2 ^ F 1) + x) (loss_below (f 1) (max fi (F 1 + f 0)) (omega arith) ∙ sym (loss_below (f 1) (max fi' (F 1 + f 0)) (omega arith)))
      ∙ sym (own_uncut (F 1) (f 0) fi' (f 1) r)

  abbrev own_of : ℕ → Kind → Side → ℕ → (Side → ℕ) → ℕ
  own_of g = own_error_of forward (together b) F (λ i. uncut) (λ s. g) f

  from_same : (i : ℕ) (r : Side → ℕ) → own_of fi (stage forward i).kind (stage forward i).side i r ≡ own_of fi' (stage forward i).kind (stage forward i).side i r
  unfolding own_error_of bits
  from_same zero r = P1-same (r low)
  from_same (suc zero) r = U1-same (r high)
  from_same (suc (suc m)) r = go (stage forward (suc (suc m))).kind (stage forward (suc (suc m))).side
    where
      i : ℕ
      i = suc (suc m)

      go : (k : Kind) (s : Side) → own_of fi k s i r ≡ own_of fi' k s i r
      go lifts low = λ u. own_lift uncut (F i) (bits_same m high u) (bits_same m low u) (f i) (r high)
      go lifts high = λ u. own_lift uncut (F i) (bits_same m low u) (bits_same m high u) (f i) (r low)
      go scales low = λ u. own_scale (F i) (bits_same m low u) (f i) (r low)
      go scales high = λ u. own_scale (F i) (bits_same m high u) (f i) (r high)

  abbrev bring : ℕ → ℕ → List ℕ → Side → ℕ → ℕ
  bring g = stages_part forward (together b) F (λ i. uncut) (λ s. g) f

  bring_same : (i : ℕ) (l : List ℕ) (s : Side) (m : ℕ) → bring fi i l s m ≡ bring fi' i l s m
  unfolding stages_part
  bring_same zero l s m = refl
  bring_same (suc i) [] s m = refl
  bring_same (suc i) (own ∷ l) s m = ap (λ (k : ℕ). k + carried forward own (node i) s m) (bring_same i l s m)

  abbrev start : (Bound → ℕ) → Side → ℕ → ℕ
  start r = input_part forward r (together b)

  abbrev owns_of : ℕ → ℕ → List ℕ
  owns_of g = owns forward (together b) F (λ i. uncut) (λ s. g) f

  -- the own error of stage i, where the stages before it bring g to each side
  abbrev own : ℕ → ℕ → (Side → ℕ) → ℕ
  own fed i g = own_of fed (stage forward i).kind (stage forward i).side i (λ s. start (λ b. b.range) s i + (start (λ b. b.error) s i + g s))

  owns_same : (i : ℕ) → owns_of fi i ≡ owns_of fi' i
  unfolding owns range_at
  owns_same zero = refl
  owns_same (suc i) =
      ap next (owns_same i)
      ∙ ap (λ (g : Side → ℕ). own fi i g ∷ owns_of fi' i) (λ u s. bring_same i (owns_of fi' i) s i u)
      ∙ ap (λ (k : ℕ). k ∷ owns_of fi' i) (from_same i _)
    where
      next : List ℕ → List ℕ
      next l = own fi i (λ s. bring fi i l s i) ∷ l

  pub after_same : (s : Side) (m : ℕ) → Rule.side_bound forward (together b) F (λ i. uncut) (λ s. fi) f s m ≡ Rule.side_bound forward (together b) F (λ i. uncut) (λ s. fi') f s m
  unfolding Rule.side_bound range_at error_at
  after_same s m =
      let bound : ℕ → Bound = λ k. record { range = start (λ b. b.range) s m; error = start (λ b. b.error) s m + k } in
      ap (λ (l : List ℕ). bound (bring fi m l s m)) (owns_same m) ∙ ap bound (bring_same m (owns_of fi' m) s m)

-- ---- a table and the same one at another depth

abbrev pub at_depth : WidthTable → ℕ → WidthTable
at_depth t B = record { depth = B; levels = t.levels; constants = t.constants; nodes = t.nodes; has_products = t.has_products; products = t.products }

module _ (F : Node → ℕ) (b : Bound) (f : Node → ℕ) (fi fi' : ℕ) (first : f P1 < F P1) (second : f U1 < F U1) where
  bound_same : (s : Side) (m : ℕ) → bound_after F (λ n. uncut) fi b f s m ≡ bound_after F (λ n. uncut) fi' b f s m
  bound_same = after_same b (λ i. F (node_of (suc i))) (λ i. f (node_of (suc i))) fi fi' first second

  long_same : (n : Node) → long_bound F (λ n. uncut) fi b f n ≡ long_bound F (λ n. uncut) fi' b f n
  unfolding long_bound
  long_same P1 = bound_same high 1
  long_same U1 = bound_same low 2
  long_same P2 = bound_same high 3
  long_same U2 = bound_same low 4
  long_same G1 = bound_same low 5
  long_same G2 = bound_same high 6

  at_same : (n : Node) → node_bound F (λ n. uncut) fi b f n ≡ node_bound F (λ n. uncut) fi' b f n
  at_same n = same_bound F (λ n. uncut) fi b f n ∙ long_same n ∙ sym (same_bound F (λ n. uncut) fi' b f n)

module _ (t : WidthTable) (B : ℕ) (none : t.has_products ≡ false) (first : fraction_bits t 1 Rows P1 < constant_bits t P1) (second : fraction_bits t 1 Rows U1 < constant_bits t U1) where
  abbrev t' : WidthTable
  t' = at_depth t B

  products_same : (l : ℕ) (p : Pass) → product_of t' l p ≡ product_of t l p
  products_same l p = none_cut t' l p none ∙ sym (none_cut t l p none)

  -- every pass but the first rows takes in what a node leaves
  fed_same : (l : ℕ) (p : Pass) (b : Bound) (n : Node) → input_bits t' l p ≡ input_bits t l p → by_rule node_bound t' l p b n ≡ by_rule node_bound t l p b n
  fed_same l p b n i = λ u. node_bound (constant_bits t) (products_same l p u) (i u) b (fraction_bits t l p) n

  pass_same : (l : ℕ) (p : Pass) (b : Bound) (n : Node) → by_rule node_bound t' l p b n ≡ by_rule node_bound t l p b n
  pass_same zero Rows b n = fed_same 0 Rows b n refl
  pass_same (suc zero) Rows b n =
      (λ u. node_bound (constant_bits t) (none_cut t' 1 Rows none u) B b (fraction_bits t 1 Rows) n)
      ∙ at_same (constant_bits t) b (fraction_bits t 1 Rows) B t.depth first second n
      ∙ (λ u. node_bound (constant_bits t) (sym (none_cut t 1 Rows none) u) t.depth b (fraction_bits t 1 Rows) n)
  pass_same (suc (suc l)) Rows b n = fed_same (suc (suc l)) Rows b n refl
  pass_same l LowColumns b n = fed_same l LowColumns b n refl
  pass_same l HighColumns b n = fed_same l HighColumns b n refl

  bounds_same : bound_of t' ≡ bound_of t
  unfolding bound_of
  bounds_same = λ u. bound_of_by (λ l p b n. pass_same l p b n u)

  form_same : depth_right B ≡ depth_right t.depth → form_right t' ≡ form_right t
  unfolding form_right
  form_same e = ap (λ (right : Bool). right && levels_right t.levels && every (λ n. constant_right (constant_bits t n)) every_node && every (node_right t) (table_order max_levels) && every (product_held t) (product_order max_levels)) e

  -- At every depth the table has the same verdict.
  pub depth_no_matter : 1 ≤ B → B ≤ max_depth → 1 ≤ t.depth → t.depth ≤ max_depth → verdict t' ≡ verdict t
  unfolding verdict
  depth_no_matter i j k l =
      ap₂ (λ (right : Bool) (bound : TableNode → Bound). asks right 4 (first_refusal_with t bound (table_order t.levels))) (form_same (is_between 1 max_depth B i j ∙ sym (is_between 1 max_depth t.depth k l))) bounds_same

-- ---- the two tables

-- All nodes (12, 20), kept ones (12, 2), all F 24: accepted for each L.
pub usual_accepted : (B L : ℕ) → 1 ≤ B → B ≤ max_depth → 1 ≤ L → L ≤ max_levels → Accepted (usual_of B L)
usual_accepted B L i j a b = depth_no_matter (usual L) B refl (few L a b).0 (few L a b).1 i j (lit≤ tt) (lit≤ tt) ∙ Depth8.usual_accepted L a b
  where
    few : (L : ℕ) → 1 ≤ L → L ≤ max_levels → (fraction_bits (usual L) 1 Rows P1 < 24) × (fraction_bits (usual L) 1 Rows U1 < 24)
    few zero a b = absurd (omega arith)
    few (suc zero) a b = (lit≤ tt, lit≤ tt)
    few (suc (suc zero)) a b = (lit≤ tt, lit≤ tt)
    few (suc (suc (suc zero))) a b = (lit≤ tt, lit≤ tt)
    few (suc (suc (suc (suc zero)))) a b = (lit≤ tt, lit≤ tt)
    few (suc (suc (suc (suc (suc zero))))) a b = (lit≤ tt, lit≤ tt)
    few (suc (suc (suc (suc (suc (suc L)))))) a b = absurd (omega arith)

-- One level, F 24, kept nodes (12, 20), others (12, 0): refused 7 at the LL node.
pub rough_refused : (B : ℕ) → 1 ≤ B → B ≤ max_depth → verdict (rough_of B) ≡ refused (7, 1 ∷ 2 ∷ 5 ∷ [])
rough_refused B i j = depth_no_matter rough B refl (lit≤ tt) (lit≤ tt) i j (lit≤ tt) (lit≤ tt) ∙ Depth8.rough_refused

-- Document 02, job 6, makes no bound of viewing smaller (LongLaws), so that no table is newly viewable (`viewable_still`).
use Prim.Native.Nat.{ℕ, zero, suc, ◌+◌, ◌*◌, ◌-◌, ◌^◌}
use Rattle.std.proofs.Math.Bool.{Bool}
use Rattle.std.specs.Prelude.{◌&&◌, ◌≡◌}
use mathlib.Core.List.{List, [], ◌∷◌}
use Rattle.std.proofs.Common.{◌∙◌, arith, leb→le, le→leb, lt→ltb}
use Rattle.std.proofs.Math.Dec.{T, ltb→lt}
use Rattle.numbers.specs.Tests.{every, both, four, and_intro}
use Rattle.refusals.specs.Answers.{passed}
use Rattle.refusals.specs.AnswerLaws.{asks_done, asks_right, then_done, then_right}
use Rattle.stages.specs.Rule.{Bound}
use Rattle.stages.proofs.RuleLaws.{AtMost}
use Rattle.inverse_lifting.specs.Fixed.{max_value}
use Rattle.width_table.specs.Nodes.{Node, Pass, Rows, LowColumns, HighColumns}
use Rattle.width_table.specs.declared.WidthTable.{WidthTable}
use Rattle.precision.specs.Verdict.{verdict}
use Rattle.view_precision.specs.Bounds.{from_low, from_high, pass_bound, level_gives, gives_from, start_bound, pixel_bound, within_max, pass_right, nodes_right, viewable, view_verdict}
use Rattle.view_precision.specs.LongLaws.{node_more, gives_more}
use Rattle.history.specs.EarlierView.{from_low_before, from_high_before, pass_bound_before, level_gives_before, gives_from_before, pixel_bound_before, nodes_right_before, viewable_before, view_verdict_before}

-- ---- no table is newly viewable

still : (x y : Bound) → AtMost x y → T (within_max y) → T (within_max x)
still x y m h = le→leb (x.range + x.error) (max_value * 2 ^ 32) (omega (arith, m.range, m.error, leb→le (y.range + y.error) (max_value * 2 ^ 32) h))

module _ (x y : Node → Bound) (m : (n : Node) → AtMost (x n) (y n)) where
  all_still : (ns : List Node) → T (every (λ n. within_max (y n)) ns) → T (every (λ n. within_max (x n)) ns)
  unfolding every
  all_still [] h = tt
  all_still (n ∷ ns) h =
      let (this, others) = both (within_max (y n)) _ h in
      and_intro (within_max (x n)) _ (still (x n) (y n) (m n) this) (all_still ns others)

same : {a : Bound} → AtMost a a
same = record { range = omega arith; error = omega arith }

module _ (t : WidthTable) where
  level_more : (l : ℕ) {b b' : Bound} → AtMost b b' → AtMost (level_gives_before t 0 l b) (level_gives t 0 l b')
  unfolding level_gives_before level_gives from_low_before from_low from_high_before from_high
  level_more l h = gives_more (gives_more h same) (gives_more same same)

  pixel_more : (k : ℕ) {b b' : Bound} → AtMost b b' → AtMost (gives_from_before t 0 k b) (gives_from t 0 k b')
  unfolding gives_from_before gives_from
  pixel_more zero h = h
  pixel_more (suc k) h = pixel_more k (level_more (suc k) h)

  pass_more : (l : ℕ) {b b' : Bound} → AtMost b b' → (p : Pass) (n : Node) → AtMost (pass_bound_before t 0 l b p n) (pass_bound t 0 l b' p n)
  unfolding pass_bound_before pass_bound from_low_before from_low from_high_before from_high
  pass_more l h LowColumns = node_more h same
  pass_more l h HighColumns = node_more same same
  pass_more l h Rows = node_more (gives_more h same) (gives_more same same)

  nodes_still : (k : ℕ) {b b' : Bound} → AtMost b b' → T (nodes_right t k b') → T (nodes_right_before t k b)
  unfolding nodes_right nodes_right_before
  nodes_still zero h r = tt
  nodes_still (suc k) {b} {b'} h r =
      let now : Pass → Bool = λ p. pass_right (pass_bound t 0 (suc k) b' p) in
      let was : Pass → Bool = λ p. pass_right (pass_bound_before t 0 (suc k) b p) in
      let pass : (p : Pass) → T (now p) → T (was p) = λ p. all_still _ _ (pass_more (suc k) h p) _ in
      let (x, y, z, rest) = four (now LowColumns) (now HighColumns) (now Rows) _ r in
      and_intro (was LowColumns && was HighColumns && was Rows) _
      (and_intro (was LowColumns && was HighColumns) _ (and_intro (was LowColumns) _ (pass LowColumns x) (pass HighColumns y)) (pass Rows z))
      (nodes_still k (level_more (suc k) h) rest)

  pub viewable_still : view_verdict t ≡ passed → view_verdict_before t ≡ passed
  unfolding view_verdict view_verdict_before viewable viewable_before pixel_bound pixel_bound_before
  viewable_still e =
      let (accepted, asked) = then_done (verdict t) _ e in
      let (nodes, pixel) = both (nodes_right t t.levels (start_bound t 0)) _ (asks_done (viewable t) _ _ asked).0 in
      let below = ltb→lt (pixel_bound t) (2 ^ (32 - (t.depth + 1))) pixel in
      then_right _ _ accepted
      ∙ asks_right (viewable_before t) _ _
      (and_intro (nodes_right_before t t.levels (start_bound t 0)) _ (nodes_still t.levels same nodes)
      (lt→ltb (pixel_bound_before t) (2 ^ (32 - (t.depth + 1))) (omega (arith, below, (pixel_more t.levels {b = start_bound t 0} same).error))))

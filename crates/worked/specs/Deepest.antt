-- Which depths can be viewed (document 02, job 1). An accepted table that is deeper than `deepest` of its levels is always refused 13
-- (`too_deep`); tables of that depth can be viewed (`deepest_viewed`), and tables of the next depth are accepted (`next_refused`). For the
-- ranges of the forward transform do not depend on the table, so that what the columns of level l leave has at least 2 l integer bits; and
-- the bounds of viewing grow with the ranges of what is stored.
use Prim.Native.Nat.{ℕ, zero, suc, ◌+◌, ◌*◌, ◌-◌, ◌^◌, ◌<◌, ◌≤◌}
use Rattle.std.specs.Prelude.{Bool, List, [], ◌∷◌, ◌≡◌, refl, get_or}
use Rattle.std.proofs.Math.Bool.{true, false}
use Rattle.std.proofs.Common.{◌∙◌, ap, arith, le_trans, lit<, lit≤}
use Rattle.std.proofs.Math.Nat.{mul-le-mul_right, pow-le-pow_right}
use Rattle.exact.specs.Fractions.{◌⊕◌, ◌⊗◌, neg, whole, magnitude, rounded_up}
use Rattle.numbers.specs.Ceiling.{up_div}
use Rattle.exact.specs.Exact.{lift}
use Rattle.numbers.specs.Tests.{every, right_false, ltb-false}
use Rattle.refusals.specs.Answers.{Answer, passed, refused}
use Rattle.refusals.specs.AnswerLaws.{asks_wrong, then_right}
use Rattle.stages.specs.Stages.{made, bits}
use Rattle.stages.specs.Gains.{gain, exact_gain, sum_from, sum_to, input_answer, node_answer, values_after}
use Rattle.stages.specs.Rule as Rule
use Rattle.stages.specs.Rule.{Bound}
use Rattle.stages.proofs.RuleLaws.{AtMost}
use Rattle.width_table.specs.Nodes.{column_pass, last_node}
use Rattle.width_table.specs.Limits.{form_depth, form_levels}
use Rattle.width_table.specs.declared.WidthTable.{WidthTable}
use Rattle.width_table.specs.Table.{max_depth, max_levels, integer_bits, form_right}
use Rattle.precision.specs.Bounds as Judge
use Rattle.table_meaning.specs.Products.{product_of}
use Rattle.precision.specs.Verdict.{judged, first_refusal, verdict, Accepted, AcceptPromise}
use Rattle.precision.specs.Promise.{promise}
use Rattle.view_precision.specs.Bounds
use Rattle.view_precision.specs.LongLines.{long_inverse_bound, long_gives}
use Rattle.view_precision.specs.LongLaws.{gives_more}
use Rattle.view_precision.specs.Bounds.{stored, level_gives, gives_from, start_bound, pixel_bound, nodes_right, viewable, view_verdict}
use Rattle.irreversible.specs.Narrow.{least_bits}
use Rattle.worked.specs.ViewTables.{least_table}

-- the greatest depth at which a table of L levels, 1 to 5, can be viewed (document 02, job 1: refusal 13)
abbrev pub deepest : ℕ → ℕ
deepest zero = 0
deepest (suc zero) = max_depth
deepest (suc (suc zero)) = 11
deepest (suc (suc (suc zero))) = 9
deepest (suc (suc (suc (suc zero)))) = 7
deepest (suc (suc (suc (suc (suc L))))) = 5

-- ---- the least that can be stored

-- what the columns of level l leave: 2 l integer bits, no error
abbrev least_stored : ℕ → Bound
least_stored l = record { range = 2 ^ (2 * l - 1) * 2 ^ 32; error = 0 }

-- what level l, and levels k to 1, give of it at least, where b bounds the low-low (lines of two or more suffice)
least_gives : ℕ → Bound → Bound
least_gives l b = long_gives (long_gives b (least_stored l)) (long_gives (least_stored l) (least_stored l))

least_from : ℕ → Bound → Bound
least_from zero b = b
least_from (suc k) b = least_from k (least_gives (suc k) b)

module _ (t : WidthTable) (ok : AcceptPromise t) where
  stored_least : (l : ℕ) → 1 ≤ l → l ≤ t.levels → (q last : Bool) → AtMost (least_stored l) (stored t 0 l (column_pass q) (last_node last))
  unfolding stored
  stored_least l i j q last = record {
    range = mul-le-mul_right (2 ^ 32) (pow-le-pow_right (lit≤ tt) {i = 2 * l - 1} {j = integer_bits t l (column_pass q) (last_node last) - 1} (omega (arith, least_bits t ok l i j q last)));
    error = omega arith;
  }

  gives_least : (l : ℕ) → 1 ≤ l → l ≤ t.levels → {b b' : Bound} → AtMost b b' → AtMost (least_gives l b) (level_gives t 0 l b')
  unfolding least_gives level_gives Bounds.from_low Bounds.from_high
  gives_least l i j h = gives_more (gives_more h (stored_least l i j true false)) (gives_more (stored_least l i j false true) (stored_least l i j false false))

  from_least : (k : ℕ) → k ≤ t.levels → {b b' : Bound} → AtMost b b' → AtMost (least_from k b) (gives_from t 0 k b')
  unfolding least_from gives_from
  from_least zero i h = h
  from_least (suc k) i h = from_least k (omega arith) (gives_least (suc k) (omega arith) i h)

  pixel_least : (least_from t.levels (least_stored t.levels)).error ≤ pixel_bound t
  unfolding pixel_bound
  pixel_least = (from_least t.levels (omega arith) (stored_least t.levels (form_levels t ok.form).0 (omega arith) true true)).error

-- ---- 13

-- what the pixel bound of L levels is at least
abbrev least_pixel : ℕ → ℕ
least_pixel L = (least_from L (least_stored L)).error

abbrev numbers : List ℕ
numbers = 552196 ∷ 2201719 ∷ 9809170 ∷ 44357886 ∷ []

-- of 2 to 5 levels, in whole numbers of 2^-32, computed once for all
least_pixels : least_pixel 2 ∷ least_pixel 3 ∷ least_pixel 4 ∷ least_pixel 5 ∷ [] ≡ numbers
unfolding least_from least_gives long_gives long_inverse_bound Bounds.larger Rule.side_bound Rule.range_at Rule.error_at Rule.owns Rule.stages_part Rule.own_error_of Rule.input_part Rule.own_lift Rule.product_loss Rule.own_scale Rule.loss Rule.times_gain bits up_div gain exact_gain sum_from sum_to input_answer node_answer values_after made rounded_up lift ◌⊕◌ ◌⊗◌ neg whole magnitude
least_pixels = refl

nth : (k : ℕ) → get_or (least_pixel 2 ∷ least_pixel 3 ∷ least_pixel 4 ∷ least_pixel 5 ∷ []) k 0 ≡ get_or numbers k 0
nth k = ap (λ (l : List ℕ). get_or l k 0) least_pixels

deeper : (d B : ℕ) → d < B → 2 ^ (32 - (B + 1)) ≤ 2 ^ (32 - (d + 2))
deeper d B h = pow-le-pow_right (lit≤ tt) {j = 32 - (d + 2)} (omega arith)

-- half a grey of a depth above the deepest is no more
half_grey_lem : (L B : ℕ) → 1 ≤ L → L ≤ max_levels → deepest L < B → B ≤ max_depth → 2 ^ (32 - (B + 1)) ≤ least_pixel L
half_grey_lem zero B a b d e = absurd (omega arith)
half_grey_lem (suc zero) B a b d e = absurd (omega arith)
half_grey_lem (suc (suc zero)) B a b d e = le_trans (deeper (deepest 2) B d) (omega (arith, nth 0))
half_grey_lem (suc (suc (suc zero))) B a b d e = le_trans (deeper (deepest 3) B d) (omega (arith, nth 1))
half_grey_lem (suc (suc (suc (suc zero)))) B a b d e = le_trans (deeper (deepest 4) B d) (omega (arith, nth 2))
half_grey_lem (suc (suc (suc (suc (suc zero))))) B a b d e = le_trans (deeper (deepest 5) B d) (omega (arith, nth 3))
half_grey_lem (suc (suc (suc (suc (suc (suc L)))))) B a b d e = absurd (omega arith)

-- Deeper tables are refused 13, whatever their widths.
pub too_deep : (t : WidthTable) → Accepted t → deepest t.levels < t.depth → view_verdict t ≡ refused (13, [])
unfolding view_verdict viewable
too_deep t accepted deep =
    let ok = promise t accepted in
    let (least, most) = form_levels t ok.form in
    then_right (verdict t) _ accepted
    ∙ asks_wrong (viewable t) (13, []) passed
    (right_false (nodes_right t t.levels (start_bound t 0)) _
    (ltb-false (pixel_bound t) (2 ^ (32 - (t.depth + 1)))
    (le_trans (half_grey_lem t.levels t.depth least most deep (form_depth t ok.form).1) (pixel_least t ok))))

-- ---- the limits are reached

abbrev answer : ℕ → List (Answer Unit) → Answer Unit
answer k l = get_or l k passed

-- computed once for all
verdicts :
    view_verdict (least_table (deepest 1) 1) ∷ view_verdict (least_table (deepest 2) 2) ∷ view_verdict (least_table (deepest 3) 3) ∷ view_verdict (least_table (deepest 4) 4) ∷ view_verdict (least_table (deepest 5) 5) ∷ verdict (least_table (deepest 2 + 1) 2) ∷ verdict (least_table (deepest 3 + 1) 3) ∷ verdict (least_table (deepest 4 + 1) 4) ∷ verdict (least_table (deepest 5 + 1) 5) ∷ []
    ≡ passed ∷ passed ∷ passed ∷ passed ∷ passed ∷ passed ∷ passed ∷ passed ∷ passed ∷ []
unfolding view_verdict viewable pixel_bound nodes_right gives_from level_gives Bounds.pass_bound Bounds.from_low Bounds.from_high stored verdict form_right every first_refusal judged Judge.bound_of Judge.entering Judge.pass_bound Judge.row_bound Judge.node_bound product_of Bounds.larger Bounds.even Bounds.odd Bounds.pass_gives Bounds.inverse_bound Rule.side_bound Rule.range_at Rule.error_at Rule.owns Rule.stages_part Rule.own_error_of Rule.input_part Rule.own_lift Rule.product_loss Rule.own_scale Rule.loss Rule.times_gain bits up_div gain exact_gain sum_from sum_to input_answer node_answer values_after made rounded_up lift ◌⊕◌ ◌⊗◌ neg whole magnitude
verdicts = refl

-- A table of each L that can be viewed at the greatest depth.
pub deepest_viewed : (L : ℕ) → 1 ≤ L → L ≤ max_levels → view_verdict (least_table (deepest L) L) ≡ passed
deepest_viewed zero a b = absurd (omega arith)
deepest_viewed (suc zero) a b = ap (answer 0) verdicts
deepest_viewed (suc (suc zero)) a b = ap (answer 1) verdicts
deepest_viewed (suc (suc (suc zero))) a b = ap (answer 2) verdicts
deepest_viewed (suc (suc (suc (suc zero)))) a b = ap (answer 3) verdicts
deepest_viewed (suc (suc (suc (suc (suc zero))))) a b = ap (answer 4) verdicts
deepest_viewed (suc (suc (suc (suc (suc (suc L)))))) a b = absurd (omega arith)

-- At one bit of depth more, which a table of 2 levels or more may have, such a table is accepted, and refused 13.
pub next_refused : (L : ℕ) → 2 ≤ L → L ≤ max_levels → view_verdict (least_table (deepest L + 1) L) ≡ refused (13, [])
next_refused zero a b = absurd (omega arith)
next_refused (suc zero) a b = absurd (omega arith)
next_refused (suc (suc zero)) a b = too_deep (least_table (deepest 2 + 1) 2) (ap (answer 5) verdicts) (lit< tt)
next_refused (suc (suc (suc zero))) a b = too_deep (least_table (deepest 3 + 1) 3) (ap (answer 6) verdicts) (lit< tt)
next_refused (suc (suc (suc (suc zero)))) a b = too_deep (least_table (deepest 4 + 1) 4) (ap (answer 7) verdicts) (lit< tt)
next_refused (suc (suc (suc (suc (suc zero))))) a b = too_deep (least_table (deepest 5 + 1) 5) (ap (answer 8) verdicts) (lit< tt)
next_refused (suc (suc (suc (suc (suc (suc L)))))) a b = absurd (omega arith)

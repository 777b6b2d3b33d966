-- The verdicts on the tables that document 01 names, and on some with widths of products, by computation. So `Accepted` is not empty.
use Rattle.std.specs.Prelude.{ℕ, zero, suc, ◌≤◌, List, [], ◌∷◌, ◌++◌, map, ◌≡◌, refl, get_or}
use Rattle.std.proofs.Common.{ap, arith}
use Rattle.exact.specs.Fractions.{◌⊕◌, ◌⊗◌, whole, magnitude, rounded_up}
use Rattle.numbers.specs.Ceiling.{up_div}
use Rattle.numbers.specs.Tests.{every}
use Rattle.exact.specs.Exact.{lift}
use Rattle.width_table.specs.declared.WidthTable.{WidthTable}
use Rattle.width_table.specs.Nodes.{table_order}
use Rattle.width_table.specs.Table.{max_levels, form_right}
use Rattle.width_table.specs.WorkedTables.{repeat, four, no_products, usual, narrow, rough, wide, holding, cut, stray}
use Rattle.stages.specs.Stages.{made, bits}
use Rattle.stages.specs.Gains.{gain, exact_gain, sum_from, sum_to, input_answer, node_answer, values_after}
use Rattle.stages.specs.Rule as Rule
use Rattle.table_meaning.specs.Products.{product_of}
use Rattle.precision.specs.Bounds
use Rattle.refusals.specs.Answers.{Answer, passed, refused}
use Rattle.precision.specs.Verdict.{judged, first_refusal, verdict, Accepted}
use Rattle.precision.specs.BoundCalls.{bound_answer, range_told, error_told}

-- computed once for all
verdicts :
    verdict (usual 1) ∷ verdict (usual 2) ∷ verdict (usual 3) ∷ verdict (usual 4) ∷ verdict (usual 5) ∷ verdict narrow ∷ verdict rough ∷ verdict wide ∷ []
    ≡ passed ∷ passed ∷ passed ∷ passed ∷ passed ∷ refused (6, 1 ∷ 1 ∷ 1 ∷ []) ∷ refused (7, 1 ∷ 2 ∷ 5 ∷ []) ∷ refused (4, []) ∷ []
unfolding verdict form_right every first_refusal judged Bounds.bound_of Bounds.entering Bounds.pass_bound Bounds.row_bound Bounds.node_bound product_of Rule.side_bound Rule.range_at Rule.error_at Rule.owns Rule.stages_part Rule.own_error_of Rule.input_part Rule.own_lift Rule.product_loss Rule.own_scale Rule.loss Rule.times_gain bits up_div gain exact_gain sum_from sum_to input_answer node_answer values_after made rounded_up lift ◌⊕◌ ◌⊗◌ whole magnitude
verdicts = refl

abbrev nth : ℕ → List (Answer Unit) → Answer Unit
nth k l = get_or l k passed

-- Accepted for each L.
pub usual_accepted : (L : ℕ) → 1 ≤ L → L ≤ max_levels → Accepted (usual L)
usual_accepted zero a b = absurd (omega arith)
usual_accepted (suc zero) a b = ap (nth 0) verdicts
usual_accepted (suc (suc zero)) a b = ap (nth 1) verdicts
usual_accepted (suc (suc (suc zero))) a b = ap (nth 2) verdicts
usual_accepted (suc (suc (suc (suc zero)))) a b = ap (nth 3) verdicts
usual_accepted (suc (suc (suc (suc (suc zero))))) a b = ap (nth 4) verdicts
usual_accepted (suc (suc (suc (suc (suc (suc L)))))) a b = absurd (omega arith)

-- Refused 6 at level 1, pass 1, node 1.
pub narrow_refused : verdict narrow ≡ refused (6, 1 ∷ 1 ∷ 1 ∷ [])
narrow_refused = ap (nth 5) verdicts

-- Refused 7 at the LL node: level 1, pass 2, node 5.
pub rough_refused : verdict rough ≡ refused (7, 1 ∷ 2 ∷ 5 ∷ [])
rough_refused = ap (nth 6) verdicts

-- Refused 4.
pub wide_refused : verdict wide ≡ refused (4, [])
wide_refused = ap (nth 7) verdicts

-- answer, range and error of a node of `narrow`
abbrev told : ℕ → ℕ → ℕ → Answer Unit × ℕ × ℕ
told level pass node = (bound_answer narrow level pass node, range_told narrow level pass node, error_told narrow level pass node)

-- The first refused node has its bound told, no node after it; a table of one level lacks level 2.
bounds_told :
    told 1 1 1 ∷ told 1 1 2 ∷ told 2 1 1 ∷ []
    ≡ (passed, 8959885312, 4224) ∷ (refused (6, 1 ∷ 1 ∷ 1 ∷ []), 0, 0) ∷ (refused (4, []), 0, 0) ∷ []
unfolding bound_answer form_right every first_refusal judged Bounds.bound_of Bounds.entering Bounds.pass_bound Bounds.row_bound Bounds.node_bound product_of Rule.side_bound Rule.range_at Rule.error_at Rule.owns Rule.stages_part Rule.own_error_of Rule.input_part Rule.own_lift Rule.product_loss Rule.own_scale Rule.loss Rule.times_gain bits up_div gain exact_gain sum_from sum_to input_answer node_answer values_after made rounded_up lift ◌⊕◌ ◌⊗◌ whole magnitude
bounds_told = refl

-- ---- widths of products (document 02, job 7)

-- With one level widths of 7 bits are enough and 6 are not, with five levels 15 and 14; of two levels with 0 the first kept node is refused.
-- 44 cut nothing. Refused 4: 45; a width at an unused level; a width without tag 5.
cut_verdicts :
    verdict (cut 1 (four 7)) ∷ verdict (cut 1 (four 6)) ∷ verdict (cut 5 (four 15)) ∷ verdict (cut 5 (four 14)) ∷ verdict (cut 2 (four 0)) ∷ verdict (cut 1 (four 44)) ∷ verdict (cut 1 (four 45))
    ∷ verdict (holding (usual 1) (repeat 4 (four 44) ++ no_products 3 ++ repeat 2 (four 0))) ∷ verdict stray ∷ []
    ≡ passed ∷ refused (7, 1 ∷ 2 ∷ 5 ∷ []) ∷ passed ∷ refused (7, 5 ∷ 2 ∷ 5 ∷ []) ∷ refused (7, 1 ∷ 2 ∷ 6 ∷ []) ∷ passed ∷ refused (4, [])
    ∷ refused (4, []) ∷ refused (4, []) ∷ []
unfolding verdict form_right every first_refusal judged Bounds.bound_of Bounds.entering Bounds.pass_bound Bounds.row_bound Bounds.node_bound product_of Rule.side_bound Rule.range_at Rule.error_at Rule.owns Rule.stages_part Rule.own_error_of Rule.input_part Rule.own_lift Rule.product_loss Rule.own_scale Rule.loss Rule.times_gain bits up_div gain exact_gain sum_from sum_to input_answer node_answer values_after made rounded_up lift ◌⊕◌ ◌⊗◌ whole magnitude
cut_verdicts = refl

-- So tables with tag 5 are accepted, and refused.
pub cut_accepted : Accepted (cut 1 (four 7)) × Accepted (cut 5 (four 15))
cut_accepted = (ap (nth 0) cut_verdicts, ap (nth 2) cut_verdicts)

pub cut_refused : verdict (cut 1 (four 6)) ≡ refused (7, 1 ∷ 2 ∷ 5 ∷ [])
cut_refused = ap (nth 1) cut_verdicts

-- The errors of all nodes of one level, in book order: without tag 5; with 44 bits, the same; with 40 to 43, where each product that is cut
-- loses one unit of 2^-32; with 5 to 8.
abbrev errors : WidthTable → List ℕ
errors t = map (λ p. (Bounds.bound_of t p).error) (table_order t.levels)

pub cut_errors :
    errors (usual 1) ∷ errors (cut 1 (four 44)) ∷ errors (cut 1 (40 ∷ 41 ∷ 42 ∷ 43 ∷ [])) ∷ errors (cut 1 (5 ∷ 6 ∷ 7 ∷ 8 ∷ [])) ∷ []
    ≡ (4224 ∷ 5079 ∷ 16683 ∷ 22999 ∷ 30645 ∷ 18745 ∷ 132206 ∷ 49794 ∷ 82530 ∷ 76839 ∷ 1073830371 ∷ 1073813879 ∷ 82541 ∷ 32569 ∷ 57278 ∷ 56411 ∷ 1073806875 ∷ 1073791897 ∷ [])
    ∷ (4224 ∷ 5079 ∷ 16683 ∷ 22999 ∷ 30645 ∷ 18745 ∷ 132206 ∷ 49794 ∷ 82530 ∷ 76839 ∷ 1073830371 ∷ 1073813879 ∷ 82541 ∷ 32569 ∷ 57278 ∷ 56411 ∷ 1073806875 ∷ 1073791897 ∷ [])
    ∷ (4224 ∷ 5080 ∷ 16686 ∷ 23004 ∷ 30650 ∷ 18747 ∷ 132228 ∷ 49802 ∷ 82544 ∷ 76852 ∷ 1073830387 ∷ 1073813891 ∷ 82550 ∷ 32574 ∷ 57286 ∷ 56419 ∷ 1073806885 ∷ 1073791904 ∷ [])
    ∷ (134217856 ∷ 81332781 ∷ 286275837 ∷ 312459157 ∷ 359207981 ∷ 249026793 ∷ 1632931304 ∷ 599350152 ∷ 1044091200 ∷ 922423131 ∷ 2134164604 ∷ 1981958800 ∷ 1173225427 ∷ 440456870 ∷ 811643919 ∷ 735326962 ∷ 1919077546 ∷ 1779761921 ∷ [])
    ∷ []
unfolding Bounds.bound_of Bounds.entering Bounds.pass_bound Bounds.row_bound Bounds.node_bound product_of Rule.side_bound Rule.range_at Rule.error_at Rule.owns Rule.stages_part Rule.own_error_of Rule.input_part Rule.own_lift Rule.product_loss Rule.own_scale Rule.loss Rule.times_gain bits up_div gain exact_gain sum_from sum_to input_answer node_answer values_after made rounded_up lift ◌⊕◌ ◌⊗◌ whole magnitude
cut_errors = refl

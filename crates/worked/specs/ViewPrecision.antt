-- Tables that are viewable, one of each L, and tables that are refused 13, by computation; their pixel bounds, and their distances
-- from scan to view. So the verdict is not always the same.
use Rattle.std.specs.Prelude.{ℕ, true, false, List, [], ◌∷◌, ◌≡◌, refl, get_or}
use Rattle.std.proofs.Common.{ap}
use Rattle.exact.specs.Fractions.{◌⊕◌, ◌⊗◌, neg, whole, magnitude, rounded_up}
use Rattle.numbers.specs.Ceiling.{up_div}
use Rattle.exact.specs.Exact.{lift}
use Rattle.numbers.specs.Tests.{every}
use Rattle.width_table.specs.Table.{form_right}
use Rattle.refusals.specs.Answers.{passed, refused}
use Rattle.stages.specs.Stages.{made, bits}
use Rattle.stages.specs.Gains.{gain, exact_gain, sum_from, sum_to, input_answer, node_answer, values_after}
use Rattle.stages.specs.Rule as Rule
use Rattle.precision.specs.Bounds as Judge
use Rattle.table_meaning.specs.Products.{product_of}
use Rattle.precision.specs.Verdict.{judged, first_refusal, verdict}
use Rattle.view_precision.specs.Bounds
use Rattle.view_precision.specs.Products.{SeenAlike, same_nodes}
use Rattle.view_precision.specs.Bounds.{pixel_bound, view_distance, nodes_right, viewable, view_verdict}
use Rattle.worked.specs.ViewTables.{with_kept, uniform, with_products, Figures, figures, are}

-- computed once for all
all_figures :
    figures (uniform 8 1 4) ∷ figures (uniform 8 2 5) ∷ figures (uniform 8 3 7) ∷ figures (uniform 5 4 9) ∷ figures (uniform 3 5 11) ∷ figures (uniform 8 1 12) ∷ figures (uniform 1 5 12) ∷ figures (with_kept 14 8 1 4) ∷ figures (with_products 20 (uniform 8 1 4)) ∷ figures (with_products 4 (uniform 8 1 4)) ∷ []
    ≡ are passed true true 291199 9605421042
    ∷ are passed true true 1114755 16554898633
    ∷ are passed true true 6689379 23034874406
    ∷ are passed true true 39139847 29099841435
    ∷ are passed true true 215474719 34896967360
    ∷ are (refused (13, [])) true false 46147652 9651277484
    ∷ are (refused (13, [])) false true 430463521 35111956164
    ∷ are passed true true 291199 2636210
    ∷ are passed true true 291199 9605421042
    ∷ are (refused (7, 1 ∷ 2 ∷ 5 ∷ [])) true true 291199 9605421042
    ∷ []
unfolding view_verdict viewable pixel_bound view_distance nodes_right Bounds.gives_from Bounds.level_gives Bounds.pass_bound Bounds.from_low Bounds.from_high Bounds.stored Bounds.larger Bounds.even Bounds.odd Bounds.inverse_bound Bounds.pass_gives verdict form_right every first_refusal judged Judge.bound_of Judge.entering Judge.pass_bound Judge.row_bound Judge.node_bound product_of Rule.side_bound Rule.range_at Rule.error_at Rule.owns Rule.stages_part Rule.own_error_of Rule.input_part Rule.own_lift Rule.product_loss Rule.own_scale Rule.loss Rule.times_gain bits up_div gain exact_gain sum_from sum_to input_answer node_answer values_after made rounded_up lift ◌⊕◌ ◌⊗◌ neg whole magnitude
all_figures = refl

abbrev nth : ℕ → List Figures → Figures
nth k l = get_or l k (are passed true true 0 0)

-- one viewable table of each L
pub level_1 : view_verdict (uniform 8 1 4) ≡ passed
level_1 = ap (λ l. (nth 0 l).answer) all_figures

pub level_2 : view_verdict (uniform 8 2 5) ≡ passed
level_2 = ap (λ l. (nth 1 l).answer) all_figures

pub level_3 : view_verdict (uniform 8 3 7) ≡ passed
level_3 = ap (λ l. (nth 2 l).answer) all_figures

pub level_4 : view_verdict (uniform 5 4 9) ≡ passed
level_4 = ap (λ l. (nth 3 l).answer) all_figures

pub level_5 : view_verdict (uniform 3 5 11) ≡ passed
level_5 = ap (λ l. (nth 4 l).answer) all_figures

-- Refused 13 by the pixel bound alone, and by a node above 2^15 alone.
pub pixel_refused : figures (uniform 8 1 12) ≡ are (refused (13, [])) true false 46147652 9651277484
pixel_refused = ap (nth 5) all_figures

pub node_refused : figures (uniform 1 5 12) ≡ are (refused (13, [])) false true 430463521 35111956164
node_refused = ap (nth 6) all_figures

-- One whose distance from scan to view is less than a sixth of a grey, which is 2^24 here.
pub fine : view_verdict (with_kept 14 8 1 4) ≡ passed
fine = ap (λ l. (nth 7 l).answer) all_figures

pub fine_distance : view_distance (with_kept 14 8 1 4) ≡ 2636210
fine_distance = ap (λ l. (nth 7 l).distance) all_figures

-- Two tables with tag 5 (document 02, job 7) that differ from the first in their products alone: one can be viewed, with the same bound and
-- distance; the other is refused 7, though 13 says the same of it.
pub products_alike : (fp : ℕ) → SeenAlike (uniform 8 1 4) (with_products fp (uniform 8 1 4))
products_alike fp = same_nodes (uniform 8 1 4) (with_products fp (uniform 8 1 4)) refl refl refl

pub products_viewed : figures (with_products 20 (uniform 8 1 4)) ≡ are passed true true 291199 9605421042
products_viewed = ap (nth 8) all_figures

pub products_refused : figures (with_products 4 (uniform 8 1 4)) ≡ are (refused (7, 1 ∷ 2 ∷ 5 ∷ [])) true true 291199 9605421042
products_refused = ap (nth 9) all_figures

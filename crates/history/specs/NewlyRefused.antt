-- A table that job 6 of document 02 newly refuses 13, by computation: half a grey is 8388608 here, the pixel bound was below it, and the
-- larger one is not.
use Rattle.std.specs.Prelude.{◌+◌, ◌-◌, ◌^◌, true, false, List, [], ◌∷◌, ◌++◌, ◌≡◌, refl, ltb, get_or}
use Rattle.std.proofs.Common.{ap}
use Rattle.exact.specs.Fractions.{◌⊕◌, ◌⊗◌, neg, whole, magnitude, rounded_up}
use Rattle.numbers.specs.Ceiling.{up_div}
use Rattle.exact.specs.Exact.{lift}
use Rattle.numbers.specs.Tests.{every}
use Rattle.width_table.specs.declared.WidthTable.{WidthTable}
use Rattle.width_table.specs.Table.{max_levels, form_right}
use Rattle.width_table.specs.WorkedTables.{repeat, no_products}
use Rattle.refusals.specs.Answers.{passed, refused}
use Rattle.stages.specs.Stages.{made, bits}
use Rattle.stages.specs.Gains.{gain, exact_gain, sum_from, sum_to, input_answer, node_answer, values_after}
use Rattle.stages.specs.Rule as Rule
use Rattle.precision.specs.Bounds as Judge
use Rattle.table_meaning.specs.Products.{product_of}
use Rattle.precision.specs.Verdict.{judged, first_refusal, verdict}
use Rattle.view_precision.specs.Bounds
use Rattle.view_precision.specs.Bounds.{start_bound, pixel_bound, view_distance, nodes_right, viewable, view_verdict}
use Rattle.view_precision.specs.LongLines.{long_inverse_bound, long_gives}
use Rattle.history.specs.EarlierView
use Rattle.history.specs.EarlierView.{pixel_bound_before, view_distance_before, nodes_right_before, view_verdict_before}
use Rattle.worked.specs.ViewTables.{lifted, nodes_of_pass, Figures, figures, are}

-- One level, depth 8: low-low is (12, 2), the other kept nodes are (6, 2), all others (12, 20).
abbrev pub low_wide : WidthTable
low_wide = record {
  depth = 8;
  levels = 1;
  constants = 24 ∷ 24 ∷ 24 ∷ 24 ∷ 24 ∷ 24 ∷ [];
  nodes = nodes_of_pass 12 20 20 ++ (lifted 12 ++ (12 ∷ 2 ∷ 6 ∷ 2 ∷ [])) ++ (lifted 12 ++ (6 ∷ 2 ∷ 6 ∷ 2 ∷ [])) ++ repeat (max_levels - 1) (repeat 36 (0 ∷ []));
  has_products = false;
  products = no_products max_levels;
}

-- before job 6
abbrev pub figures_before : WidthTable → Figures
figures_before t = record {
  answer = view_verdict_before t;
  nodes = nodes_right_before t t.levels (start_bound t 0);
  pixel = ltb (pixel_bound_before t) (2 ^ (32 - (t.depth + 1)));
  bound = pixel_bound_before t;
  distance = view_distance_before t;
}

-- now and before, computed once for both
both_figures : figures low_wide ∷ figures_before low_wide ∷ [] ≡ are (refused (13, [])) true false 8442504 9613572342 ∷ are passed true true 8263100 9613392938 ∷ []
unfolding view_verdict viewable pixel_bound view_distance nodes_right Bounds.gives_from Bounds.level_gives Bounds.pass_bound Bounds.from_low Bounds.from_high Bounds.stored Bounds.larger Bounds.even Bounds.odd Bounds.inverse_bound Bounds.pass_gives view_verdict_before EarlierView.viewable_before pixel_bound_before view_distance_before nodes_right_before EarlierView.gives_from_before EarlierView.level_gives_before EarlierView.pass_bound_before EarlierView.from_low_before EarlierView.from_high_before long_inverse_bound long_gives verdict form_right every first_refusal judged Judge.bound_of Judge.entering Judge.pass_bound Judge.row_bound Judge.node_bound product_of Rule.side_bound Rule.range_at Rule.error_at Rule.owns Rule.stages_part Rule.own_error_of Rule.input_part Rule.own_lift Rule.product_loss Rule.own_scale Rule.loss Rule.times_gain bits up_div gain exact_gain sum_from sum_to input_answer node_answer values_after made rounded_up lift ◌⊕◌ ◌⊗◌ neg whole magnitude
both_figures = refl

pub newly_refused : figures low_wide ≡ are (refused (13, [])) true false 8442504 9613572342
newly_refused = ap (λ (l : List Figures). get_or l 0 (are passed true true 0 0)) both_figures

pub viewable_before_lem : figures_before low_wide ≡ are passed true true 8263100 9613392938
viewable_before_lem = ap (λ (l : List Figures). get_or l 1 (are passed true true 0 0)) both_figures

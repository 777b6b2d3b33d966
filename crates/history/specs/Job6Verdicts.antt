-- No verdict of the precision analysis changes by document 02, job 6 (`same_verdict`), with widths of products (job 7) or without them.
use Rattle.std.specs.Prelude.{◌≡◌}
use Rattle.std.proofs.Common.{ap}
use Rattle.std.proofs.Math.Path.{fun_ext}
use Rattle.stages.specs.Rule as Rule
use Rattle.width_table.specs.Nodes.{TableNode}
use Rattle.width_table.specs.declared.WidthTable.{WidthTable}
use Rattle.precision.specs.Bounds.{node_bound, PassRule, by_rule, bound_of_by, bound_of}
use Rattle.precision.specs.Verdict.{verdict_with, verdict}
use Rattle.precision.specs.LongLines.{long_bound}
use Rattle.precision.specs.LongLaws.{same_bound}
use Rattle.history.specs.EarlierAnalysis.{bound_before, verdict_before, SameVerdict}

same_rule : node_bound ≡ long_bound
same_rule = λ u F fp fi b f n. same_bound F fp fi b f n u

-- the numbers are the same too
pub same_number : (t : WidthTable) (p : TableNode) → bound_of t p ≡ bound_before t p
unfolding bound_of bound_before
same_number t p = ap (λ (rule : PassRule). bound_of_by (by_rule rule t) p) same_rule

pub same_verdict : SameVerdict
unfolding verdict verdict_before
same_verdict t = ap (verdict_with t) (fun_ext (same_number t))

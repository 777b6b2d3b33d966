-- Range and error of a node, told to a caller (document 01: the judge). Nodes are judged in book order; past a refused node bounds may
-- leave 64 bits, so that the first refused node is the last whose bound is told.
use Rattle.std.specs.Prelude.{ℕ, ◌+◌, ◌*◌, ◌-◌, List, take}
use Rattle.refusals.specs.Answers.{Answer, asks, answered}
use Rattle.width_table.specs.declared.WidthTable.{WidthTable}
use Rattle.width_table.specs.Nodes.{nodes_per_pass, nodes_per_level, TableNode, node_at, table_order}
use Rattle.width_table.specs.Numbered.{node_of, pass_of}
use Rattle.width_table.specs.Table.{form_right}
use Rattle.width_table.specs.Changes.{has_node}
use Rattle.stages.specs.Rule.{Bound}
use Rattle.precision.specs.Bounds.{bound_of}
use Rattle.precision.specs.Verdict.{first_refusal_with, first_refusal}

-- The nodes of a table of L levels that come before a node in book order. Level, pass and node count from 1.
abbrev pub nodes_before : ℕ → ℕ → ℕ → ℕ → List TableNode
nodes_before L level pass node = take ((level - 1) * nodes_per_level + ((pass - 1) * nodes_per_pass + (node - 1))) (table_order L)

-- 4 for the form and for a node that the table lacks, then 6 or 7 of the nodes before it, where the nodes have the bounds `bound`
abbrev pub bound_answer_with : WidthTable → (TableNode → Bound) → ℕ → ℕ → ℕ → Answer Unit
bound_answer_with t bound level pass node =
    asks (form_right t) 4
    (asks (has_node t.levels level pass node) 4
    (first_refusal_with t bound (nodes_before t.levels level pass node)))

unfoldable pub bound_answer : WidthTable → ℕ → ℕ → ℕ → Answer Unit
unfolding first_refusal
bound_answer t = bound_answer_with t (bound_of t)

-- the bound of a node by its numbers
abbrev pub bound_numbered : WidthTable → ℕ → ℕ → ℕ → Bound
bound_numbered t level pass node = bound_of t (node_at level (pass_of pass) (node_of node))

-- range and error of the node where the call is done, else zeros
abbrev pub range_told : WidthTable → ℕ → ℕ → ℕ → ℕ
range_told t level pass node = answered (bound_answer t level pass node) (bound_numbered t level pass node).range 0

abbrev pub error_told : WidthTable → ℕ → ℕ → ℕ → ℕ
error_told t level pass node = answered (bound_answer t level pass node) (bound_numbered t level pass node).error 0

-- Range and error bounds of the nodes of a table (document 01: the judge; document 02, jobs 6 and 7), by the rule for any pass (Rule of the
-- crate stages).
use Rattle.std.specs.Prelude.{ℕ, zero, suc, ◌^◌, max}
use Rattle.stages.specs.Stages.{Side, low, high, forward, Product}
use Rattle.stages.specs.Rule as Rule
use Rattle.stages.specs.Rule.{Bound, together, single_error}
use Rattle.width_table.specs.Nodes.{Node, P1, U1, P2, U2, G1, G2, Pass, Rows, LowColumns, HighColumns, TableNode}
use Rattle.width_table.specs.Numbered.{node_of}
use Rattle.width_table.specs.declared.WidthTable.{WidthTable}
use Rattle.width_table.specs.Table.{constant_bits, fraction_bits, input_bits}
use Rattle.table_meaning.specs.Products.{product_of}

-- One pass: F the bits of the constants, fp the widths of the products, fi the input's bits, b the input's bound, f the nodes' bits.
module _ (F : Node → ℕ) (fp : Node → Product) (fi : ℕ) (b : Bound) (f : Node → ℕ) where
  -- of a side after m stages; stage i leaves node i + 1
  abbrev pub bound_after : Side → ℕ → Bound
  bound_after = Rule.side_bound forward (together b) (λ i. F (node_of (suc i))) (λ i. fp (node_of (suc i))) (λ s. fi) (λ i. f (node_of (suc i)))

  -- of each node. On a line of one sample (document 02, job 6) G1 has the input's error plus 2^-f where f is below the input's bits; its error
  -- is the larger one.
  unfoldable pub node_bound : Node → Bound
  node_bound P1 = bound_after high 1
  node_bound U1 = bound_after low 2
  node_bound P2 = bound_after high 3
  node_bound U2 = bound_after low 4
  node_bound G1 = record { range = (bound_after low 5).range; error = max (bound_after low 5).error (single_error fi b (f G1)) }
  node_bound G2 = bound_after high 6

-- ---- a table, by node_bound and by the rules before jobs 6 and 7 (Before, Uncut)

-- a rule of a pass, as above
abbrev pub PassRule : Type 0
PassRule = (F : Node → ℕ) (fp : Node → Product) (fi : ℕ) (b : Bound) (f : Node → ℕ) → Node → Bound

-- pass p of level l of a table by such a rule, where b bounds what enters the pass
abbrev pub by_rule : PassRule → WidthTable → ℕ → Pass → Bound → Node → Bound
by_rule rule t l p b = rule (constant_bits t) (product_of t l p) (input_bits t l p) b (fraction_bits t l p)

-- From the passes to all nodes: pass l p b has the bounds of the nodes of a pass where b bounds what enters it.
module _ (pass : ℕ → Pass → Bound → Node → Bound) where
  -- The nodes of each pass of level l, where b bounds what enters the level. Columns take range and error of the G node that feeds them.
  abbrev pub pass_bound_by : ℕ → Bound → Pass → Node → Bound
  pass_bound_by l b Rows = pass l Rows b
  pass_bound_by l b LowColumns = pass l LowColumns (pass l Rows b G1)
  pass_bound_by l b HighColumns = pass l HighColumns (pass l Rows b G2)

  -- What enters a level: level 1 starts with range 1/2 and error 0, later levels take the low-low of the level before. (Level 0 is none.)
  abbrev pub entering_by : ℕ → Bound
  entering_by zero = record { range = 0; error = 0 }
  entering_by (suc zero) = record { range = 2 ^ 31; error = 0 }
  entering_by (suc (suc l)) = pass_bound_by (suc l) (entering_by (suc l)) LowColumns G1

  -- the bound of a node of the table
  abbrev pub bound_of_by : TableNode → Bound
  bound_of_by p = pass_bound_by p.level (entering_by p.level) p.pass p.node

-- The judge's bounds: these by node_bound. To unfold one is to unfold those above it.
unfoldable pub row_bound : WidthTable → ℕ → Bound → Node → Bound
row_bound t l b = by_rule node_bound t l Rows b

unfoldable pub pass_bound : WidthTable → ℕ → Bound → Pass → Node → Bound
unfolding row_bound
pass_bound t = pass_bound_by (by_rule node_bound t)

unfoldable pub entering : WidthTable → ℕ → Bound
unfolding pass_bound
entering t = entering_by (by_rule node_bound t)

unfoldable pub bound_of : WidthTable → TableNode → Bound
unfolding entering
bound_of t = bound_of_by (by_rule node_bound t)

use Prim.Native.Nat.{ℕ, ◌+◌}
use mathlib.Core.Path.{◌≡◌, ◌∙◌, ap}
use native.Mathlib.Omega.{arith}
use lib.ListN.{get_or}
use Rattle.width_table.specs.Table.{max_levels, node_place}
use Rattle.width_table.specs.Changes.{has_node}
use Rattle.width_table.specs.Readers.{or_zero, integer_bits_at}
use Rattle.width_table.proofs.WidthTable.integer_bits.Goals as goal

pub returns : goal.returns
unfolding integer_bits_at
returns c =
    let a = c.args in
    c.node_number.ensures ∙ ap (λ (k : ℕ). or_zero (has_node max_levels a.level a.pass a.node) (get_or a.self.nodes k 0)) (none (node_place a.level a.pass a.node))
  where
    none : (n : ℕ) → n + 0 ≡ n
    none n = omega arith

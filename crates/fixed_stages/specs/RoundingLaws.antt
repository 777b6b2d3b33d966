-- The constants at more bits than a table can ask for, rounded once more to 1 to 24, are the nearest (`rounded_is`).
use Rattle.std.specs.Prelude.{ℕ, ◌+◌, ◌*◌, ◌-◌, ◌/◌, ◌%◌, ◌^◌, ◌<◌, ◌≤◌, List, ◌≡◌, refl, get_or, ℤ, pos, nat_abs}
use Rattle.std.proofs.Common.{sym, ◌∙◌, ap, ap₂, arith, lit≤}
use Rattle.lines.specs.Planes.{tabulate}
use Rattle.lines.specs.RowLaws.{tabulate_at}
use Rattle.stages.specs.Fixed.{nearest}
use Rattle.fixed_stages.specs.Constants.{constant_of, ConstantBits, fine_bits, fine_at, fine_table, rounded}
use Rattle.width_table.specs.Nodes.{Node, P1, U1, P2, U2, G1, G2, nodes_per_pass}
use Rattle.width_table.specs.Numbered.{node_of, IsNode}
use Rattle.width_table.specs.Table.{max_constant_bits}

-- the table read
pub fine_read : (node : ℕ) → IsNode node → get_or fine_table (node - 1) (pos 0) ≡ fine_at node
unfolding fine_table
fine_read node i = tabulate_at nodes_per_pass _ (pos 0) (node - 1) (omega arith) ∙ ap fine_at {x = node - 1 + 1} {y = node} (omega arith)

-- its numbers are small
pub fine_small : (n : Node) → nat_abs (nearest (constant_of n) fine_bits) ≤ 2 ^ 33
unfolding nearest
fine_small P1 = lit≤ tt
fine_small U1 = lit≤ tt
fine_small P2 = lit≤ tt
fine_small U2 = lit≤ tt
fine_small G1 = lit≤ tt
fine_small G2 = lit≤ tt

-- of every node at 1 to max_constant_bits bits
abbrev each : (ℕ → ℕ → ℤ) → List ℤ
each f = tabulate (nodes_per_pass * max_constant_bits) (λ k. f (k / max_constant_bits + 1) (k % max_constant_bits + 1))

-- one computed test of all
tested : each rounded ≡ each (λ node F. nearest (constant_of (node_of node)) F)
unfolding tabulate nearest
tested = refl

pub rounded_is : (node F : ℕ) → IsNode node → ConstantBits F → rounded node F ≡ nearest (constant_of (node_of node)) F
rounded_is node F i ok = sym (found rounded) ∙ ap (λ (l : List ℤ). get_or l place (pos 0)) tested ∙ found (λ node F. nearest (constant_of (node_of node)) F)
  where
    place : ℕ
    place = (node - 1) * max_constant_bits + (F - 1)

    stage : (a b : ℕ) → 1 ≤ a → b < max_constant_bits → ((a - 1) * max_constant_bits + b) / max_constant_bits + 1 ≡ a
    stage a b h k = omega arith

    bits : (a F : ℕ) → 1 ≤ F → F ≤ max_constant_bits → (a * max_constant_bits + (F - 1)) % max_constant_bits + 1 ≡ F
    bits a F h k = omega arith

    found : (f : ℕ → ℕ → ℤ) → get_or (each f) place (pos 0) ≡ f node F
    found f = tabulate_at (nodes_per_pass * max_constant_bits) _ (pos 0) place (omega arith) ∙ ap₂ f (stage node (F - 1) i.0 (omega arith)) (bits (node - 1) F ok.0 ok.1)

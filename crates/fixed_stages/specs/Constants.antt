-- The constants of the stages, and their bits (document 01: the lifting).
use Rattle.std.specs.Prelude.{ℕ, ◌+◌, ◌-◌, ◌^◌, ◌≤◌, List, ℤ, pos, ◌+ℤ◌}
use Rattle.numbers.specs.Floor.{floor_div}
use Rattle.exact.specs.Fractions.{Frac, ◌⊖◌}
use Rattle.exact.specs.Exact.{alpha, beta, gamma, delta, zeta, zeta_inverse}
use Rattle.lines.specs.Planes.{tabulate}
use Rattle.width_table.specs.Nodes.{Node, P1, U1, P2, U2, G1, G2, nodes_per_pass}
use Rattle.width_table.specs.Numbered.{node_of}
use Rattle.width_table.specs.Table.{max_constant_bits}
use Rattle.stages.specs.Fixed.{fixed_value, nearest}

-- the constant of each stage
abbrev pub constant_of : Node → Frac
constant_of P1 = alpha
constant_of U1 = beta
constant_of P2 = gamma
constant_of U2 = delta
constant_of G1 = zeta
constant_of G2 = zeta_inverse

-- z / 2^F less the constant
abbrev pub away_from : Frac → ℕ → ℤ → Frac
away_from c F z = fixed_value z F ⊖ c

-- the limits of a constant's bits
abbrev pub ConstantBits : ℕ → Type 0
ConstantBits F = (1 ≤ F) × (F ≤ max_constant_bits)

-- more bits than a table can ask for: the code has the constants at these
abbrev pub fine_bits : ℕ
fine_bits = 32

-- the constant of a node, by its number
abbrev pub fine_at : ℕ → ℤ
fine_at node = nearest (constant_of (node_of node)) fine_bits

-- all six in order
unfoldable pub fine_table : List ℤ
fine_table = tabulate nodes_per_pass (λ k. fine_at (k + 1))

-- it at F bits, rounded from fine_bits
abbrev pub rounded : ℕ → ℕ → ℤ
rounded node F = floor_div (fine_at node +ℤ pos (2 ^ (fine_bits - F - 1))) (2 ^ (fine_bits - F))

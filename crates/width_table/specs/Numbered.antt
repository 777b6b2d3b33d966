-- Nodes and passes by their numbers.
use Rattle.std.specs.Prelude.{ℕ, zero, suc, ◌≤◌, ◌≡◌, refl}
use Rattle.std.proofs.Common.{arith}
use Rattle.width_table.specs.Nodes.{nodes_per_pass, passes_per_level, products_per_pass, Node, P1, U1, P2, U2, G1, G2, node_number, Pass, Rows, LowColumns, HighColumns, pass_number}

-- nodes and passes count from 1
abbrev pub node_of : ℕ → Node
node_of zero = P1
node_of (suc zero) = P1
node_of (suc (suc zero)) = U1
node_of (suc (suc (suc zero))) = P2
node_of (suc (suc (suc (suc zero)))) = U2
node_of (suc (suc (suc (suc (suc zero))))) = G1
node_of (suc (suc (suc (suc (suc (suc k)))))) = G2

abbrev pub pass_of : ℕ → Pass
pass_of zero = Rows
pass_of (suc zero) = Rows
pass_of (suc (suc zero)) = LowColumns
pass_of (suc (suc (suc k))) = HighColumns

-- a number of a node, of a pass, and of a product: those of P1, U1, P2 and U2 (document 02, job 7)
abbrev pub IsNode : ℕ → Type 0
IsNode k = (1 ≤ k) × (k ≤ nodes_per_pass)

abbrev pub IsPass : ℕ → Type 0
IsPass k = (1 ≤ k) × (k ≤ passes_per_level)

abbrev pub IsProduct : ℕ → Type 0
IsProduct k = (1 ≤ k) × (k ≤ products_per_pass)

-- they are numbered so
pub node_number_lem : (k : ℕ) → IsNode k → node_number (node_of k) ≡ k
node_number_lem zero h = absurd (omega arith)
node_number_lem (suc zero) h = refl
node_number_lem (suc (suc zero)) h = refl
node_number_lem (suc (suc (suc zero))) h = refl
node_number_lem (suc (suc (suc (suc zero)))) h = refl
node_number_lem (suc (suc (suc (suc (suc zero))))) h = refl
node_number_lem (suc (suc (suc (suc (suc (suc k)))))) h = omega arith

pub pass_number_lem : (k : ℕ) → IsPass k → pass_number (pass_of k) ≡ k
pass_number_lem zero h = absurd (omega arith)
pass_number_lem (suc zero) h = refl
pass_number_lem (suc (suc zero)) h = refl
pass_number_lem (suc (suc (suc k))) h = omega arith

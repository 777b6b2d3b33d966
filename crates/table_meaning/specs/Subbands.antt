-- The subbands of a plane (document 01: pictures and planes; the exact transform): the part that so many levels leave as low-low, the kept nodes,
-- and which of them gave each place.
use Rattle.std.specs.Prelude.{ℕ, zero, suc, ◌<◌, ◌≤◌, Bool, true, false, ◌&&◌, T, ltb, eqb}
use Rattle.lines.specs.Planes.{Plane, side}
use Rattle.width_table.specs.Nodes.{Node, P1, U1, P2, U2, G1, G2, Pass, Rows, LowColumns, HighColumns, TableNode, node_at, column_pass, last_node}
use Rattle.width_table.specs.declared.WidthTable.{WidthTable}
use Rattle.width_table.specs.Table.{fraction_bits}

-- Kept nodes are G1 and G2 of the columns, but G1 of the columns of row-low at level L only.
abbrev pub kept_column : Bool → Node → Bool
kept_column lowLow P1 = false
kept_column lowLow U1 = false
kept_column lowLow P2 = false
kept_column lowLow U2 = false
kept_column lowLow G1 = lowLow
kept_column lowLow G2 = true

-- whether a node of level l is kept in a plane of L levels
abbrev pub kept_at : ℕ → ℕ → Pass → Node → Bool
kept_at L l Rows n = false
kept_at L l LowColumns n = kept_column (eqb l L) n
kept_at L l HighColumns n = kept_column true n

-- The kept node that gave the coefficient at row r, column c of a plane of L levels: at the last level whose part holds the
-- place, the columns of row-low give LL above LH and the columns of row-high HL above HH. (With no level there is none.)
unfoldable pub kept_node : ℕ → ℕ → ℕ → ℕ → ℕ → TableNode
kept_node zero w h r c = node_at 0 LowColumns G1
kept_node (suc k) w h r c =
    elim (ltb r (side k h) && ltb c (side k w)) [
      | true ↦ node_at (suc k) (column_pass (ltb c (side (suc k) w))) (last_node (ltb r (side (suc k) h)))
      | false ↦ kept_node k w h r c
    ]

-- the f of a coefficient: its own step is 2^-f
unfoldable pub bits_plane : WidthTable → ℕ → ℕ → Plane ℕ
bits_plane t w h r c =
    let p = kept_node t.levels w h r c in
    fraction_bits t p.level p.pass p.node

-- row r and column c lie in the part that k levels leave as low-low
abbrev pub InPart : ℕ → ℕ → ℕ → ℕ → ℕ → Type 0
InPart k w h r c = (r < side k h) × (c < side k w)

-- a kept node of levels 1 to L
pub record Kept (L : ℕ) (p : TableNode) : Type 0 where
  pub least : 1 ≤ p.level
  pub most : p.level ≤ L
  pub kept : T (kept_at L p.level p.pass p.node)

-- The tables that document 01 names (numbers to hold it against), and some with widths of products (document 02, job 7), as data. What is proved
-- of them by computation stands in the crates above.
use Rattle.std.specs.Prelude.{ℕ, zero, suc, ◌*◌, ◌-◌, true, false, List, [], ◌∷◌, ◌++◌}
use Rattle.width_table.specs.declared.WidthTable.{WidthTable}
use Rattle.width_table.specs.Nodes.{passes_per_level}
use Rattle.width_table.specs.Table.{max_levels}

-- The nodes of a pass, IB then f: IB of P1, IB of the others, f of P1 to U2, of G1, of G2.
abbrev pass : ℕ → ℕ → ℕ → ℕ → ℕ → List ℕ
pass first IB f g1 g2 = first ∷ f ∷ IB ∷ f ∷ IB ∷ f ∷ IB ∷ f ∷ IB ∷ g1 ∷ IB ∷ g2 ∷ []

-- The three passes of a level: IB of row P1, IB of the others, f of the kept nodes, of low-low, of all others.
abbrev level : ℕ → ℕ → ℕ → ℕ → ℕ → List ℕ
level first IB kept lowLow other = pass first IB other other other ++ pass IB IB other lowLow kept ++ pass IB IB other kept kept

abbrev pub repeat : ℕ → List ℕ → List ℕ
repeat zero l = []
repeat (suc k) l = l ++ repeat k l

-- the widths of the products of a pass, of P1 to U2
abbrev pub four : ℕ → List ℕ
four fp = fp ∷ fp ∷ fp ∷ fp ∷ []

-- zeros for the products of so many levels
abbrev pub no_products : ℕ → List ℕ
no_products levels = repeat (passes_per_level * levels) (four 0)

-- a table of depth B and L levels, all F 24, without tag 5; inner levels, then the last one, then zeros
abbrev table : ℕ → ℕ → List ℕ → List ℕ → WidthTable
table B L inner last = record {
  depth = B;
  levels = L;
  constants = 24 ∷ 24 ∷ 24 ∷ 24 ∷ 24 ∷ 24 ∷ [];
  nodes = repeat (L - 1) inner ++ last ++ repeat (max_levels - L) (level 0 0 0 0 0);
  has_products = false;
  products = no_products max_levels;
}

-- all nodes (12, 20), kept ones (12, 2)
abbrev pub usual_of : ℕ → ℕ → WidthTable
usual_of B L = table B L (level 12 12 2 20 20) (level 12 12 2 2 20)

-- one level, kept nodes (12, 20), others (12, 0)
abbrev pub rough_of : ℕ → WidthTable
rough_of B = table B 1 [] (level 12 12 20 20 0)

-- ---- of depth 8

abbrev pub usual : ℕ → WidthTable
usual = usual_of 8

-- the usual table of one level, with IB 2 at row P1
abbrev pub narrow : WidthTable
narrow = table 8 1 [] (level 2 12 2 2 20)

abbrev pub rough : WidthTable
rough = rough_of 8

-- an IB outside its limits
abbrev pub wide : WidthTable
wide = table 8 1 [] (level 12 13 2 2 20)

-- ---- widths of products

-- a table with tag 5 and these widths of products
abbrev pub holding : WidthTable → List ℕ → WidthTable
holding t widths = record { depth = t.depth; levels = t.levels; constants = t.constants; nodes = t.nodes; has_products = true; products = widths }

-- the usual table of L levels with tag 5: in each pass these four widths
abbrev pub cut : ℕ → List ℕ → WidthTable
cut L widths = holding (usual L) (repeat (passes_per_level * L) widths ++ no_products (max_levels - L))

-- without tag 5 a width is held nevertheless
abbrev pub stray : WidthTable
stray = record { depth = 8; levels = 1; constants = (usual 1).constants; nodes = (usual 1).nodes; has_products = false; products = 1 ∷ 0 ∷ 0 ∷ 0 ∷ repeat 14 (four 0) }

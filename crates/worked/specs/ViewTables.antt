-- Tables for viewing, as data, and what is told of one. What is proved of them by computation stands in ViewPrecision, Deepest and Viewing.
use Rattle.std.specs.Prelude.{ℕ, zero, suc, ◌+◌, ◌*◌, ◌-◌, ◌^◌, Bool, false, List, [], ◌∷◌, ◌++◌, ltb}
use Rattle.refusals.specs.Answers.{Answer}
use Rattle.width_table.specs.declared.WidthTable.{WidthTable}
use Rattle.width_table.specs.Table.{max_levels, max_constant_bits, max_integer_bits, max_fraction_bits, level_bytes}
use Rattle.width_table.specs.WorkedTables.{repeat, no_products, holding}
use Rattle.view_precision.specs.Bounds.{start_bound, pixel_bound, view_distance, nodes_right, view_verdict}

-- ---- tables: depth B, L levels, all F 24, all nodes (IB, 20), kept ones (IB, f)

-- P1, U1, P2, U2 of a pass
abbrev pub lifted : ℕ → List ℕ
lifted IB = IB ∷ 20 ∷ IB ∷ 20 ∷ IB ∷ 20 ∷ IB ∷ 20 ∷ []

-- the nodes of a pass: f of G1, of G2
abbrev pub nodes_of_pass : ℕ → ℕ → ℕ → List ℕ
nodes_of_pass IB g1 g2 = lifted IB ++ (IB ∷ g1 ∷ IB ∷ g2 ∷ [])

-- a level: f of its kept nodes, of its low-low
abbrev level : ℕ → ℕ → ℕ → List ℕ
level IB f lowLow = nodes_of_pass IB 20 20 ++ nodes_of_pass IB lowLow f ++ nodes_of_pass IB f f

-- f of the kept nodes, B, L, IB
abbrev pub with_kept : ℕ → ℕ → ℕ → ℕ → WidthTable
with_kept f B L IB = record {
  depth = B;
  levels = L;
  constants = 24 ∷ 24 ∷ 24 ∷ 24 ∷ 24 ∷ 24 ∷ [];
  nodes = repeat (L - 1) (level IB f 20) ++ level IB f f ++ repeat (max_levels - L) (repeat 36 (0 ∷ []));
  has_products = false;
  products = no_products max_levels;
}

-- The same with tag 5 (document 02, job 7): every product is cut to fp bits.
abbrev pub with_products : ℕ → WidthTable → WidthTable
with_products fp t = holding t (repeat t.levels (repeat 12 (fp ∷ [])) ++ no_products (max_levels - t.levels))

-- kept nodes at 2 bits
abbrev pub uniform : ℕ → ℕ → ℕ → WidthTable
uniform = with_kept 2

-- ---- tables whose kept nodes have the least integer bits

-- the widest node
abbrev wide : List ℕ
wide = max_integer_bits ∷ max_fraction_bits ∷ []

-- of a kept node of level l: the least integer bits
abbrev kept : ℕ → List ℕ
kept l = 2 * l ∷ 6 ∷ []

-- a pass: widths of G1, of G2
abbrev least_pass : List ℕ → List ℕ → List ℕ
least_pass g1 g2 = repeat 4 wide ++ g1 ++ g2

-- level l: width of its low-low
abbrev least_level : ℕ → List ℕ → List ℕ
least_level l lowLow = least_pass wide wide ++ least_pass lowLow (kept l) ++ least_pass (kept l) (kept l)

-- levels 1 to k, before the last
abbrev inner : ℕ → List ℕ
inner zero = []
inner (suc k) = inner k ++ least_level (suc k) wide

-- a table of depth B and L levels whose kept nodes have the least integer bits
abbrev pub least_table : ℕ → ℕ → WidthTable
least_table B L = record {
  depth = B;
  levels = L;
  constants = repeat 6 (max_constant_bits ∷ []);
  nodes = inner (L - 1) ++ least_level L (kept L) ++ repeat ((max_levels - L) * level_bytes) (0 ∷ []);
  has_products = false;
  products = no_products max_levels;
}

-- ---- what is told of a table

-- The answer on a table; whether its nodes and its pixel bound are in order (13); its pixel bound, and its distance from scan to view, in
-- whole numbers of 2^-32.
pub record Figures : Type 0 where
  pub answer : Answer Unit
  pub nodes : Bool
  pub pixel : Bool
  pub bound : ℕ
  pub distance : ℕ

abbrev pub figures : WidthTable → Figures
figures t = record {
  answer = view_verdict t;
  nodes = nodes_right t t.levels (start_bound t 0);
  pixel = ltb (pixel_bound t) (2 ^ (32 - (t.depth + 1)));
  bound = pixel_bound t;
  distance = view_distance t;
}

-- figures, one after the other
abbrev pub are : Answer Unit → Bool → Bool → ℕ → ℕ → Figures
are a n p b d = record { answer = a; nodes = n; pixel = p; bound = b; distance = d }

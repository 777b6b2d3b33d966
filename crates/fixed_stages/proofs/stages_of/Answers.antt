use Prim.Native.Nat.{ℕ, ◌+◌, ◌*◌, ◌-◌, ◌≤◌}
use mathlib.Core.Path.{◌≡◌, ◌∙◌}
use native.Mathlib.Omega.{arith}
use lib.ListN.{get_or}
use Rattle.lifting.specs.Steps.{SameFactor}
use Rattle.slices.specs.Runs.{as_type}
use Rattle.lifting.specs.Kernels.{SamePair}
use Rattle.exact.specs.Fractions.{Frac}
use Rattle.exact.specs.Exact.{alpha, beta, gamma, delta, zeta, zeta_inverse}
use Rattle.stages.specs.Stages.{cut_to}
use Rattle.width_table.specs.declared.WidthTable.{WidthTable}
use Rattle.width_table.specs.Nodes.{products_per_pass, Node, P1, U1, P2, U2, G1, G2, node_number}
use Rattle.width_table.specs.Table.{max_levels, node_place, product_place, width_bytes, max_fraction_bits, constant_bits, fraction_bits, input_bits}
use Rattle.width_table.specs.Limits.{form_levels}
use Rattle.width_table.specs.Numbered.{IsPass, pass_of}
use Rattle.table_meaning.specs.Products.{product_of}
use Rattle.precision.specs.Verdict.{IsLevel}
use Rattle.precision.specs.Promise.{promise}
use Rattle.fixed_stages.specs.Steps.{stage_of, scaling_of, cut_bits}
use Rattle.fixed_stages.specs.Kernels.{first_pair, second_pair, s_g1, s_g2}
use Rattle.fixed_stages.specs.Constants.{ConstantBits}
use Rattle.fixed_stages.specs.LevelBits.{constant_limits, fraction_at, stage_at, input_is}
use Rattle.fixed_stages.proofs.stages_of.Goals as goal

module _ (t : WidthTable) (l p : ℕ) (h : IsLevel t l × IsPass p) where
  -- no more levels than a table may have
  few : l ≤ max_levels
  few = omega (arith, h.0.most, form_levels t (promise t h.0.accepted).form)

  -- the bits of a node's constant
  constant : (n : Node) → ConstantBits (constant_bits t n)
  constant = constant_limits t h.0.accepted

  module _ (at : ℕ) (is : at ≡ node_place l p 1) where
    -- those of a node, counted from where the first one lies
    abbrev read : Node → ℕ
    read n = get_or t.nodes (at + ((node_number n - 1) * width_bytes + 1)) 0

    fraction : (n : Node) → (read n ≡ fraction_bits t l (pass_of p) n) × (read n ≤ max_fraction_bits)
    fraction n = fraction_at t l h.0 p h.1 n _ (omega (arith, is))

  -- a stage by the bits that its product is cut to, whose width is counted from where the first one lies
  lifted : (from : ℕ) → from ≡ product_place l p 1 → (n : Node) → node_number n ≤ products_per_pass → (m : ℕ) → m ≡ from + (node_number n - 1) → (w : ℕ) → w ≡ cut_bits t.has_products (get_or t.products m 0)
      → (c : Frac) (fm fo f : ℕ) → fm ≤ max_fraction_bits → stage_of (cut_to w) c (constant_bits t n) fm fo f ≡ stage_of (product_of t l (pass_of p) n) c (constant_bits t n) fm fo f
  lifted from is n i m e w cuts c fm fo f most = stage_at t l h.0 p h.1 n i m (omega (arith, e, is)) cuts c (constant_bits t n) fm fo f (constant n).1 most

pub node_place-at-requires : goal.node_place-at-requires
node_place-at-requires c = omega (arith, c.requires.0.least, few c.args.table c.args.level c.args.pass c.requires, c.requires.1)

pub stage-requires : goal.stage-requires
stage-requires c =
    let a = c.args in
    let most = (input_is a.table a.level c.requires.0 a.pass c.requires.1 c.input_bits-enters.ensures).1 in
    let f = fraction a.table a.level a.pass c.requires c.node_place-at.result c.node_place-at.ensures.0 in
    ((omega arith, omega arith), constant a.table a.level a.pass c.requires P1, most, most, (f P1).1)

pub stage-requires-2 : goal.stage-requires-2
stage-requires-2 c =
    let a = c.args in
    let most = (input_is a.table a.level c.requires.0 a.pass c.requires.1 c.input_bits-enters.ensures).1 in
    let f = fraction a.table a.level a.pass c.requires c.node_place-at.result c.node_place-at.ensures.0 in
    ((omega arith, omega arith), constant a.table a.level a.pass c.requires U1, (f P1).1, most, (f U1).1)

pub stage-requires-3 : goal.stage-requires-3
stage-requires-3 c =
    let a = c.args in
    let f = fraction a.table a.level a.pass c.requires c.node_place-at.result c.node_place-at.ensures.0 in
    ((omega arith, omega arith), constant a.table a.level a.pass c.requires P2, (f U1).1, (f P1).1, (f P2).1)

pub stage-requires-4 : goal.stage-requires-4
stage-requires-4 c =
    let a = c.args in
    let f = fraction a.table a.level a.pass c.requires c.node_place-at.result c.node_place-at.ensures.0 in
    ((omega arith, omega arith), constant a.table a.level a.pass c.requires U2, (f P2).1, (f U1).1, (f U2).1)

pub scaling-low-requires : goal.scaling-low-requires
scaling-low-requires c =
    let a = c.args in
    let f = fraction a.table a.level a.pass c.requires c.node_place-at.result c.node_place-at.ensures.0 in
    ((omega arith, omega arith), constant a.table a.level a.pass c.requires G1, (f U2).1, (f G1).1)

pub scaling-high-requires : goal.scaling-high-requires
scaling-high-requires c =
    let a = c.args in
    let f = fraction a.table a.level a.pass c.requires c.node_place-at.result c.node_place-at.ensures.0 in
    ((omega arith, omega arith), constant a.table a.level a.pass c.requires G2, (f P2).1, (f G2).1)

pub returns : goal.returns
returns c =
    let a = c.args in
    let F = constant_bits a.table in
    let fp = product_of a.table a.level (pass_of a.pass) in
    let fi = input_bits a.table a.level (pass_of a.pass) in
    let f = fraction_bits a.table a.level (pass_of a.pass) in
    let entered = c.input_bits-enters.result in
    let at = read a.table a.level a.pass c.requires c.node_place-at.result c.node_place-at.ensures.0 in
    let from = c.product_place-from.result in
    let (en, most) = input_is a.table a.level c.requires.0 a.pass c.requires.1 c.input_bits-enters.ensures in
    let is = fraction a.table a.level a.pass c.requires c.node_place-at.result c.node_place-at.ensures.0 in
    let lift = lifted a.table a.level a.pass c.requires from c.product_place-from.ensures.0 in
    let P = c.stage.ensures ∙ lift P1 (omega arith) from (omega arith) _ c.cut_bits-w1.ensures alpha entered entered (at P1) most ∙ (λ u. stage_of (fp P1) alpha (F P1) (en u) (en u) ((is P1).0 u)) in
    let U = c.stage-2.ensures ∙ lift U1 (omega arith) (from + 1) (omega arith) _ c.cut_bits-w2.ensures beta (at P1) entered (at U1) (is P1).1 ∙ (λ u. stage_of (fp U1) beta (F U1) ((is P1).0 u) (en u) ((is U1).0 u)) in
    let P' = c.stage-3.ensures ∙ lift P2 (omega arith) (from + 2) (omega arith) _ c.cut_bits-w3.ensures gamma (at U1) (at P1) (at P2) (is U1).1 ∙ (λ u. stage_of (fp P2) gamma (F P2) ((is U1).0 u) ((is P1).0 u) ((is P2).0 u)) in
    let U' = c.stage-4.ensures ∙ lift U2 (omega arith) (from + 3) (omega arith) _ c.cut_bits-w4.ensures delta (at P2) (at U1) (at U2) (is P2).1 ∙ (λ u. stage_of (fp U2) delta (F U2) ((is P2).0 u) ((is U1).0 u) ((is U2).0 u)) in
    -- the pairs and scalings before their forms are picked
    let first : record { highs = c.stage.result; lows = c.stage-2.result } ≡ first_pair F fp fi f = λ u. record { highs = P u; lows = U u } in
    let second : record { highs = c.stage-3.result; lows = c.stage-4.result } ≡ second_pair F fp fi f = λ u. record { highs = P' u; lows = U' u } in
    let low : c.scaling-low.result ≡ s_g1 F fp fi f = c.scaling-low.ensures ∙ (λ u. scaling_of zeta (F G1) ((is U2).0 u) ((is G1).0 u)) in
    let high : c.scaling-high.result ≡ s_g2 F fp fi f = c.scaling-high.ensures ∙ (λ u. scaling_of zeta_inverse (F G2) ((is P2).0 u) ((is G2).0 u)) in
    record {
      first = as_type (λ u. SamePair (first u) c.fastest_pair.result) c.fastest_pair.ensures;
      second = as_type (λ u. SamePair (second u) c.fastest_pair-2.result) c.fastest_pair-2.ensures;
      low = as_type (λ u. SameFactor (low u) c.fastest_factor.result) c.fastest_factor.ensures;
      high = as_type (λ u. SameFactor (high u) c.fastest_factor-2.result) c.fastest_factor-2.ensures;
    }

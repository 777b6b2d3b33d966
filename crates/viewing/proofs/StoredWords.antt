-- For the code: every stored coefficient of a table that can be viewed is at most 2^15 in magnitude (`stored_bounded`).
use Rattle.std.specs.Prelude.{ℕ, ◌+◌, ◌-◌, ◌^◌, ◌≤◌, ℤ, pos, neg_ℤ, ◌≤ℤ◌, ◌<ℤ◌}
use Rattle.std.proofs.Common.{arith, le_trans}
use Rattle.std.proofs.Math.Nat.{pow-le-pow_right}
use Rattle.std.proofs.Math.IntN.{nat_abs}
use Rattle.numbers.specs.Dif.{by_dif, difs}
use Rattle.lines.specs.Planes.{Plane}
use Rattle.width_table.specs.declared.WidthTable.{WidthTable}
use Rattle.width_table.specs.Table.{max_integer_bits, max_fraction_bits}
use Rattle.width_table.specs.Limits.{form_levels, form_widths}
use Rattle.table_meaning.specs.Subbands.{kept_node}
use Rattle.table_meaning.specs.NodeWidths.{InNodeWidth}
use Rattle.table_meaning.specs.SubbandLaws.{kept_everywhere}
use Rattle.viewing.specs.Claims.{Viewable, Stored}
use Rattle.viewing.proofs.Viewing.{view_promise}
use Rattle.viewing.specs.Words.{Bounded}

-- a stored coefficient
pub stored_size : (IB f : ℕ) (v : ℤ) → IB ≤ max_integer_bits → f ≤ max_fraction_bits → InNodeWidth IB f v → nat_abs v ≤ 2 ^ 31
unfolding InNodeWidth
stored_size IB f v a b h =
    let i : IB + f - 1 ≤ 31 = omega arith in
    le_trans (law (2 ^ (IB + f - 1)) v h.0 h.1) (pow-le-pow_right {n = 2} (omega arith) i)
  where
    law : (H : ℕ) (v : ℤ) → neg_ℤ (pos H) ≤ℤ v → v <ℤ pos H → nat_abs v ≤ H
    law H = by_dif _ λ a a'. simp difs (omega arith)

module _ (t : WidthTable) (w h : ℕ) (p : Plane ℤ) (ok : Viewable t) (s : Stored t w h p) where
  pub stored_bounded : Bounded w h p
  stored_bounded r c i j =
      let form = (view_promise t ok).form in
      let k = kept_node t.levels w h r c in
      let K = kept_everywhere t.levels w h r c (form_levels t form).0 i j in
      let W = form_widths t form k.level K.least K.most k.pass k.node in
      omega (arith, stored_size _ _ (p r c) W.1 W.2 (s.held r c i j))

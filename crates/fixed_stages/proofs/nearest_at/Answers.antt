use Prim.Native.Nat.{ℕ, ◌-◌, ◌^◌, ◌≤◌}
use mathlib.Core.Path.{◌≡◌, sym, ◌∙◌, ap, subst}
use native.Mathlib.Omega.{arith}
use lib.ListN.{get_or}
use lib.IntN.{ℤ, pos, nat_abs, ◌+ℤ◌}
use lib.Pow.{pow_mono}
use mir.Syntax.{w64}
use mir.Val.{SFits}
use Rattle.numbers.specs.Auto.{values, v_arg, auto_fits, auto_exact, rd}
use Rattle.numbers.specs.Floor.{floor_div}
use Rattle.lines.specs.Planes.{tabulate}
use Rattle.stages.specs.Fixed.{nearest}
use Rattle.width_table.specs.Numbered.{node_of, IsNode}
use Rattle.fixed_stages.specs.Constants.{fine_bits, fine_at, fine_table}
use Rattle.fixed_stages.specs.RoundingLaws.{fine_read, fine_small, rounded_is}
use Rattle.fixed_stages.proofs.Read.{got}
use Rattle.fixed_stages.proofs.nearest_at.Goals as goal

-- a constant and half a step
module _ (node : ℕ) (i : IsNode node) (half : ℤ) (h : nat_abs half ≤ 2 ^ 31) where
  small : nat_abs (get_or fine_table (node - 1) (pos 0)) ≤ 2 ^ 33
  small = subst (λ (z : ℤ). nat_abs z ≤ 2 ^ 33) (sym (fine_read node i)) (fine_small (node_of node))

  sum_fits : SFits w64 (rd w64 (get_or fine_table (node - 1) (pos 0)) +ℤ rd w64 half)
  sum_fits = auto_fits (search (values, v_arg (get_or fine_table (node - 1) (pos 0)) 8589934592 small, v_arg half 2147483648 h) depth 40) tt

  sum_is : rd w64 (rd w64 (get_or fine_table (node - 1) (pos 0)) +ℤ rd w64 half) ≡ fine_at node +ℤ half
  sum_is = auto_exact (search (values, v_arg (get_or fine_table (node - 1) (pos 0)) 8589934592 small, v_arg half 2147483648 h) depth 40) tt ∙ ap (λ (z : ℤ). z +ℤ half) (fine_read node i)

-- half a step
half_small : (bits : ℕ) (half : ℤ) → half ≡ pos (2 ^ (fine_bits - bits - 1)) → nat_abs half ≤ 2 ^ 31
half_small bits half e = subst (λ (z : ℤ). nat_abs z ≤ 2 ^ 31) (sym e) (pow_mono {i = fine_bits - bits - 1} {j = 31} (omega arith))

-- the array is the table
pub overflow_add-node : goal.overflow_add-node
unfolding fine_table tabulate nearest
overflow_add-node c = sum_fits c.args.node (omega arith) c.signed_power-half.result (half_small c.args.bits c.signed_power-half.result c.signed_power-half.ensures)

pub returns : goal.returns
unfolding fine_table nearest tabulate
returns c =
    let a = c.args in
    let below : ℤ → ℤ = λ z. floor_div z (2 ^ (fine_bits - a.bits)) in
    got c.floor_shifted.type_inv (c.floor_shifted.ensures ∙ ap below (sum_is a.node (omega arith) c.signed_power-half.result (half_small a.bits c.signed_power-half.result c.signed_power-half.ensures) ∙ ap (λ (z : ℤ). fine_at a.node +ℤ z) c.signed_power-half.ensures) ∙ rounded_is a.node a.bits (omega arith) (omega arith))

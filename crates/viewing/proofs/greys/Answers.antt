-- `viewing::greys` meets its contract: no number on the way reaches 2^37.
use Prim.Native.Nat.{ℕ, ◌-◌, ◌^◌, ◌≤◌}
use mathlib.Core.Path.{◌≡◌, sym, ◌∙◌, ap, subst}
use native.Mathlib.Omega.{arith}
use native.Mathlib.Nat.{div-le_self, le_trans}
use lib.IntN.{ℤ, pos, nat_abs, ◌+ℤ◌}
use lib.Pow.{pow_pos, pow_mono}
use mir.Syntax.{w64}
use Rattle.numbers.specs.Abs.{abs_add}
use Rattle.numbers.specs.Auto.{values, v_arg, auto_exact, rd}
use Rattle.numbers.specs.Floor.{floor_div, floor_abs}
use Rattle.width_table.specs.Table.{max_depth}
use Rattle.inverse_lifting.specs.Fixed.{node_bits, limit}
use Rattle.viewing.specs.PixelSteps.{power_small, grey_cut}
use Rattle.viewing.proofs.greys.Goals as goal

-- half a grey
half-size : (depth : ℕ) {half : ℤ} → half ≡ pos (2 ^ (node_bits - depth - 1)) → nat_abs half ≤ 2 ^ 19
half-size depth e = subst (λ (z : ℤ). nat_abs z ≤ 2 ^ 19) (sym e) (pow_mono {i = node_bits - depth - 1} {j = 19} (omega arith))

sum_is : (depth : ℕ) (v : ℤ) {half : ℤ} → nat_abs v ≤ limit → half ≡ pos (2 ^ (node_bits - depth - 1)) → rd w64 (rd w64 v +ℤ rd w64 half) ≡ v +ℤ pos (2 ^ (node_bits - depth - 1))
sum_is depth v {half} small e =
    auto_exact (search (values, v_arg v 34359738368 small, v_arg half 524288 (half-size depth e)) depth 40) tt
    ∙ ap (λ (z : ℤ). v +ℤ z) e

-- the wholes
whole-size : (depth : ℕ) (v : ℤ) {whole : ℤ} → nat_abs v ≤ limit → whole ≡ floor_div (v +ℤ pos (2 ^ (node_bits - depth - 1))) (2 ^ (node_bits - depth)) → nat_abs whole ≤ 2 ^ 37
whole-size depth v small e =
    let half = 2 ^ (node_bits - depth - 1) in
    let half-small : half ≤ 2 ^ 19 = pow_mono {i = node_bits - depth - 1} {j = 19} (omega arith) in
    let size : nat_abs (v +ℤ pos half) ≤ 2 ^ 36 = omega (arith, abs_add v (pos half), small) in
    subst (λ (z : ℤ). nat_abs z ≤ 2 ^ 37) (sym e)
    (le_trans (floor_abs (v +ℤ pos half) (2 ^ (node_bits - depth)) (2 ^ 36) (pow_pos (node_bits - depth)) size) (omega (arith, div-le_self (2 ^ 36) (2 ^ (node_bits - depth)))))

-- the middle
middle-size : (depth : ℕ) {middle : ℤ} → depth ≤ max_depth → middle ≡ pos (2 ^ (depth - 1)) → nat_abs middle ≤ 4096
middle-size depth few e = subst (λ (z : ℤ). nat_abs z ≤ 4096) (sym e) (power_small (depth - 1) (omega arith))

pub returns : goal.returns
returns c =
    let a = c.args in
    let whole_is : c.floor_shifted-whole.result ≡ floor_div (a.v +ℤ pos (2 ^ (node_bits - a.depth - 1))) (2 ^ (node_bits - a.depth)) =
    c.floor_shifted-whole.ensures ∙ ap (λ (z : ℤ). floor_div z (2 ^ (node_bits - a.depth))) (sum_is a.depth a.v c.requires.2 c.signed_power-half.ensures) in
    auto_exact (search (values, v_arg c.floor_shifted-whole.result 137438953472 (whole-size a.depth a.v c.requires.2 whole_is), v_arg c.signed_power.result 4096 (middle-size a.depth c.requires.1 c.signed_power.ensures)) depth 40) tt
    ∙ (λ u. whole_is u +ℤ c.signed_power.ensures u)
    ∙ grey_cut a.depth a.v (omega arith) (omega arith)

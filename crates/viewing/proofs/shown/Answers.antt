-- `viewing::shown` meets its contract: the grey limited to the depth is the pixel, which 16 bits hold.
use Prim.Native.Nat.{ℕ, ◌-◌, ◌^◌, ◌≤◌}
use mathlib.Core.Path.{◌≡◌, sym, ◌∙◌, ap, subst}
use borrow.Author.Rules.{sfits_of}
use lib.IntN.{ℤ, pos, nat_abs, ◌-ℤ◌}
use mir.Syntax.{w64}
use mir.Val.{SFits}
use mir.Facts.{to_z-of_z}
use Rattle.std.specs.Int.{int_max, int_min}
use Rattle.numbers.specs.Auto.{values, v_arg, auto_fits, auto_exact, rd}
use Rattle.width_table.specs.Table.{max_depth}
use Rattle.viewing.specs.View.{grey}
use Rattle.viewing.specs.PixelSteps.{largest_some, power_small, pixel_limited, less_one}
use Rattle.viewing.proofs.shown.Goals as goal

-- the greatest pixel
module _ (B : ℕ) (few : B ≤ max_depth) {power : ℤ} (is : power ≡ pos (2 ^ B)) where
  size : nat_abs power ≤ 4096
  size = subst (λ (z : ℤ). nat_abs z ≤ 4096) (sym is) (power_small B few)

  most_fits : SFits w64 (rd w64 power -ℤ pos 1)
  most_fits = auto_fits (search (values, v_arg power 4096 size) depth 40) tt

  most_is : rd w64 (rd w64 power -ℤ pos 1) ≡ pos (2 ^ B - 1)
  most_is = to_z-of_z most_fits ∙ auto_exact (search (values, v_arg power 4096 size) depth 40) tt ∙ ap (λ (z : ℤ). z -ℤ pos 1) is ∙ less_one _ (largest_some B)

pub returns : goal.returns
returns c =
    let a = c.args in
    let g : rd w64 c.greys.result ≡ grey a.depth a.v = to_z-of_z {w = w64} (sfits_of c.greys.type_inv) ∙ c.greys.ensures ∙ ap (grey a.depth) (to_z-of_z c.ranges.v) in
    let most = most_is a.depth c.requires.1 c.signed_power-most.ensures in
    ap nat_abs (to_z-of_z {w = w64} (sfits_of c.clamp.type_inv) ∙ c.clamp.ensures.value ∙ (λ u. int_max (pos 0) (int_min (g u) (most u))) ∙ pixel_limited a.depth a.v)

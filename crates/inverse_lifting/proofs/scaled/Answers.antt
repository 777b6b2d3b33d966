-- `inverse_lifting::scaled` meets its contract: the product is at most 2^60, and what the shift leaves is no larger.
use mathlib.Core.Path.{◌≡◌, ap, ◌∙◌}
use Prim.Native.Nat.{◌*◌, ◌^◌}
use lib.IntN.{ℤ, ◌*ℤ◌}
use lib.Signed.{shr_z, mag_shr}
use mir.Syntax.{w64}
use mir.Val.{SFits}
use mir.ValLaws.{sfits_le}
use mir.Facts.{to_z-of_z}
use Rattle.numbers.specs.Auto.{Value, values, v_arg, auto_fits, auto_exact, rd}
use Rattle.inverse_lifting.specs.Fixed.{inverse_bits, limit}
use Rattle.inverse_lifting.proofs.scaled.Goals as goal

abbrev given : (c : goal.Start) → Value c.args.x × Value c.args.c
given c = (v_arg _ limit c.requires.0, v_arg _ (2 * 2 ^ inverse_bits) c.requires.1)

-- the product as it is read back
abbrev product : goal.Start → ℤ
product c = rd w64 (rd w64 c.args.c *ℤ rd w64 c.args.x)

product-fits : (c : goal.Start) → SFits w64 (product c)
product-fits c = auto_fits (search (values, given c) depth 40) tt

product_is : (c : goal.Start) → product c ≡ c.args.c *ℤ c.args.x
product_is c = auto_exact (search (values, given c) depth 40) tt

pub returns : goal.returns
returns c = let m = 2 ^ c.args.cut in to_z-of_z (sfits_le (mag_shr (product c) m) (product-fits c)) ∙ ap (λ (z : ℤ). shr_z z m) (product_is c)

pub overflow_mul-result : goal.overflow_mul-result
overflow_mul-result c = auto_fits (search (values, given c) depth 40) tt

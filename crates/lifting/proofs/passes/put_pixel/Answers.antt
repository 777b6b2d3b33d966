-- `lifting::passes::put_pixel` meets its contract.
use mathlib.Core.Path.{◌≡◌, refl, ap, ◌∙◌}
use Prim.Native.Nat.{ℕ, ◌+◌}
use native.Mathlib.Omega.{arith}
use borrow.Author.Rules.{sfits_of}
use lib.IntN.{pos, ◌-ℤ◌}
use lib.ListN.{get_or, length-set}
use mir.Syntax.{w32}
use mir.Facts.{to_z-of_z}
use Rattle.slices.specs.Patch.{patch_one}
use Rattle.slices.specs.Pixels.{pixel_line}
use Rattle.lifting.proofs.passes.put_pixel.Goals as goal

pub returns : goal.returns
returns c =
    patch_one c.args.to (pixel_line c.args.pixels.now c.args.middle c.args.from) c.args.buffer.now (pos 0) c.requires.1 _
    (to_z-of_z {w = w32} (sfits_of c.centred.type_inv) ∙ c.centred.ensures ∙ ap (λ (k : ℕ). pos (get_or c.args.pixels.now k 0) -ℤ pos c.args.middle) (let e : c.args.from ≡ c.args.from + 0 = omega arith in e))

pub shape_of-buffer : goal.shape_of-buffer
shape_of-buffer c = simp length-set refl

-- A single line of pixels stays as it is, and the columns of two or more are worked.
use Prim.Native.Nat.{ℕ}
use mathlib.Core.Path.{◌∙◌, ap}
use native.Mathlib.Omega.{arith}
use lib.IntN.{pos, ◌-ℤ◌}
use lib.ListN.{get_or}
use Rattle.slices.specs.Patch.{at, patch_ext}
use Rattle.slices.specs.Pixels.{loaded}
use Rattle.reversible.specs.Sizes.{forward_kernel}
use Rattle.reversible.specs.LevelLaws.{columns_from, columns_one, columns_more}
use Rattle.reversible.specs.Preconditions.{first_columns_lem}
use Rattle.reversible.proofs.first_columns.Goals as goal

pub pixel_columns-requires : goal.pixel_columns-requires
pixel_columns-requires c = first_columns_lem c.requires (record { least = omega arith }) _ c.middle-middle.ensures

pub returns-then-h-lt2 : goal.returns-then-h-lt2
returns-then-h-lt2 c =
    let a = c.args in
    c.put_pixels.ensures
    ∙ patch_ext _ _ _ _ (at a.plane.now) (λ k i. ap (λ (n : ℕ). pos (get_or a.pixels.now n 0) -ℤ pos c.middle-middle.result) (omega arith))
    ∙ columns_one forward_kernel a.w a.w a.h (loaded a.pixels.now c.middle-middle.result a.w a.h (at a.plane.now)) (omega arith) (omega arith)
    ∙ ap (λ (m : ℕ). columns_from forward_kernel a.w a.w a.h (loaded a.pixels.now m a.w a.h (at a.plane.now))) c.middle-middle.ensures

pub returns-else-h-lt2 : goal.returns-else-h-lt2
returns-else-h-lt2 c =
    let a = c.args in
    c.pixel_columns.ensures
    ∙ columns_more forward_kernel a.w a.w a.h (loaded a.pixels.now c.middle-middle.result a.w a.h (at a.plane.now)) (record { least = omega arith })
    ∙ ap (λ (m : ℕ). columns_from forward_kernel a.w a.w a.h (loaded a.pixels.now m a.w a.h (at a.plane.now))) c.middle-middle.ensures

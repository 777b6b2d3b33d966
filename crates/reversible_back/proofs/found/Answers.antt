-- `reversible_back::found` meets its contract: the plane is copied, inverted, and what came out is looked at.
use mathlib.Core.Path.{◌≡◌, sym, ◌∙◌, ap, refl, subst}
use Prim.Native.Nat.{ℕ, ◌+◌, ◌*◌, ◌<◌}
use native.Mathlib.Omega.{arith}
use lib.Dec.{T}
use lib.IntN.{ℤ, pos}
use Rattle.pictures.specs.RangeChecks.{Tells, row_tells}
use Rattle.slices.specs.Patch.{at, patch, patch_ext}
use Rattle.slices.specs.Runs.{as_type}
use Rattle.reversible_back.specs.Orders.{order_of}
use Rattle.reversible_back.specs.FoundLaws.{IsSample, Found, found_all, found_none}
use Rattle.reversible_back.proofs.found.Goals as goal

at_front : (j : ℕ) → 0 + j ≡ j
at_front j = omega arith

copied : (n : ℕ) (x y mid : ℕ → ℤ) → mid ≡ patch 0 n (λ j. x (0 + j)) y → mid ≡ patch 0 n x y
copied n x y mid e = e ∙ patch_ext 0 n _ x y (λ j h. ap x (at_front j))

pub returns-then-levels_back : goal.returns-then-levels_back
returns-then-levels_back c =
    let levels = c.levels_back in
    let f = c.args.form in
    let y = levels.new.values in
    found_all (order_of f.first) c.requires c.args.plane.now _ _ (at y) (copied _ _ _ _ (c.copy_run.ensures (pos 0))) _ _
    levels.ensures (subst T (sym c.if-levels_back.true) tt)
    (as_type (λ u. Tells ((j : ℕ) → j < f.w * f.h → IsSample f.depth (at y (at_front j u))) c.samples_right.result)
    (row_tells (IsSample f.depth) y 0 (f.w * f.h) (f.w * f.h) _ refl (omega (arith, c.requires.room.first)) c.samples_right.ensures))

pub returns-else-levels_back : goal.returns-else-levels_back
returns-else-levels_back c =
    let levels = c.levels_back in
    subst (Found (order_of c.args.form.first) c.args.form.depth c.args.form.levels c.args.form.w c.args.form.h c.args.plane.now (at levels.new.values)) (sym c.if-levels_back.false)
    (found_none (order_of c.args.form.first) c.requires c.args.plane.now _ _ (at levels.new.values) (copied _ _ _ _ (c.copy_run.ensures (pos 0))) _ levels.ensures c.if-levels_back.false)

-- `inverse_lifting::single_low` meets its contract: the low comes from the plane or from the work area.
use mathlib.Core.Path.{◌≡◌, sym, ap, subst, ◌∙◌}
use Prim.Native.Nat.{ℕ, ◌+◌}
use native.Mathlib.Omega.{arith}
use borrow.Author.Rules.{rules}
use lib.Dec.{lit<}
use lib.IntN.{ℤ}
use mir.Syntax.{w32, w64}
use mir.Val.{SFits}
use mir.Facts.{to_z-of_z, sfits_widen}
use Rattle.numbers.specs.Auto.{rd}
use Rattle.slices.specs.Patch.{at}
use Rattle.slices.specs.PatchLines.{line_at}
use Rattle.inverse_lifting.specs.Strips.{source_stored, source_left}
use Rattle.inverse_lifting.proofs.single_low.Goals as goal

first : (from width j : ℕ) → line_at from width 0 + j ≡ from + j
first from width j = omega arith

-- a coefficient fits 32 bits, and so 64
widened : (v : ℤ) → SFits w32 v → SFits w64 (rd w32 v)
widened v fits = subst (SFits w64) (sym (to_z-of_z fits)) (sfits_widen tt fits)

pub returns-then-a : goal.returns-then-a
returns-then-a c =
    let a = c.args in
    let fits : SFits w32 (at a.plane.now (a.a.from + a.j)) = search rules in
    to_z-of_z (widened _ fits) ∙ to_z-of_z fits ∙ sym (source_stored a.a 1 (at a.plane.now) (at a.work.now) a.j 0 (lit< tt) c.if-a.true ∙ ap (at a.plane.now) (first a.a.from a.a.width a.j))

pub returns-else-a : goal.returns-else-a
returns-else-a c =
    let a = c.args in
    let fits : SFits w64 (at a.work.now (a.a.from + a.j)) = search rules in
    to_z-of_z fits ∙ sym (source_left a.a 1 (at a.plane.now) (at a.work.now) a.j 0 (lit< tt) c.if-a.false ∙ ap (at a.work.now) (first a.a.from a.a.stride a.j))

-- `reversible::low_end` meets its contract. The loop's invariant: the first j places of the line are there.
use mathlib.Core.Path.{refl, sym, ◌∙◌}
use Prim.Native.Nat.{◌+◌}
use native.Mathlib.Omega.{arith}
use borrow.Author.Rules.{sfits_of}
use lib.IntN.{pos}
use mir.Syntax.{w32}
use mir.Facts.{to_z-of_z}
use Rattle.lifting.specs.declared.Step.TheVariants.{Update}
use Rattle.lifting.specs.Steps.{ended, Safe}
use Rattle.slices.specs.Runs.{as_type}
use Rattle.lifting.specs.Ends.{ended_is}
use Rattle.slices.specs.Patch.{at, patch_none, patch_set}
use Rattle.slices.specs.Pixels.{pixel_line}
use Rattle.reversible.specs.Columns.{read_past}
use Rattle.reversible.proofs.low_end.Goals as goal

pub updated_end-requires : goal.updated_end-requires
updated_end-requires c =
    let t = c.loop-j in
    let a = to_z-of_z {w = w32} (sfits_of c.centred.type_inv) ∙ c.centred.ensures in
    let x = to_z-of_z {w = w32} (sfits_of c.updated_end-arg-1.given) ∙ read_past _ _ _ _ _ _ t.invariant (omega arith) in
    as_type (λ u. Safe Update (sym a u) (sym x u) (sym x u)) (c.requires.by_index t.j c.loop-j-test.true)

pub loop-j-preserved : goal.loop-j-preserved
loop-j-preserved c =
    let t = c.loop-j in
    let a = to_z-of_z {w = w32} (sfits_of c.centred.type_inv) ∙ c.centred.ensures in
    let x = to_z-of_z {w = w32} (sfits_of c.updated_end-arg-1.given) ∙ read_past _ _ _ _ _ _ t.invariant (omega arith) in
    let v = to_z-of_z {w = w32} (sfits_of c.updated_end.type_inv) ∙ c.updated_end.ensures ∙ (λ u. ended Update (a u) (x u))
    ∙ ended_is Update (pixel_line c.args.pixels.now c.args.middle c.args.own t.j) (at c.args.plane.now (c.args.beside + t.j)) in
    patch_set _ t.j _ _ t.plane (pos 0) t.invariant (omega arith) _ v

pub loop-j-init : goal.loop-j-init
loop-j-init c = patch_none _ 0 _ _ refl

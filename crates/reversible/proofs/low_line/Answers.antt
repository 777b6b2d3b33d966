-- `reversible::low_line` meets its contract. The loop's invariant: the first j places of the line are there.
use mathlib.Core.Path.{refl, sym, ◌∙◌}
use native.Mathlib.Omega.{arith}
use borrow.Author.Rules.{sfits_of}
use lib.IntN.{pos}
use mir.Syntax.{w32}
use mir.Facts.{to_z-of_z}
use Rattle.lifting.specs.declared.Step.TheVariants.{Update}
use Rattle.lifting.specs.Steps.{applied, Safe}
use Rattle.slices.specs.Runs.{as_type}
use Rattle.slices.specs.Patch.{patch_none, patch_set}
use Rattle.reversible.specs.Columns.{read_past}
use Rattle.reversible.proofs.low_line.Goals as goal

pub updated-requires : goal.updated-requires
updated-requires c =
    let t = c.loop-j in
    let a = to_z-of_z {w = w32} (sfits_of c.centred.type_inv) ∙ c.centred.ensures in
    let x = to_z-of_z {w = w32} (sfits_of c.updated-arg-1.given) ∙ read_past _ _ _ _ _ _ t.invariant (omega arith) in
    let y = to_z-of_z {w = w32} (sfits_of c.updated-arg-in-loop-j-1.given) ∙ read_past _ _ _ _ _ _ t.invariant (omega arith) in
    as_type (λ u. Safe Update (sym a u) (sym x u) (sym y u)) (c.requires.by_index t.j c.loop-j-test.true)

pub loop-j-preserved : goal.loop-j-preserved
loop-j-preserved c =
    let t = c.loop-j in
    let a = to_z-of_z {w = w32} (sfits_of c.centred.type_inv) ∙ c.centred.ensures in
    let x = to_z-of_z {w = w32} (sfits_of c.updated-arg-1.given) ∙ read_past _ _ _ _ _ _ t.invariant (omega arith) in
    let y = to_z-of_z {w = w32} (sfits_of c.updated-arg-in-loop-j-1.given) ∙ read_past _ _ _ _ _ _ t.invariant (omega arith) in
    let v = to_z-of_z {w = w32} (sfits_of c.updated.type_inv) ∙ c.updated.ensures ∙ (λ u. applied Update (a u) (x u) (y u)) in
    patch_set _ t.j _ _ t.plane (pos 0) t.invariant (omega arith) _ v

pub loop-j-init : goal.loop-j-init
loop-j-init c = patch_none _ 0 _ _ refl

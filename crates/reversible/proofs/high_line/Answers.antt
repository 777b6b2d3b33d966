-- `reversible::high_line` meets its contract: the places passed hold their highs.
use Rattle.std.specs.Prelude.{◌+◌, ◌-◌, pos}
use Rattle.std.proofs.Common.{◌∙◌, arith}
use borrow.Author.Rules.{sfits_of}
use mir.Syntax.{w32}
use mir.Facts.{to_z-of_z}
use Rattle.lifting.specs.declared.Step.TheVariants.{Predict}
use Rattle.lifting.specs.Steps.{applied}
use Rattle.slices.specs.Patch.{patch_part, patch_to}
use Rattle.reversible.specs.Columns.{place_more}
use Rattle.reversible.proofs.high_line.Goals as goal

pub loop-j-preserved : goal.loop-j-preserved
loop-j-preserved c =
    let t = c.loop-j in
    let a = to_z-of_z {w = w32} (sfits_of c.centred.type_inv) ∙ c.centred.ensures in
    let x = to_z-of_z {w = w32} (sfits_of c.centred-in-loop-j.type_inv) ∙ c.centred-in-loop-j.ensures in
    let y = to_z-of_z {w = w32} (sfits_of c.centred-in-loop-j-2.type_inv) ∙ c.centred-in-loop-j-2.ensures in
    let v = to_z-of_z {w = w32} (sfits_of c.predicted.type_inv) ∙ c.predicted.ensures ∙ (λ u. applied Predict (a u) (x u) (y u)) in
    place_more t.x-items t.j _ _ (omega arith) t.invariant v

pub returns : goal.returns
returns c =
    let a = c.args in
    let t = c.loop-j in
    patch_to _ _ _ _ _ _ (patch_part a.to (a.to + a.n - a.to) _ a.plane.now t.x-items (pos 0) (omega arith) (omega arith) (λ j h. t.invariant j (omega arith))) (omega arith)

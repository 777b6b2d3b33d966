-- `lifting::steps::signed_sum` meets its contract.
use mathlib.Core.Path.{◌≡◌, sym, ap, ap₂, ◌∙◌}
use mathlib.Core.Bool.{Bool}
use lib.IntN.{ℤ, pos, ◌+ℤ◌, ◌-ℤ◌}
use mir.Syntax.{w32}
use mir.Facts.{to_z-of_z}
use Rattle.lifting.specs.Steps.{signed_sum}
use Rattle.slices.specs.SignedRuns.{back}
use Rattle.lifting.proofs.steps.signed_sum.Goals as goal

pub returns-then-down : goal.returns-then-down
returns-then-down c =
    let sum : back w32 (back w32 c.args.x +ℤ back w32 c.args.y) ≡ c.args.x +ℤ c.args.y =
    ap (back w32) (ap₂ ◌+ℤ◌ (to_z-of_z c.ranges.x) (to_z-of_z c.ranges.y)) ∙ to_z-of_z c.requires.sum in
    ap (λ (z : ℤ). back w32 (pos 0 -ℤ z)) sum ∙ to_z-of_z c.requires.negated ∙ sym (ap (λ (down : Bool). signed_sum down c.args.x c.args.y) c.if-down.true)

pub returns-else-down : goal.returns-else-down
returns-else-down c =
    let sum : back w32 (back w32 c.args.x +ℤ back w32 c.args.y) ≡ c.args.x +ℤ c.args.y =
    ap (back w32) (ap₂ ◌+ℤ◌ (to_z-of_z c.ranges.x) (to_z-of_z c.ranges.y)) ∙ to_z-of_z c.requires.sum in
    sum ∙ sym (ap (λ (down : Bool). signed_sum down c.args.x c.args.y) c.if-down.false)

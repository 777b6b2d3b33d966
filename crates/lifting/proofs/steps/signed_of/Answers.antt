-- `lifting::steps::signed_of` meets its contract.
use mathlib.Core.Path.{◌≡◌, sym, ap, ◌∙◌}
use mathlib.Core.Bool.{Bool}
use native.Mathlib.Omega.{arith}
use lib.IntN.{ℤ, pos, ◌-ℤ◌}
use mir.Syntax.{w64}
use mir.Val.{to_z, SFits}
use mir.Facts.{to_z-of_z, to_z_pos}
use Rattle.numbers.specs.Laws.{zero_less}
use Rattle.lifting.specs.Steps.{signed}
use Rattle.lifting.specs.Bias.{difference_fits}
use Rattle.slices.specs.SignedRuns.{fits_at}
use Rattle.lifting.proofs.steps.signed_of.Goals as goal

pub returns-then-down : goal.returns-then-down
returns-then-down c =
    let value : to_z w64 c.args.c ≡ pos c.args.c =
    to_z_pos w64 (omega (arith, c.ranges.c)) in
    let negative : pos 0 -ℤ to_z w64 c.args.c ≡ pos 0 -ℤ pos c.args.c =
    ap (λ (z : ℤ). pos 0 -ℤ z) value in
    let fits : SFits w64 (pos 0 -ℤ to_z w64 c.args.c) =
    fits_at negative (difference_fits 0 c.args.c (omega arith) (omega (arith, c.ranges.c))) in
    to_z-of_z fits ∙ negative ∙ zero_less (pos c.args.c) ∙ sym (ap (λ (down : Bool). signed down c.args.c) c.if-down.true)

pub returns-else-down : goal.returns-else-down
returns-else-down c =
    let value : to_z w64 c.args.c ≡ pos c.args.c =
    to_z_pos w64 (omega (arith, c.ranges.c)) in
    value ∙ sym (ap (λ (down : Bool). signed down c.args.c) c.if-down.false)

pub overflow_sub-result : goal.overflow_sub-result
overflow_sub-result c =
    let value : to_z w64 c.args.c ≡ pos c.args.c =
    to_z_pos w64 (omega (arith, c.ranges.c)) in
    let negative : pos 0 -ℤ to_z w64 c.args.c ≡ pos 0 -ℤ pos c.args.c =
    ap (λ (z : ℤ). pos 0 -ℤ z) value in
    let fits : SFits w64 (pos 0 -ℤ to_z w64 c.args.c) =
    fits_at negative (difference_fits 0 c.args.c (omega arith) (omega (arith, c.ranges.c))) in
    fits

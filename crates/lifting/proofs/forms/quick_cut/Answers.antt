-- `lifting::forms::quick_cut` meets its contract: the numbers that it hands on are those that it was given.
use mathlib.Core.Path.{◌≡◌, ◌∙◌}
use Prim.Native.Nat.{◌<◌}
use native.Mathlib.Omega.{arith}
use lib.IntN.{pos}
use lib.Signed.{lt_z}
use mir.Syntax.{w64}
use mir.Facts.{to_z-of_z}
use Rattle.lifting.specs.declared.Step.TheVariants.{Cut}
use Rattle.slices.specs.Runs.{as_type}
use Rattle.lifting.specs.Steps.{SameStep, signed}
use Rattle.lifting.specs.Bias.{signed_is}
use Rattle.slices.specs.SignedRuns.{back}
use Rattle.lifting.proofs.forms.quick_cut.Goals as goal

pub returns-then-first-cut : goal.returns-then-first-cut
returns-then-first-cut c =
    let constant : c.size-f.result < 2147483648 → signed (lt_z (back w64 c.args.c) (pos 0)) c.size-f.result ≡ c.args.c =
    λ h. signed_is (back w64 c.args.c) c.size-f.result (c.size-f.ensures h) ∙ to_z-of_z c.ranges.c in
    let a = c.args in
    let e = constant (omega arith) in
    as_type (λ u. SameStep (Cut a.k (e u) a.first a.up a.cut) c.biased_cut.result) c.biased_cut.ensures

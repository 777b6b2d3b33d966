-- `lifting::forms::quick` meets its contract: the numbers that it hands on are those that it was given.
use mathlib.Core.Path.{◌≡◌, ◌∙◌}
use Prim.Native.Nat.{◌+◌, ◌-◌, ◌<◌}
use native.Mathlib.Omega.{arith}
use lib.IntN.{pos}
use lib.Signed.{lt_z}
use mir.Syntax.{w64}
use mir.Facts.{to_z-of_z}
use Rattle.lifting.specs.declared.Step.TheVariants.{Scaled}
use Rattle.slices.specs.Runs.{as_type}
use Rattle.lifting.specs.Steps.{SameStep, signed}
use Rattle.lifting.specs.Bias.{signed_is}
use Rattle.slices.specs.SignedRuns.{back}
use Rattle.lifting.proofs.forms.quick.Goals as goal

pub returns-then-k-cut : goal.returns-then-k-cut
returns-then-k-cut c =
    let constant : c.size-f.result < 2147483648 → signed (lt_z (back w64 c.args.c) (pos 0)) c.size-f.result ≡ c.args.c =
    λ h. signed_is (back w64 c.args.c) c.size-f.result (c.size-f.ensures h) ∙ to_z-of_z c.ranges.c in
    let a = c.args in
    let e = constant (omega arith) in
    as_type (λ u. SameStep (Scaled a.k (e u) a.cut) c.combined.result) c.combined.ensures

pub returns : goal.returns
returns c =
    let constant : c.size-f.result < 2147483648 → signed (lt_z (back w64 c.args.c) (pos 0)) c.size-f.result ≡ c.args.c =
    λ h. signed_is (back w64 c.args.c) c.size-f.result (c.size-f.ensures h) ∙ to_z-of_z c.ranges.c in
    let a = c.args in
    let e = constant (omega arith) in
    let k : a.cut + (a.k - a.cut) ≡ a.k = omega arith in
    as_type (λ u. SameStep (Scaled (k u) (e u) a.cut) c.separate.result) c.separate.ensures

-- `reversible_back::samples_right` meets its contract: the two limits are computed without overflow.
use mathlib.Core.Path.{◌≡◌, ap, sym, ◌∙◌, subst}
use Prim.Native.Nat.{ℕ, ◌-◌, ◌<◌, ◌≤◌, ◌^◌}
use native.Mathlib.Omega.{arith}
use lib.IntN.{ℤ, pos, neg_ℤ, ◌-ℤ◌}
use lib.ListN.{length}
use lib.Pow.{pow_mono}
use mir.Syntax.{w32}
use mir.Val.{to_z}
use Rattle.numbers.specs.Auto.{values, v_nat, auto_exact, rd}
use Rattle.slices.specs.Patch.{at}
use Rattle.slices.specs.Runs.{as_type}
use Rattle.numbers.specs.Laws.{zero_less}
use Rattle.pictures.specs.RangeChecks.{Tells, Between}
use Rattle.reversible_back.proofs.samples_right.Goals as goal

pub returns : goal.returns
returns c =
    let middle-small : c.middle-half.result ≤ 2048 =
    subst (λ (n : ℕ). n ≤ 2048) (sym c.middle-half.ensures) (pow_mono {i = c.args.depth - 1} {j = 11} (omega arith)) in
    let a = c.args in
    let m = c.middle-half.result in
    let is = ap pos c.middle-half.ensures in
    let v = v_nat w32 m 2048 middle-small in
    let least : rd w32 (pos 0 -ℤ to_z w32 m) ≡ neg_ℤ (pos (2 ^ (a.depth - 1))) = auto_exact (search (values, v) depth 40) tt ∙ ap (λ (z : ℤ). pos 0 -ℤ z) is ∙ zero_less (pos (2 ^ (a.depth - 1))) in
    let most : rd w32 (to_z w32 m -ℤ pos 1) ≡ pos (2 ^ (a.depth - 1)) -ℤ pos 1 = auto_exact (search (values, v) depth 40) tt ∙ ap (λ (z : ℤ). z -ℤ pos 1) is in
    as_type (λ u. Tells ((j : ℕ) → j < length a.values.now → Between (least u) (most u) (at a.values.now j)) c.all_between.result) c.all_between.ensures

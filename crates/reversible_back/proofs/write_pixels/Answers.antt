-- `reversible_back::write_pixels` meets its contract: the places passed hold their pixels, and 0 in place of their samples.
use mathlib.Core.Path.{◌≡◌, refl, sym, ap, ◌∙◌}
use Prim.Native.Nat.{ℕ, ◌-◌, ◌≤◌, ◌^◌}
use native.Mathlib.Omega.{arith}
use borrow.Author.Rules.{sfits_of}
use lib.IntN.{ℤ, pos, nat_abs, neg_ℤ, ◌+ℤ◌, ◌-ℤ◌}
use lib.Pow.{pow_mono}
use mir.Syntax.{w32}
use mir.Facts.{to_z-of_z}
use Rattle.slices.specs.Patch.{at, patch_none, patch_above}
use Rattle.slices.specs.Runs.{as_type}
use Rattle.slices.specs.FrontLaws.{patch_next, patch_zeroed}
use Rattle.reversible_back.specs.FoundLaws.{signed_middle}
use Rattle.pictures.specs.RangeChecks.{Between}
use Rattle.reversible_back.proofs.write_pixels.Goals as goal

pub pixel_of-requires : goal.pixel_of-requires
pixel_of-requires c =
    let t = c.loop-i in
    let sample : at t.values t.i ≡ at c.args.values.now t.i = ap (λ (f : ℕ → ℤ). f t.i) t.invariant.1 ∙ patch_above 0 t.i _ _ t.i (omega arith) in
    let m = c.middle-half in
    let half = signed_middle c.args.depth m.result c.requires.le_depth.0 c.requires.le_depth.1 m.ensures in
    let v = to_z-of_z {w = w32} (sfits_of c.pixel_of-arg-1.given) ∙ sample in
    as_type (λ u. (nat_abs (sym half u) ≤ 2 ^ 11) × Between (neg_ℤ (sym half u)) (sym half u -ℤ pos 1) (sym v u))
    (pow_mono {i = c.args.depth - 1} {j = 11} (omega (arith, c.requires.le_depth)), c.requires.by_index t.i c.loop-i-test.true)

pub loop-i-preserved : goal.loop-i-preserved
loop-i-preserved c =
    let t = c.loop-i in
    let sample : at t.values t.i ≡ at c.args.values.now t.i = ap (λ (f : ℕ → ℤ). f t.i) t.invariant.1 ∙ patch_above 0 t.i _ _ t.i (omega arith) in
    let m = c.middle-half in
    let half = signed_middle c.args.depth m.result c.requires.le_depth.0 c.requires.le_depth.1 m.ensures in
    let v = to_z-of_z {w = w32} {z = at t.values t.i} (sfits_of c.pixel_of-arg-1.given) ∙ sample in (
      patch_next t.i _ _ t.pixels 0 t.invariant.0 (omega arith) _ (c.pixel_of.ensures ∙ (λ u. nat_abs (v u +ℤ half u))),
      patch_next t.i _ _ t.values (pos 0) t.invariant.1 (omega arith) _ refl,
    )

pub returns-clause-values_after : goal.returns-clause-values_after
returns-clause-values_after c = let t = c.loop-i in patch_zeroed t.i c.args.n c.args.values.now t.values t.invariant.1 (omega arith) (omega arith) (omega arith)

pub loop-i-init : goal.loop-i-init
loop-i-init c = (patch_none 0 _ _ _ refl, patch_none 0 _ _ _ refl)

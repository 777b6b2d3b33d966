use mathlib.Core.Path.{sym, ap, ◌∙◌, subst}
use Prim.Native.Nat.{ℕ, ◌^◌, ◌<◌}
use native.Mathlib.Omega.{arith}
use native.Mathlib.Nat.{le_refl}
use lib.IntN.{pos}
use mir.Syntax.{w64}
use mir.Val.{SFits, to_z}
use mir.Facts.{to_z-of_z}
use Rattle.fixed_stages.specs.SafeLaws.{fits_64}
use Rattle.fixed_stages.proofs.signed_power.Goals as goal

fits : (k : ℕ) → k < 63 → SFits w64 (pos (2 ^ k))
fits k h = fits_64 k (pos (2 ^ k)) (omega arith) (le_refl _)

pub overflow_cast-result : goal.overflow_cast-result
overflow_cast-result c = subst (λ (n : ℕ). SFits w64 (pos n)) (sym c.power.ensures) (fits c.args.bits c.requires)

pub returns : goal.returns
returns c = ap (to_z w64) c.power.ensures ∙ to_z-of_z {w = w64} {z = pos (2 ^ c.args.bits)} (fits c.args.bits c.requires)

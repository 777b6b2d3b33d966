-- A signed local holds bits: what is read back from them is the number that was written, where it fits.
use Prim.Native.Nat.{◌<◌, ◌^◌}
use mathlib.Core.Path.{◌≡◌, sym, subst, ◌∙◌}
use lib.IntN.{ℤ}
use lib.Signed.{mag}
use mir.Syntax.{w64}
use mir.Val.{SFits, to_z, of_z}
use mir.Facts.{to_z-of_z}
use borrow.Author.Rules.{sfits_of}

abbrev pub back : ℤ → ℤ
back z = to_z w64 (of_z w64 z)

-- what was read back of a call's result
pub got : {r z : ℤ} → mag r < 2 ^ 63 → r ≡ z → back r ≡ z
got f e = to_z-of_z {w = w64} (sfits_of {w = w64} f) ∙ e

pub fits_at : {z z' : ℤ} → z' ≡ z → SFits w64 z → SFits w64 z'
fits_at e h = subst (SFits w64) (sym e) h

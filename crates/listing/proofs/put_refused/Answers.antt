-- `listing::put_refused` meets its contract: the word, then a line of one number.
use Prim.Native.Nat.{ℕ}
use mathlib.Core.Path.{◌∙◌, ap}
use mathlib.Core.List.{[], ◌∷◌}
use native.Mathlib.Omega.{arith}
use lib.IntN.{ℤ, pos}
use mir.Syntax.{w32}
use mir.Facts.{to_z_pos}
use Rattle.listing.specs.Listing.{line, refused_line}
use Rattle.listing.specs.Writing.{put_then, put_same}
use Rattle.listing.proofs.put_refused.Goals as goal

pub returns : goal.returns
unfolding refused_line
returns c =
    put_then c.put_all-next.ensures
    (put_same _ _ c.put_line.ensures.0 (ap (λ (z : ℤ). line (z ∷ [])) (to_z_pos w32 {n = c.number.result} (omega (arith, c.number.type_inv))) ∙ ap (λ (k : ℕ). line (pos k ∷ [])) c.number.ensures))

-- `listing::put_plane` meets its contract: the head, then the rows; the numbers of the head fit an i32.
use mathlib.Core.List.{[], ◌∷◌}
use native.Mathlib.Omega.{arith}
use lib.IntN.{pos}
use Rattle.std.proofs.Common.{◌<◌, rules}
use mir.Syntax.{w32}
use mir.Facts.{to_z_pos}
use Rattle.listing.specs.Listing.{line}
use Rattle.listing.specs.Writing.{put_then, put_same}
use Rattle.listing.proofs.put_plane.Goals as goal

pub returns : goal.returns
returns c =
    let n = c.args.head in
    let small : n.h < 65536 = search rules in
    put_then
    (put_same _ _ c.put_line-next.ensures.0
    (λ i. line (pos 53 ∷ to_z_pos w32 {n = n.depth} (omega arith) i ∷ to_z_pos w32 {n = n.levels} (omega arith) i ∷ to_z_pos w32 {n = n.w} (omega arith) i ∷ to_z_pos w32 {n = n.h} (omega arith) i ∷ [])))
    c.put_rows.ensures

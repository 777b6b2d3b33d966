-- `listing::put_line` meets its contract: what is still to be written, from number i on, leads to the whole line.
use mathlib.Core.Path.{◌≡◌, ◌∙◌, ap}
use mathlib.Core.List.{List, [], ◌∷◌}
use Prim.Native.Nat.{ℕ, ◌-◌}
use native.Mathlib.Omega.{arith}
use lib.IntN.{ℤ, pos}
use lib.ListN.{length, take, drop, get_or}
use Rattle.std.proofs.Common.{rules, get_or-take, length-take-le}
use mir.Syntax.{w32}
use mir.Facts.{to_z-of_z}
use Rattle.listing.specs.Listing.{decimal, line, space, newline}
use Rattle.listing.specs.Writing.{leads_same, leads_put, leads_end, put_same}
use Rattle.listing.specs.TextLaws.{line_more, line_last}
use Rattle.listing.proofs.put_line.Goals as goal

before_last : (l : List ℤ) → length (take (length l - 1) l) ≡ length l - 1
before_last l = length-take-le (length l - 1) l (omega arith)

pub loop-z-preserved : goal.loop-z-preserved
loop-z-preserved c =
    let t = c.loop-z in
    let l = c.args.numbers.now in
    let z = put_same _ _ c.put_number-next.ensures.0 (ap decimal (to_z-of_z {w = w32} {z = get_or (take (length l - 1) l) t.z-index (pos 0)} (search rules) ∙ get_or-take (length l - 1) l t.z-index (pos 0) (omega (arith, before_last l)))) in (
      omega (arith, c.put_number-next.ensures.1, c.put-next.ensures.end),
      leads_put (space ∷ []) _ (leads_put _ _ (leads_same _ _ t.invariant.1 (line_more l t.z-index (omega (arith, before_last l)))) z) c.put-next.ensures,
    )

pub returns : goal.returns
returns c =
    let t = c.loop-z in
    let l = c.args.numbers.now in
    let z = put_same _ _ c.put_number-next-2.ensures.0 (ap decimal (to_z-of_z {w = w32} {z = get_or l (length l - 1) (pos 0)} (search rules))) in
    let e : t.z-index ≡ length l - 1 = omega (arith, before_last l) in (
      leads_end (leads_put (newline ∷ []) [] (leads_put _ _ (leads_same _ _ t.invariant.1 (ap (λ (k : ℕ). line (drop k l)) e ∙ line_last l (length l - 1) (omega arith))) z) c.put.ensures) (omega (arith, before_last l, c.put_number-next-2.ensures.1, c.put.ensures.end)),
      omega (arith, before_last l, c.put_number-next-2.ensures.1, c.put.ensures.end),
    )

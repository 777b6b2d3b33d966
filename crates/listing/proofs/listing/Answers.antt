-- `listing::listing` meets its contract: a text of MAX_TEXT bytes is enough, a shorter one stays.
use mathlib.Core.Path.{sym, ◌∙◌, ap}
use mathlib.Core.List.{List}
use Prim.Native.Nat.{ℕ}
use native.Mathlib.Omega.{arith}
use lib.ListN.{length}
use Rattle.numbers.specs.Lists.{over}
use Rattle.listing.specs.Writing.{put_over}
use Rattle.listing.proofs.AnswerLaws.{listed_short, listed_whole}
use Rattle.listing.proofs.listing.Goals as goal

pub returns-then-text-lt-MAX_TEXT : goal.returns-then-text-lt-MAX_TEXT
returns-then-text-lt-MAX_TEXT c =
    let a = c.args in
    let e = listed_short a.input.now a.text.now (omega arith) in
    record { count = ap length (sym e); text = ap (λ (t : List ℕ). over t a.text.now) (sym e); within = omega arith }

pub returns : goal.returns
returns c =
    let e = listed_whole c.args.input.now c.args.text.now (omega arith) in
    let r = c.list_into.ensures in
    record { count = omega (arith, r.end, ap length e); text = put_over r ∙ ap (λ (t : List ℕ). over t c.args.text.now) (sym e); within = r.inside }

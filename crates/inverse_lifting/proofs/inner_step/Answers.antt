-- `inverse_lifting::inner_step` meets its contract: each stage in step.
use mathlib.Core.Path.{◌≡◌}
use Prim.Native.Nat.{ℕ, ◌+◌, ◌≤◌, ◌<◌}
use native.Mathlib.Omega.{arith}
use lib.Dec.{lit≤}
use borrow.Author.Rules.{rules}
use lib.IntN.{ℤ}
use Rattle.inverse_lifting.specs.declared.Pipeline.{Pipeline}
use Rattle.inverse_lifting.specs.Steps.{Line, Ready, LowStepped, HighStepped}
use Rattle.inverse_lifting.proofs.Chain.{ask_u2, ask_p2, ask_u1, ask_p1, took_all}
use Rattle.inverse_lifting.proofs.inner_step.Goals as goal

-- away from the ends every place has two neighbours
module _ {l : Line} {i L H : ℕ} {t : Pipeline} {low high : ℤ} (q : Ready l i L H t low high) (among : i < H) where
  in_lows : i < L
  in_lows = omega (arith, q.lows_are, q.highs_are)

  module _ {f : ℤ → ℤ → ℤ → ℤ} {e : ℤ → ℤ → ℤ} {k : ℕ} {kept own before after r : ℤ} where
    low_inner : 1 ≤ k → k ≤ i → r ≡ f own before after → LowStepped f e k L H kept own before after r
    low_inner some up is =
        let m = in_lows in record { first = λ z h. absurd (omega arith); inner = λ z g h. is; last = λ z g h. absurd (omega arith); past = λ h. absurd (omega arith) }

    high_inner : k + 1 ≤ i → r ≡ f own before after → HighStepped f e k L H kept own before after r
    high_inner up is = let m = in_lows in record { inner = λ g h. is; last = λ g h. absurd (omega arith); past = λ h. absurd (omega arith) }

pub moved-u2-requires : goal.moved-u2-requires
moved-u2-requires c = let m = in_lows c.requires.0.ready c.requires.2 in ((ask_u2 c.requires.0.ready).inner (omega arith) (omega arith) (omega arith), lit≤ tt)

pub moved-p2-requires : goal.moved-p2-requires
moved-p2-requires c =
    let q = c.requires.0.ready in
    let m = in_lows q c.requires.2 in
    ((ask_p2 q (low_inner q c.requires.2 (omega arith) (omega arith) c.moved-u2.ensures) (omega arith)).inner (omega arith) (omega arith), lit≤ tt)

pub moved-u1-requires : goal.moved-u1-requires
moved-u1-requires c =
    let q = c.requires.0.ready in
    let m = in_lows q c.requires.2 in (
      (ask_u1 q (low_inner q c.requires.2 (omega arith) (omega arith) c.moved-u2.ensures) (omega arith) (high_inner q c.requires.2 (omega arith) c.moved-p2.ensures)).inner
          (omega (arith, c.requires.1)) (omega (arith, c.requires.1)) (omega (arith, c.requires.1)),
      lit≤ tt,
    )

pub moved-p1-requires : goal.moved-p1-requires
moved-p1-requires c =
    let q = c.requires.0.ready in
    let m = in_lows q c.requires.2 in (
      (ask_p1 q (low_inner q c.requires.2 (omega arith) (omega arith) c.moved-u2.ensures) (omega arith) (high_inner q c.requires.2 (omega arith) c.moved-p2.ensures)
          (low_inner q c.requires.2 (omega arith) (omega arith) c.moved-u1.ensures) c.requires.1).inner (omega arith) (omega arith),
      lit≤ tt,
    )

pub returns : goal.returns
returns c =
    let q = c.requires.0.ready in
    let m = in_lows q c.requires.2 in
    took_all q (low_inner q c.requires.2 (omega arith) (omega arith) c.moved-u2.ensures) (omega arith) (high_inner q c.requires.2 (omega arith) c.moved-p2.ensures)
    (low_inner q c.requires.2 (omega arith) (omega arith) c.moved-u1.ensures) c.requires.1 (high_inner q c.requires.2 (omega arith) c.moved-p1.ensures)
    (search rules) (search rules) (search rules) (search rules) (search rules) (search rules)

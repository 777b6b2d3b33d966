use Prim.Native.Nat.{ℕ, ◌+◌, ◌<◌}
use mathlib.Core.List.{List}
use mathlib.Core.Path.{◌≡◌, refl, ◌∙◌, ap, subst}
use native.Mathlib.Omega.{arith}
use native.Mathlib.Decide.{dec_lt}
use lib.ListN.{length, get_or, set, length-set}
use lib.Seq.{get_or-set_same, get_or-set_other}
use Rattle.stages.specs.Rule.{times_gain}
use Rattle.precision.specs.Places.{gain_at}
use Rattle.precision.specs.PlaceLaws.{gain_most, times_small}
use Rattle.precision.proofs.carry.Invariants.{Added}
use Rattle.precision.proofs.carry.Goals as goal

-- one place more
added_next : (f : ℕ → ℕ) (l m : List ℕ) (k v : ℕ) → k < length m → v ≡ get_or m k 0 + f k → Added f l m k → Added f l (set m k v) (k + 1)
added_next f l m k v h e a = (first, λ i j. get_or-set_other m k i v 0 (λ q. absurd (omega (arith, q, j))) ∙ a.1 i (omega arith))
  where
    first : (i : ℕ) → i < k + 1 → get_or (set m k v) i 0 ≡ get_or l i 0 + f i
    first i j = go (dec_lt i k)
      where
        here : get_or (set m k v) k 0 ≡ get_or l k 0 + f k
        here = get_or-set_same m k v 0 h ∙ e ∙ ap (λ (x : ℕ). x + f k) (a.1 k (omega arith))

        go : Dec (i < k) → get_or (set m k v) i 0 ≡ get_or l i 0 + f i
        go (yes b) = get_or-set_other m k i v 0 (λ q. absurd (omega (arith, q, b))) ∙ a.0 i b
        go (no b) = subst (λ (i : ℕ). get_or (set m k v) i 0 ≡ get_or l i 0 + f i) {x = k} {y = i} (omega arith) here

pub loop-to-init : goal.loop-to-init
loop-to-init c = (omega arith, omega (arith, c.well_formed), ((λ i j. absurd (omega (arith, j))), (λ i j. refl)))

pub times_gain-requires : goal.times_gain-requires
times_gain-requires c = (omega (arith, c.requires.0), gain_most c.args.from c.loop-to.to)

pub overflow_add-sum : goal.overflow_add-sum
overflow_add-sum c = omega (arith, c.loop-to.invariant.2.1 c.loop-to.to (omega arith), c.requires.2 c.loop-to.to (omega arith), c.times_gain.ensures, times_small c.args.x c.args.from c.loop-to.to c.requires.0)

pub loop-to-preserved : goal.loop-to-preserved
loop-to-preserved c =
    let a = c.args in (
      omega arith,
      simp length-set c.loop-to.invariant.1,
      added_next (λ j. times_gain a.x (gain_at a.from j)) a.sums c.loop-to.sum-items c.loop-to.to _ (omega arith) (ap (λ (x : ℕ). get_or c.loop-to.sum-items c.loop-to.to 0 + x) c.times_gain.ensures) c.loop-to.invariant.2,
    )

pub returns : goal.returns
returns c = λ j h. c.loop-to.invariant.2.0 j (omega arith)

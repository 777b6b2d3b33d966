-- `reversible::levels_forward` meets its contract. The loop's invariant: where the first level was done so many are.
use mathlib.Core.Path.{◌≡◌, refl, ◌∙◌, subst}
use Prim.Native.Nat.{ℕ, ◌-◌, ◌^◌}
use native.Mathlib.Omega.{arith}
use lib.IntN.{ℤ}
use lib.ListN.{length}
use Rattle.slices.specs.Patch.{at}
use Rattle.slices.specs.Pixels.{loaded}
use Rattle.reversible.specs.LevelLaws.{level_forward}
use Rattle.reversible.specs.LoopLaws.{ForwardDone}
use Rattle.reversible.proofs.LoopLaws.{forward_first, forward_more, forward_part}
use Rattle.reversible.specs.Preconditions.{levels_room, level_room}
use Rattle.reversible.specs.StepLaws.{first_room, loaded_small}
use Rattle.reversible.proofs.levels_forward.Goals as goal

pub first_level-requires : goal.first_level-requires
first_level-requires c = let p = c.requires in first_room p _ _ refl p.call.room.third

pub level_forward-requires : goal.level_forward-requires
level_forward-requires c =
    let a = c.args in
    let t = c.loop-k in
    let p = c.requires.call in
    let x : ℕ → ℤ = loaded a.pixels.now (2 ^ (a.depth - 1)) a.w a.h (at a.plane.now) in
    level_room (2 ^ 21) (levels_room p (length t.plane) (length t.buffer) (omega (arith, p.room.second)) (omega (arith, p.room.third))) t.k _ _ _ _ refl refl c.side_after.ensures c.side_after-in-loop-k.ensures
    (forward_part _ _ t.k (omega (arith, p.few)) x _ (t.invariant x (forward_first a.w a.h x _ c.first_level.ensures)) (loaded_small c.requires _))

pub loop-k-preserved : goal.loop-k-preserved
loop-k-preserved c =
    let t = c.loop-k in
    λ x f. forward_more _ _ t.k _ _ _ (t.invariant x f) (c.level_forward.ensures ∙ (λ i. level_forward c.args.w (c.side_after.ensures i) (c.side_after-in-loop-k.ensures i) (at t.plane)))

pub returns : goal.returns
returns c =
    let a = c.args in
    let e : c.loop-k.k ≡ a.levels = omega (arith, c.requires.call.some) in
    let x : ℕ → ℤ = loaded a.pixels.now (2 ^ (a.depth - 1)) a.w a.h (at a.plane.now) in
    subst (λ (k : ℕ). ForwardDone a.w a.h k x (at c.loop-k.plane)) e (c.loop-k.invariant x (forward_first a.w a.h x _ c.first_level.ensures))

-- `reversible_back::levels_back` meets its contract. The loop's invariant: so many levels are left, and what they will give is what was asked.
use mathlib.Core.Path.{◌≡◌, sym, ◌∙◌, subst}
use Prim.Native.Nat.{ℕ, ◌-◌}
use native.Mathlib.Omega.{arith}
use lib.Dec.{T}
use Rattle.slices.specs.Patch.{at}
use Rattle.reversible_back.specs.LevelLaws.{level_inverse}
use Rattle.reversible_back.specs.LoopLaws.{BackLeft, one_more, back_more}
use Rattle.reversible.specs.Preconditions.{level_room, part_here}
use Rattle.reversible_back.specs.Orders.{order_of}
use Rattle.reversible_back.specs.BackLaws.{look_small, look_large, back_all, largest}
use Rattle.reversible_back.proofs.levels_back.Goals as goal

pub part_between-requires : goal.part_between-requires
part_between-requires c =
    let t = c.loop-k in
    (part_here c.requires (t.k - 1) t.values _ _ (omega arith) c.side_after.ensures c.side_after-in-loop-k.ensures).fits

pub level_back-requires : goal.level_back-requires
level_back-requires c =
    let t = c.loop-k in
    let ea = c.side_after.ensures in
    let ed = c.side_after-in-loop-k.ensures in
    let look = c.part_between in
    level_room largest c.requires (t.k - 1) _ _ _ _ (omega arith) (omega arith) ea ed
    (look_small (order_of c.args.form.first) c.requires (t.k - 1) (omega arith) _ (at t.values) (one_more (t.k - 1) (omega arith) t.invariant) _ _ ea ed _ look.ensures (subst T (sym c.if-not-part_between.false) tt))

pub loop-k-preserved : goal.loop-k-preserved
loop-k-preserved c =
    let t = c.loop-k in
    let ea = c.side_after.ensures in
    let ed = c.side_after-in-loop-k.ensures in
    back_more _ _ (order_of c.args.form.first) _ (t.k - 1) _ (at t.values) _ (one_more (t.k - 1) (omega arith) t.invariant)
    (c.level_back.ensures ∙ (λ u. level_inverse (order_of c.args.form.first) c.args.form.w (ea u) (ed u) (at t.values)))

pub returns-then-not-part_between : goal.returns-then-not-part_between
returns-then-not-part_between c =
    let t = c.loop-k in
    look_large (order_of c.args.form.first) c.requires (t.k - 1) (omega arith) _ _ (one_more (t.k - 1) (omega arith) t.invariant) _ _ c.side_after.ensures c.side_after-in-loop-k.ensures _ c.part_between.ensures c.if-not-part_between.true

pub returns : goal.returns
returns c =
    let a = c.args in
    let e : c.loop-k.k ≡ 0 = omega arith in
    back_all (order_of a.form.first) _ _ _ _ _ (subst (λ (k : ℕ). BackLeft (order_of a.form.first) a.form.levels a.form.w a.form.h k (at a.values.now) (at c.loop-k.values)) e c.loop-k.invariant)

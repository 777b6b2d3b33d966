-- `inverse_lifting::single_line` meets its contract. The loop's invariant: the first j columns are done.
use mathlib.Core.Path.{◌≡◌, refl, sym, ap, subst, ◌∙◌}
use Prim.Native.Nat.{◌≤◌}
use native.Mathlib.Omega.{arith}
use lib.Dec.{lit≤}
use lib.IntN.{ℤ, pos, nat_abs}
use lib.ListN.{length-set}
use Rattle.slices.specs.Patch.{at, patch_none, patch_set, patch_to}
use Rattle.inverse_lifting.specs.Fixed.{limit}
use Rattle.inverse_lifting.specs.Stages.{scaled_by, read, size_read, again}
use Rattle.inverse_lifting.specs.Single.{at_one, scaled_one}
use Rattle.inverse_lifting.specs.Strips.{source, single_now}
use Rattle.inverse_lifting.proofs.single_line.Goals as goal

pub single_low-requires : goal.single_low-requires
single_low-requires c =
    let q = c.requires.lies.0 in
    (omega (arith, q.in_plane 0 (omega arith)), omega (arith, q.in_work 0 (omega arith)))

pub scaled-requires : goal.scaled-requires
scaled-requires c =
    let low : let a = c.args in c.single_low.result ≡ source a.a 1 (at a.plane.now) (at a.work.now) c.loop-j.j 0 =
    let a = c.args in
    c.single_low.ensures ∙ single_now a.a a.lowbits c.loop-j.j (at a.plane.now) (at a.work.now) _ c.loop-j.invariant.2 in
    let size : nat_abs c.single_low.result ≤ limit =
    subst (λ (v : ℤ). nat_abs v ≤ limit) (sym low) (c.requires.by_index c.loop-j.j (omega arith)) in
    (size_read c.single_low.result size, lit≤ tt, omega (arith, c.requires.lies.1))

pub loop-j-preserved : goal.loop-j-preserved
loop-j-preserved c =
    let low : let a = c.args in c.single_low.result ≡ source a.a 1 (at a.plane.now) (at a.work.now) c.loop-j.j 0 =
    let a = c.args in
    c.single_low.ensures ∙ single_now a.a a.lowbits c.loop-j.j (at a.plane.now) (at a.work.now) _ c.loop-j.invariant.2 in
    let size : nat_abs c.single_low.result ≤ limit =
    subst (λ (v : ℤ). nat_abs v ≤ limit) (sym low) (c.requires.by_index c.loop-j.j (omega arith)) in
    let t = c.loop-j in
    let a = c.args in (
      omega arith,
      simp length-set t.invariant.1,
      patch_set _ t.j _ _ t.work (pos 0) t.invariant.2 (omega (arith, c.requires.lies.0.in_work 0 (omega arith))) _
          (again c.scaled.result c.scaled.type_inv ∙ c.scaled.ensures ∙ ap (scaled_by at_one a.lowbits) (read c.single_low.result size ∙ low) ∙ scaled_one a.lowbits _ c.requires.lies.1),
    )

pub returns : goal.returns
returns c = patch_to _ _ _ _ _ _ c.loop-j.invariant.2 (omega arith)

pub loop-j-init : goal.loop-j-init
loop-j-init c = (omega arith, refl, patch_none _ 0 _ _ refl)

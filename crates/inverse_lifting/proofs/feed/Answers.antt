-- `inverse_lifting::feed` meets its contract: past the last low nothing is done; else the low comes from the plane or from the work area.
use Rattle.std.specs.Prelude.{◌≡◌, List, ℕ, ◌+◌, ◌*◌, ◌<◌, ◌≤◌, ℤ, pos, length, take, drop}
use Rattle.std.proofs.Common.{ap, ◌∙◌, arith, get_or-take, get_or-drop, length-take-le, length-drop}
use Rattle.slices.specs.Patch.{at, patch_in}
use Rattle.inverse_lifting.specs.Strips.{fed_stored, fed_left}
use Rattle.inverse_lifting.proofs.feed.Goals as goal

-- a part of the plane
part_at : (plane low : List ℤ) (t n w j : ℕ) → t + w ≤ length plane → n ≡ w → ((k : ℕ) → k < length (take n (drop t plane)) → at low k ≡ at (take n (drop t plane)) k) → j < w → at low j ≡ at plane (t + j)
part_at plane low t n w j fits e same h =
    let long : length (take n (drop t plane)) ≡ n = length-take-le n (drop t plane) (omega (arith, length-drop t plane)) in
    same j (omega arith) ∙ get_or-take n (drop t plane) j (pos 0) (omega arith) ∙ get_or-drop t plane j (pos 0)

pub returns-then-s : goal.returns-then-s
returns-then-s c =
    let a = c.args in
    fed_stored a.plane.now a.work.now a.next.now _ a.s.place a.s.size a.i (omega arith) c.if-s.true
    (λ j h. part_at a.plane.now _ (a.s.place.from + a.i * a.s.place.width) _ a.s.size.columns j (c.requires.0.in_plane a.i (omega arith)) (omega arith) c.load.ensures h)

pub returns : goal.returns
returns c =
    let a = c.args in
    fed_left a.plane.now a.work.now a.next.now _ a.s.place a.s.size a.i (omega arith) c.if-s.false
    (λ j h. let e : j ≡ 0 + j = omega arith in ap (at c.copy_run.new.dst) e ∙ ap (λ (f : ℕ → ℤ). f (0 + j)) (c.copy_run.ensures (pos 0)) ∙ patch_in 0 a.s.size.columns _ (at a.next.now) j h)

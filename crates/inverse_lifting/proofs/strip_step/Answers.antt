-- `inverse_lifting::strip_step` meets its contract: the first and the last steps go by way of `line`, the others write at once.
use Rattle.std.specs.Prelude.{◌≡◌, refl, List, ℕ, ◌+◌, ◌*◌, ◌-◌, ◌/◌, ◌<◌, ◌≤◌, ℤ, length, take, drop}
use Rattle.std.proofs.Common.{sym, ap, subst, ◌∙◌, arith, length-drop}
use borrow.Author.Rules.{rules}
use Rattle.numbers.specs.Lists.{rest_whole}
use Rattle.inverse_lifting.specs.Strips.{even_place, PlaneStep}
use Rattle.inverse_lifting.specs.StripSteps.{part_from, odd_fits, inner_step_lem, inner_stepped}
use Rattle.inverse_lifting.proofs.strip_step.Goals as goal

-- the plane from the step's high on
from_high : (p : List ℤ) (from width low k high t : ℕ) → t ≡ from + (low + k) * width → k ≡ high → take (length p - t) (drop t p) ≡ drop (from + (low + high) * width) p
from_high p from width low k high t e f = rest_whole t p ∙ ap (λ (n : ℕ). drop n p) e ∙ ap (λ (m : ℕ). drop (from + (low + m) * width) p) f

-- the step's high stands there
there : (from width low k high w n : ℕ) → k ≡ high → from + (low + high) * width + w ≤ n → from + (low + k) * width ≤ n
there from width low k high w n e h = omega (arith, ap (λ (m : ℕ). from + (low + m) * width) e)

pub overflow_mul-high : goal.overflow_mul-high
overflow_mul-high c = let s = c.args in omega (arith, there s.s.place.from s.s.place.width ((s.s.size.lines + 1) / 2) c.min.result _ _ (length s.plane.now) c.min.ensures c.requires.1)

pub overflow_add-high-3 : goal.overflow_add-high-3
overflow_add-high-3 c = let s = c.args in omega (arith, there s.s.place.from s.s.place.width ((s.s.size.lines + 1) / 2) c.min.result _ _ (length s.plane.now) c.min.ensures c.requires.1)

pub offset_bounds-plane-s : goal.offset_bounds-plane-s
offset_bounds-plane-s c = let s = c.args in omega (arith, there s.s.place.from s.s.place.width ((s.s.size.lines + 1) / 2) c.min.result _ _ (length s.plane.now) c.min.ensures c.requires.1)

pub slice_bounds-high-count : goal.slice_bounds-high-count
slice_bounds-high-count c = let s = c.args in there s.s.place.from s.s.place.width ((s.s.size.lines + 1) / 2) c.min.result _ _ (length s.plane.now) c.min.ensures c.requires.1

pub slice_bounds-high-start : goal.slice_bounds-high-start
slice_bounds-high-start c = let s = c.args in let h = there s.s.place.from s.s.place.width ((s.s.size.lines + 1) / 2) c.min.result _ _ (length s.plane.now) c.min.ensures c.requires.1 in search rules

pub outer_step-requires : goal.outer_step-requires
outer_step-requires c =
    let s = c.args in
    let is = from_high s.plane.now s.s.place.from s.s.place.width ((s.s.size.lines + 1) / 2) c.min.result _ _ refl c.min.ensures in
    subst (λ (l : List ℤ). PlaneStep l s.low.now s.held.now (length s.work.now) (length s.line.now) s.s.place s.s.size s.i) (sym is) c.requires.0

pub middle_step-requires : goal.middle_step-requires
middle_step-requires c =
    let s = c.args in
    let is = from_high s.plane.now s.s.place.from s.s.place.width ((s.s.size.lines + 1) / 2) c.min.result _ _ refl c.min.ensures in
    let two : 2 ≤ s.i = c.if-i-lt2.false in
    let among : s.i < s.s.size.lines / 2 = c.if-highs-i.false in
    let long : length (part_from (even_place s.s.place s.i) s.work.now) ≡ length s.work.now - even_place s.s.place s.i =
    ap length (rest_whole (even_place s.s.place s.i) s.work.now) ∙ length-drop (even_place s.s.place s.i) s.work.now in
    let fits = odd_fits c.requires.0.placed s.i (omega arith) in (
      inner_step_lem (subst (λ (l : List ℤ). PlaneStep l s.low.now s.held.now (length s.work.now) (length s.line.now) s.s.place s.s.size s.i) (sym is) c.requires.0)
          _ _ (omega (arith, c.requires.0.placed.narrow)) (omega arith) two among,
      omega arith,
    )

pub returns : goal.returns
returns c =
    let s = c.args in
    let is = from_high s.plane.now s.s.place.from s.s.place.width ((s.s.size.lines + 1) / 2) c.min.result _ _ refl c.min.ensures in
    let two : 2 ≤ s.i = c.if-i-lt2.false in
    let among : s.i < s.s.size.lines / 2 = c.if-highs-i.false in
    inner_stepped _ s.work.now s.s.place is two (omega arith) (omega (arith, odd_fits c.requires.0.placed s.i (omega arith))) (omega (arith, c.requires.0.placed.narrow)) c.middle_step.auto.lines c.middle_step.ensures

-- The order of refusals in the way back, step by step.
use Rattle.std.specs.Prelude.{List, ℤ, length, ℕ, ◌*◌, Bool, true, false, ◌≡◌, [], not}
use Rattle.std.proofs.Math.Path.{sym, ap}
use Rattle.std.proofs.Common.{◌∙◌, subst}
use Rattle.refusals.specs.Answers.{Reason, Answer, refused, passed, asks, ◌then◌}
use Rattle.refusals.specs.AnswerLaws.{then_right, then_refused, answered_done, answered_refused}
use Rattle.slices.specs.Fronts.{zeroed}
use Rattle.pictures.specs.PictureLaws.{room_answer}
use Rattle.reversible.specs.Reversible.{Order}
use Rattle.reversible.specs.Calls.{limit_answer, has_picture, back_allowed, back_answer, back_pixels, back_work}
use Rattle.reversible_back.specs.FoundLaws.{TakenBack}
use Rattle.std.proofs.Math.Dec.{T}

module _ (order : Order) (B L w h : ℕ) (plane : List ℤ) (pixels : List ℕ) (work : List ℤ) where
  abbrev may : Answer Unit
  may = limit_answer B L then room_answer w h (length pixels) (length plane) (length work)

  -- the call's answer, and what it leaves in the pixels and in the work area
  abbrev pub Backed : Answer Unit → List ℕ → List ℤ → Type 0
  Backed o p q = (o ≡ back_answer order B L w h plane pixels work) × ((p ≡ back_pixels order B L w h plane pixels work) × (q ≡ back_work B L w h plane pixels work))

  pub back_not_allowed : (r : Reason) → may ≡ refused r → Backed (refused r) pixels work
  unfolding back_answer back_pixels back_work back_allowed
  back_not_allowed r e =
      let d : back_answer order B L w h plane pixels work ≡ refused r = then_refused may _ r e in
      (sym d, (sym (answered_refused _ pixels d), sym (answered_refused _ work e)))

  module _ (e : may ≡ passed) (p : List ℕ) (q : List ℤ) (cleared : q ≡ zeroed (w * h) work) where
    last : back_answer order B L w h plane pixels work ≡ asks (has_picture order B L w h plane) 11 passed
    unfolding back_answer back_allowed
    last = then_right may _ e

    zero_work : q ≡ back_work B L w h plane pixels work
    unfolding back_work back_allowed
    zero_work = cleared ∙ sym (answered_done _ work e)

    pub backed : (r : Bool) → r ≡ has_picture order B L w h plane → TakenBack order B L w h plane pixels p r → Backed (asks (has_picture order B L w h plane) 11 passed) p q
    unfolding back_pixels
    backed true e b = (sym last, (b.written tt ∙ sym (answered_done _ pixels (last ∙ ap (λ (t : Bool). asks t 11 passed) (sym e))), zero_work))
    backed false e b = (sym last, (b.kept tt ∙ sym (answered_refused _ pixels (last ∙ ap (λ (t : Bool). asks t 11 passed) (sym e))), zero_work))

    pub back_done : (r : Bool) → TakenBack order B L w h plane pixels p r → r ≡ true → Backed passed p q
    unfolding back_pixels
    back_done r b t =
        let d = last ∙ ap (λ (t : Bool). asks t 11 passed) (sym b.answer ∙ t) in
        (sym d, (b.written (subst T (sym t) tt) ∙ sym (answered_done _ pixels d), zero_work))

    pub back_none : (r : Bool) → TakenBack order B L w h plane pixels p r → r ≡ false → Backed (refused (11, [])) p q
    unfolding back_pixels
    back_none r b t =
        let d = last ∙ ap (λ (t : Bool). asks t 11 passed) (sym b.answer ∙ t) in
        (sym d, (b.kept (subst (λ (t : Bool). T (not t)) (sym t) tt) ∙ sym (answered_refused _ pixels d), zero_work))

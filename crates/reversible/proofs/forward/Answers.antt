-- `reversible::forward` meets its contract: the refusals in their order, then the transform.
use mathlib.Core.Path.{sym, ◌∙◌, ap}
use Rattle.std.proofs.Common.{◌≡◌, rules}
use Rattle.refusals.specs.Answers.{refused}
use Rattle.refusals.specs.Told.{told, told_refusal}
use lib.ListN.{length}
use Rattle.reversible.specs.AnswerLaws.{allowed_room, forward_not_allowed, forward_pixel, forward_done, forward_room}
use Rattle.reversible.proofs.forward.Goals as goal

pub pixels_right-requires : goal.pixels_right-requires
pixels_right-requires c =
    let s = c.args in
    let r = allowed_room s.depth s.levels s.w s.h (length s.pixels.now) (length s.plane.now) (length s.work.now) (sym c.allowed.ensures ∙ ap told c.in_ok-allowed.was) in
    (r.depth.1, r.room.wide.1, r.room.tall.1, r.room.first)

pub transform-requires : goal.transform-requires
transform-requires c =
    let s = c.args in
    forward_room s.depth s.levels s.w s.h s.pixels.now s.plane.now s.work.now
    (sym c.allowed.ensures ∙ ap told c.in_ok-allowed.was)
    (sym c.pixels_right.ensures ∙ ap told c.in_ok-pixels_right.was)

pub returns-in_err-allowed : goal.returns-in_err-allowed
returns-in_err-allowed c =
    let s = c.args in
    let e : told c.from_residual.result ≡ refused (told_refusal c.in_err-allowed.field-0.0) = search rules in
    let r = forward_not_allowed s.depth s.levels s.w s.h s.pixels.now s.plane.now s.work.now _ (sym c.allowed.ensures ∙ ap told c.in_err-allowed.was) in
    record { answer = e ∙ r.0; plane = r.1.0; work = r.1.1 }

pub returns-in_err-pixels_right : goal.returns-in_err-pixels_right
returns-in_err-pixels_right c =
    let s = c.args in
    let e : told c.from_residual-in_err-pixels_right.result ≡ refused (told_refusal c.in_err-pixels_right.field-0.0) = search rules in
    let r =
    forward_pixel s.depth s.levels s.w s.h s.pixels.now s.plane.now s.work.now _
    (sym c.allowed.ensures ∙ ap told c.in_ok-allowed.was)
    (sym c.pixels_right.ensures ∙ ap told c.in_err-pixels_right.was) in
    record { answer = e ∙ r.0; plane = r.1.0; work = r.1.1 }

pub returns : goal.returns
returns c =
    let s = c.args in
    let r =
    forward_done s.depth s.levels s.w s.h s.pixels.now s.plane.now s.work.now
    (sym c.allowed.ensures ∙ ap told c.in_ok-allowed.was)
    (sym c.pixels_right.ensures ∙ ap told c.in_ok-pixels_right.was)
    _ _ c.transform.ensures.plane c.transform.ensures.work in
    record { answer = r.0; plane = r.1.0; work = r.1.1 }

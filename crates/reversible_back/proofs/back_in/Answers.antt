-- `reversible_back::back_in` meets its contract: the refusals in their order, then the way back.
use mathlib.Core.Path.{◌≡◌, refl, sym, ◌∙◌, ap}
use lib.ListN.{length}
use Rattle.std.proofs.Common.{rules}
use Rattle.refusals.specs.Answers.{refused}
use Rattle.refusals.specs.Told.{told, told_refusal}
use Rattle.reversible_back.specs.Orders.{order_of}
use Rattle.reversible.specs.AnswerLaws.{allowed_room}
use Rattle.reversible_back.specs.AnswerLaws.{back_not_allowed, backed}
use Rattle.reversible_back.proofs.back_in.Goals as goal

pub take_back-requires : goal.take_back-requires
take_back-requires c =
    let s = c.args in
    let f = c.args.form in
    allowed_room f.depth f.levels f.w f.h (length s.pixels.now) (length s.plane.now) (length s.work.now)
    (sym c.allowed.ensures ∙ ap told c.in_ok-allowed.was)

pub returns-in_err-allowed : goal.returns-in_err-allowed
returns-in_err-allowed c =
    let s = c.args in
    let f = c.args.form in
    let e : told c.from_residual.result ≡ refused (told_refusal c.in_err-allowed.field-0.0) = search rules in
    let r = back_not_allowed (order_of f.first) f.depth f.levels f.w f.h s.plane.now s.pixels.now s.work.now _ (sym c.allowed.ensures ∙ ap told c.in_err-allowed.was) in
    record { answer = e ∙ r.0; pixels = r.1.0; work = r.1.1 }

pub returns : goal.returns
returns c =
    let s = c.args in
    let f = c.args.form in
    let b = c.take_back in
    let r =
    backed (order_of f.first) f.depth f.levels f.w f.h s.plane.now s.pixels.now s.work.now
    (sym c.allowed.ensures ∙ ap told c.in_ok-allowed.was)
    _ _ b.ensures.work_after _ refl b.ensures.taken_back in
    record { answer = b.ensures.answer ∙ r.0; pixels = r.1.0; work = r.1.1 }

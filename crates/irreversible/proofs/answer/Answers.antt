use mathlib.Core.Path.{sym, ◌∙◌, ap}
use Rattle.refusals.specs.Answers.{refused}
use Rattle.refusals.specs.Told.{told, told_refusal}
use Rattle.std.proofs.Common.{rules, ◌≡◌}
use lib.ListN.{length}
use Rattle.refusals.specs.AnswerLaws.{then_right, then_refused}
use Rattle.pictures.specs.PictureLaws.{room_answer, sized_then, sized_done}
use Rattle.precision.specs.Verdict.{verdict}
use Rattle.width_table.specs.Limits.{form_depth}
use Rattle.precision.specs.Promise.{promise}
use Rattle.irreversible.specs.Calls.{fixed_answer_of}
use Rattle.irreversible.proofs.answer.Goals as goal

pub pixels_right-requires : goal.pixels_right-requires
pixels_right-requires c =
    let a = c.args in
    let ok = promise a.table (sym c.judge.ensures ∙ ap told c.in_ok-judge.was) in
    let room = sized_done a.w a.h (length a.pixels.now) a.second a.third (sym c.room_right.ensures ∙ ap told c.in_ok-room_right.was) in
    ((form_depth a.table ok.form).1, room.wide.1, room.tall.1, room.first)

pub returns-in_err-judge : goal.returns-in_err-judge
unfolding fixed_answer_of
returns-in_err-judge c =
    let a = c.args in
    let e : told c.from_residual.result ≡ refused (told_refusal c.in_err-judge.field-0.0) = search rules in
    e ∙ sym (then_refused (verdict a.table) _ _ (sym c.judge.ensures ∙ ap told c.in_err-judge.was))

pub returns-in_err-room_right : goal.returns-in_err-room_right
unfolding fixed_answer_of
returns-in_err-room_right c =
    let a = c.args in
    let e : told c.from_residual-in_err-room_right.result ≡ refused (told_refusal c.in_err-room_right.field-0.0) = search rules in
    e ∙ sym (then_right (verdict a.table) _ (sym c.judge.ensures ∙ ap told c.in_ok-judge.was)
    ∙ sized_then a.w a.h (length a.pixels.now) a.second a.third _
    ∙ then_refused (room_answer a.w a.h (length a.pixels.now) a.second a.third) _ _ (sym c.room_right.ensures ∙ ap told c.in_err-room_right.was))

pub returns : goal.returns
unfolding fixed_answer_of
returns c =
    let a = c.args in
    c.pixels_right.ensures
    ∙ sym (then_right (verdict a.table) _ (sym c.judge.ensures ∙ ap told c.in_ok-judge.was)
    ∙ sized_then a.w a.h (length a.pixels.now) a.second a.third _
    ∙ then_right (room_answer a.w a.h (length a.pixels.now) a.second a.third) _ (sym c.room_right.ensures ∙ ap told c.in_ok-room_right.was))

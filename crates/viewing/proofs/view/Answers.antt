-- `viewing::view` meets its contract: the answer, then the picture.
use mathlib.Core.Path.{◌≡◌, sym, ◌∙◌, ap}
use native.Mathlib.Omega.{arith}
use Rattle.refusals.specs.Answers.{passed, refused}
use Rattle.refusals.specs.Told.{told, told_refusal}
use Rattle.std.proofs.Common.{rules}
use Rattle.viewing.specs.Calls.{view_answer}
use Rattle.viewing.proofs.CallLaws.{call_room}
use Rattle.viewing.proofs.CallStepLaws.{pixels_kept, work_kept, pixels_done, work_done, view_ready}
use Rattle.viewing.proofs.view.Goals as goal

pub show-requires : goal.show-requires
show-requires c =
    let done : let a = c.args in view_answer a.table a.w a.h a.plane.now a.pixels.now a.work.now ≡ passed =
    let a = c.args in
    sym c.answer.ensures ∙ ap told c.in_ok-answer.was in
    let a = c.args in
    (view_ready a.table a.w a.h a.plane.now a.pixels.now a.work.now done _ _ (omega arith) (omega arith) (omega arith), (call_room a.table a.w a.h a.plane.now a.pixels.now a.work.now done).first)

pub returns-in_err-answer : goal.returns-in_err-answer
returns-in_err-answer c =
    let a = c.args in
    let e = sym c.answer.ensures ∙ ap told c.in_err-answer.was in
    let told_err : told c.from_residual.result ≡ refused (told_refusal c.in_err-answer.field-0.0) = search rules in
    record {
      answer = told_err ∙ sym e;
      pixels = pixels_kept a.table a.w a.h a.plane.now a.pixels.now a.work.now e;
      work = work_kept a.table a.w a.h a.plane.now a.pixels.now a.work.now e;
    }

pub returns : goal.returns
returns c =
    let done : let a = c.args in view_answer a.table a.w a.h a.plane.now a.pixels.now a.work.now ≡ passed =
    let a = c.args in
    sym c.answer.ensures ∙ ap told c.in_ok-answer.was in
    let a = c.args in record {
      answer = sym done;
      pixels = c.show.ensures.pixels ∙ pixels_done a.table a.w a.h a.plane.now a.pixels.now a.work.now done;
      work = c.show.ensures.work ∙ work_done a.table a.w a.h a.plane.now a.pixels.now a.work.now done;
    }

use mathlib.Core.Path.{◌≡◌, sym, ◌∙◌, ap}
use Rattle.refusals.specs.Answers.{refused}
use Rattle.refusals.specs.Told.{told, told_refusal}
use Rattle.std.proofs.Common.{rules}
use Prim.Native.Nat.{◌*◌}
use native.Mathlib.Omega.{arith}
use lib.ListN.{length, drop, length-append, length-drop}
use lib.Seq.{length-take-le}
use Rattle.irreversible.specs.CallLaws.{room}
use Rattle.irreversible.specs.CallSteps.{plane_kept, work_kept, plane_done, work_done, ready}
use Rattle.slices.specs.FrontLaws.{zeroed_part}
use Rattle.irreversible.proofs.forward.Goals as goal

pub overflow_mul-n : goal.overflow_mul-n
overflow_mul-n c =
    let a = c.args in
    omega (arith, (room a.table a.w a.h a.pixels.now a.plane.now a.work.now (sym c.answer.ensures ∙ ap told c.in_ok-answer.was)).third)

pub slice_bounds-transform-end : goal.slice_bounds-transform-end
slice_bounds-transform-end c =
    let a = c.args in
    (room a.table a.w a.h a.pixels.now a.plane.now a.work.now (sym c.answer.ensures ∙ ap told c.in_ok-answer.was)).third

pub transform-requires : goal.transform-requires
transform-requires c =
    let a = c.args in
    ready a.table a.w a.h a.pixels.now a.plane.now a.work.now (sym c.answer.ensures ∙ ap told c.in_ok-answer.was)

pub clear-requires : goal.clear-requires
clear-requires c =
    let a = c.args in
    let r = room a.table a.w a.h a.pixels.now a.plane.now a.work.now (sym c.answer.ensures ∙ ap told c.in_ok-answer.was) in
    let long = length-take-le (a.w * a.h) a.work.now r.third in
    omega (arith, r.second, long, length-append c.transform.new.buffer (drop (a.w * a.h) a.work.now))

pub returns-in_err-answer : goal.returns-in_err-answer
returns-in_err-answer c =
    let a = c.args in
    let e = sym c.answer.ensures ∙ ap told c.in_err-answer.was in
    let told_err : told c.from_residual.result ≡ refused (told_refusal c.in_err-answer.field-0.0) = search rules in
    record {
      answer = told_err ∙ sym e;
      plane = plane_kept a.table a.w a.h a.pixels.now a.plane.now a.work.now e;
      work = work_kept a.table a.w a.h a.pixels.now a.plane.now a.work.now e;
    }

pub returns : goal.returns
returns c =
    let a = c.args in
    let done = sym c.answer.ensures ∙ ap told c.in_ok-answer.was in
    let long = length-take-le (a.w * a.h) a.work.now (room a.table a.w a.h a.pixels.now a.plane.now a.work.now done).third in
    -- the line buffer keeps its length
    let buffer : length c.transform.new.buffer ≡ a.w * a.h = omega (arith, long) in
    record {
      answer = sym done;
      plane = c.transform.ensures ∙ plane_done a.table a.w a.h a.pixels.now a.plane.now a.work.now done;
      work = c.clear.ensures ∙ zeroed_part (a.w * a.h) c.transform.new.buffer a.work.now buffer ∙ work_done a.table a.w a.h a.pixels.now a.plane.now a.work.now done;
    }

pub shape_of-work : goal.shape_of-work
shape_of-work c =
    let a = c.args in
    let n = a.w * a.h in
    let third = (room a.table a.w a.h a.pixels.now a.plane.now a.work.now (sym c.answer.ensures ∙ ap told c.in_ok-answer.was)).third in
    omega (arith, length-take-le n a.work.now third, length-append c.transform.new.buffer (drop n a.work.now), length-drop n a.work.now, third)

pub slice_bounds-transform-end-2 : goal.slice_bounds-transform-end-2
slice_bounds-transform-end-2 c =
    let a = c.args in
    sym (length-take-le (a.w * a.h) a.work.now (room a.table a.w a.h a.pixels.now a.plane.now a.work.now (sym c.answer.ensures ∙ ap told c.in_ok-answer.was)).third)

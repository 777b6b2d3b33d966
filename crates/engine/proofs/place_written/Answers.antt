use Rattle.std.proofs.Common.{rules, ◌≡◌, sym, ◌∙◌, ap, arith}
use Rattle.refusals.specs.Answers.{refused}
use Rattle.refusals.specs.Told.{told_refusal, told}
use Rattle.table_bytes.specs.NameLaws.{valued}
use Rattle.engine.specs.AnswerLaws.{name_refused, name_found}
use Rattle.engine.proofs.place_written.Goals as goal

pub returns-in_err-from : goal.returns-in_err-from
returns-in_err-from c =
    let a = c.args in
    let e : told c.from_residual.result ≡ refused (told_refusal c.in_err-from.field-0.0) = search rules in
    let g = name_refused a.table.now a.tag a.start.now a.length.now _ (sym c.value_place.ensures ∙ ap told c.in_err-from.was) in
    record { answer = e ∙ sym g.answers; start = g.leaves_start; length = g.leaves_length }

pub overflow_cast-start : goal.overflow_cast-start
overflow_cast-start c =
    let a = c.args in
    omega (arith, (valued a.table.now a.tag _ _ (sym c.value_place.ensures ∙ ap told c.in_ok-from.was)).small)

pub overflow_cast-length : goal.overflow_cast-length
overflow_cast-length c =
    let a = c.args in
    omega (arith, (valued a.table.now a.tag _ _ (sym c.value_place.ensures ∙ ap told c.in_ok-from.was)).small)

pub returns : goal.returns
returns c =
    let a = c.args in
    let g = name_found a.table.now a.tag a.start.now a.length.now _ _ (sym c.value_place.ensures ∙ ap told c.in_ok-from.was) in
    record { answer = sym g.answers; start = g.leaves_start; length = g.leaves_length }

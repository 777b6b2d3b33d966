use Rattle.std.proofs.Common.{◌≡◌, length, arith}
use Rattle.std.proofs.lemmas.Bool.Decides.{nat_tests}
use Rattle.std.proofs.Common.{rules}
use mathlib.Core.Path.{◌≡◌, sym, ◌∙◌, ap}
use mathlib.Core.List.{[]}
use native.Mathlib.Omega.{arith}
use Rattle.table_bytes.specs.Bytes.{form_by}
use Rattle.table_bytes.specs.ReadLaws.{next_read, next_refused, nothing_after, other_after, five_after}
use Rattle.table_bytes.proofs.after_fourth.Goals as goal

pub returns-then-is_empty : goal.returns-then-is_empty
returns-then-is_empty c =
    let none : length c.args.bytes.now ≡ 0 = grind (arith, nat_tests) in
    sym (nothing_after c.args.levels c.args.bytes.now none)

pub returns-then-bytes-ne-PRODUCTS_TAG : goal.returns-then-bytes-ne-PRODUCTS_TAG
returns-then-bytes-ne-PRODUCTS_TAG c =
    let s = c.args in
    let some : length s.bytes.now ≡ 0 → ⊥ = grind (arith, nat_tests) in
    sym (other_after s.levels s.bytes.now some c.if-bytes-ne-PRODUCTS_TAG.true)

pub returns-in_err-field : goal.returns-in_err-field
returns-in_err-field c =
    let s = c.args in
    let r = five_after s.levels s.bytes.now c.if-bytes-ne-PRODUCTS_TAG.false ∙ next_refused _ s.bytes.now [] _ (sym c.in_err-field.ensures.answer) in
    search rules

pub returns : goal.returns
returns c =
    let s = c.args in
    sym (five_after s.levels s.bytes.now c.if-bytes-ne-PRODUCTS_TAG.false ∙ next_read _ s.bytes.now [] (sym c.in_ok-field.ensures.answer) ∙ ap (form_by []) (sym c.in_ok-field.ensures.rest) ∙ sym c.ended.ensures)

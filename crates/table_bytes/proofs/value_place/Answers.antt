use Rattle.std.proofs.Common.{ℕ, ◌≡◌, ◌∙◌, sym, ap, true, rules}
use Rattle.refusals.specs.Answers.{done}
use Rattle.refusals.specs.Told.{told}
use Rattle.numbers.specs.Tests.{is_between}
use Rattle.table_bytes.specs.declared.Tag.{Tag}
use Rattle.table_bytes.specs.Fields.{depth_tag, products_tag, tag_right, value_start, value_length}
use Rattle.table_bytes.specs.Names.{naming}
use Rattle.table_bytes.specs.NameLaws.{name_wrong, name_refused, name_lacking, name_right}
use Rattle.table_bytes.specs.Tags.{number_of, is_tag}
use Rattle.table_bytes.proofs.value_place.Goals as goal

named : (tag : Tag) → tag_right (number_of tag) ≡ true
named tag = is_between depth_tag products_tag (number_of tag) (is_tag tag).0 (is_tag tag).1

pub returns-in_err-tag : goal.returns-in_err-tag
returns-in_err-tag c =
    let r = name_wrong c.args.bytes.now c.args.tag c.in_err-tag.ensures.1 in
    search rules

pub returns-in_err-form_of : goal.returns-in_err-form_of
returns-in_err-form_of c =
    let b = c.args.bytes.now in
    let tag = c.in_ok-tag.tag in
    let r = ap (naming b) (sym c.in_ok-tag.ensures) ∙ name_refused b (number_of tag) (named tag) _ (sym c.form_of.ensures ∙ ap told c.in_err-form_of.was) in
    search rules

pub returns-then-not-has_tag : goal.returns-then-not-has_tag
returns-then-not-has_tag c =
    let b = c.args.bytes.now in
    let tag = c.in_ok-tag.tag in
    sym (ap (naming b) (sym c.in_ok-tag.ensures) ∙ name_lacking b (number_of tag) (named tag) (sym c.form_of.ensures ∙ ap told c.in_ok-form_of.was) (sym c.has_tag.ensures ∙ c.if-not-has_tag.true))

pub returns : goal.returns
returns c =
    let b = c.args.bytes.now in
    let tag = c.in_ok-tag.tag in
    (λ u. done (c.value_start.ensures u, c.value_length.ensures u))
    ∙ ap (λ (L : ℕ). done (value_start L (number_of tag), value_length L (number_of tag))) c.levels_in-levels.ensures
    ∙ sym (ap (naming b) (sym c.in_ok-tag.ensures) ∙ name_right b (number_of tag) (named tag) (sym c.form_of.ensures ∙ ap told c.in_ok-form_of.was) (sym c.has_tag.ensures ∙ c.if-not-has_tag.false))

use Rattle.std.proofs.Common.{ℕ, ◌+◌, ◌-◌, ◌≤◌, ◌≡◌, ◌∙◌, sym, ap, true, List, drop, arith, rules}
use Rattle.refusals.specs.Answers.{passed}
use Rattle.table_bytes.specs.declared.Tag.{Tag}
use Rattle.table_bytes.specs.declared.Tag.TheVariants.{Depth, Levels, Constants, Nodes}
use Rattle.table_bytes.specs.Fields.{nodes_tag, head_bytes, fields, field_of, value_length}
use Rattle.table_bytes.specs.Bytes.{field, levels_in, form, form_after}
use Rattle.table_bytes.specs.Tags.{number_of, is_tag}
use Rattle.table_bytes.specs.ReadLaws.{after_refused, after_read}
use Rattle.table_bytes.proofs.form_of.Goals as goal

-- the form is that of what follows no field yet, and then of what follows the next one
starts : (b : List ℕ) (L : ℕ) → L ≡ levels_in b → form b ≡ form_after L 0 b
unfolding form form_after
starts b L e = ap (λ (L : ℕ). form_after L 0 b) (sym e)

step : (L : ℕ) (tag : Tag) → number_of tag ≤ nodes_tag → (b rest : List ℕ) → passed ≡ field (field_of (fields true L) (number_of tag)) b
    → rest ≡ drop (head_bytes + value_length L (number_of tag)) b → form_after L (number_of tag - 1) b ≡ form_after L (number_of tag) rest
step L tag four b rest e f = after_read L (number_of tag) (is_tag tag) four b (sym e) ∙ ap (form_after L (number_of tag)) (sym f)

pub returns-in_err-after_depth : goal.returns-in_err-after_depth
returns-in_err-after_depth c =
    let b = c.args.bytes.now in
    let L = c.levels_in-levels.result in
    let r = starts b L c.levels_in-levels.ensures ∙ after_refused L 1 (is_tag Depth) (omega arith) b _ (sym c.in_err-after_depth.ensures.answer) in
    search rules

pub returns-in_err-after_levels : goal.returns-in_err-after_levels
returns-in_err-after_levels c =
    let b = c.args.bytes.now in
    let L = c.levels_in-levels.result in
    let d = c.in_ok-after_depth.ensures in
    let r = starts b L c.levels_in-levels.ensures ∙ step L Depth (omega arith) b _ d.answer d.rest ∙ after_refused L 2 (is_tag Levels) (omega arith) _ _ (sym c.in_err-after_levels.ensures.answer) in
    search rules

pub returns-in_err-after_constants : goal.returns-in_err-after_constants
returns-in_err-after_constants c =
    let b = c.args.bytes.now in
    let L = c.levels_in-levels.result in
    let d = c.in_ok-after_depth.ensures in
    let l = c.in_ok-after_levels.ensures in
    let r = starts b L c.levels_in-levels.ensures ∙ step L Depth (omega arith) b _ d.answer d.rest ∙ step L Levels (omega arith) _ _ l.answer l.rest ∙ after_refused L 3 (is_tag Constants) (omega arith) _ _ (sym c.in_err-after_constants.ensures.answer) in
    search rules

pub returns-in_err-field : goal.returns-in_err-field
returns-in_err-field c =
    let b = c.args.bytes.now in
    let L = c.levels_in-levels.result in
    let d = c.in_ok-after_depth.ensures in
    let l = c.in_ok-after_levels.ensures in
    let k = c.in_ok-after_constants.ensures in
    let r = starts b L c.levels_in-levels.ensures ∙ step L Depth (omega arith) b _ d.answer d.rest ∙ step L Levels (omega arith) _ _ l.answer l.rest ∙ step L Constants (omega arith) _ _ k.answer k.rest ∙ after_refused L 4 (is_tag Nodes) (omega arith) _ _ (sym c.in_err-field.ensures.answer) in
    search rules

pub returns : goal.returns
returns c =
    let b = c.args.bytes.now in
    let L = c.levels_in-levels.result in
    let d = c.in_ok-after_depth.ensures in
    let l = c.in_ok-after_levels.ensures in
    let k = c.in_ok-after_constants.ensures in
    let n = c.in_ok-field.ensures in
    c.after_fourth.ensures ∙ sym (starts b L c.levels_in-levels.ensures ∙ step L Depth (omega arith) b _ d.answer d.rest ∙ step L Levels (omega arith) _ _ l.answer l.rest ∙ step L Constants (omega arith) _ _ k.answer k.rest ∙ step L Nodes (omega arith) _ _ n.answer n.rest)

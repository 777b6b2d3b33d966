use Rattle.std.proofs.Common.{rules}
use Prim.Native.Nat.{ℕ, ◌+◌, ◌-◌, ◌≤◌}
use mathlib.Core.Path.{◌≡◌, sym, ◌∙◌, ap}
use mathlib.Core.Bool.{Bool, true, false}
use mathlib.Core.List.{List}
use native.Mathlib.Omega.{arith}
use lib.ListN.{length, take, drop}
use Rattle.refusals.specs.Answers.{passed, asks}
use Rattle.refusals.specs.Told.{told}
use Rattle.table_bytes.specs.Fields.{IsTag, head_bytes, Field, fields, field_of, value_length}
use Rattle.table_bytes.specs.Bytes.{headed, field}
use Rattle.numbers.specs.Lists.{rest_whole}
use Rattle.table_bytes.specs.Tags.{number_of, is_tag}
use Rattle.table_bytes.specs.ReadLaws.{tag_is, rule_is, head_holds, field_head, field_judged}
use Rattle.table_bytes.proofs.field.Goals as goal

abbrev its : ℕ → ℕ → Field
its levels tag = field_of (fields true levels) tag

module _ (levels tag : ℕ) (h : IsTag tag) (len : ℕ) (e : len ≡ value_length levels tag) (bytes : List ℕ) where
  -- the head is judged by the field's tag and length
  judged : headed tag len bytes ≡ headed (its levels tag).tag (its levels tag).size bytes
  judged = λ u. headed (sym (tag_is levels tag h) u) (e u) bytes

  -- a right head leaves a value that is there
  fits : headed tag len bytes ≡ passed → head_bytes + len ≤ length bytes
  fits done = omega (arith, e, head_holds (its levels tag) bytes (sym judged ∙ done))

  -- the value's rule decides
  decided : headed tag len bytes ≡ passed → (t : Bool) → (field_of (fields true 0) tag).right (take (head_bytes + len - head_bytes) (drop head_bytes bytes)) ≡ t → asks t 4 passed ≡ field (its levels tag) bytes
  decided done t r =
      let part : len ≡ head_bytes + len - head_bytes = omega arith in
      let right = (field_of (fields true 0) tag).right in
      sym (field_judged (its levels tag) bytes (sym judged ∙ done) t (
      (λ u. rule_is levels tag h u (take (sym e u) (drop head_bytes bytes)))
      ∙ ap (λ (k : ℕ). right (take k (drop head_bytes bytes))) part
      ∙ r))

pub returns-in_err-head-clause-answer : goal.returns-in_err-head-clause-answer
returns-in_err-head-clause-answer c =
    let a = c.args in
    let e = c.value_length-len.ensures in
    let r = field_head (its a.levels (number_of a.tag)) a.bytes.now _ (sym (judged a.levels (number_of a.tag) (is_tag a.tag) _ e a.bytes.now) ∙ sym c.head.ensures ∙ ap told c.in_err-head.was) in
    search rules

pub slice_bounds-value_right-end : goal.slice_bounds-value_right-end
slice_bounds-value_right-end c =
    let a = c.args in
    omega (arith, fits a.levels (number_of a.tag) (is_tag a.tag) _ c.value_length-len.ensures a.bytes.now (sym c.head.ensures ∙ ap told c.in_ok-head.was))

pub returns-then-not-value_right-clause-answer : goal.returns-then-not-value_right-clause-answer
returns-then-not-value_right-clause-answer c =
    let a = c.args in
    decided a.levels (number_of a.tag) (is_tag a.tag) _ c.value_length-len.ensures a.bytes.now (sym c.head.ensures ∙ ap told c.in_ok-head.was) false (sym c.value_right.ensures ∙ c.if-not-value_right.true)

pub returns-clause-answer : goal.returns-clause-answer
returns-clause-answer c =
    let a = c.args in
    decided a.levels (number_of a.tag) (is_tag a.tag) _ c.value_length-len.ensures a.bytes.now (sym c.head.ensures ∙ ap told c.in_ok-head.was) true (sym c.value_right.ensures ∙ c.if-not-value_right.false)

pub returns-clause-rest : goal.returns-clause-rest
returns-clause-rest c =
    let b = c.args.bytes.now in
    rest_whole (head_bytes + c.value_length-len.result) b ∙ ap (λ (n : ℕ). drop (head_bytes + n) b) c.value_length-len.ensures

pub slice_bounds-result-count : goal.slice_bounds-result-count
slice_bounds-result-count c =
    let a = c.args in
    omega (arith, fits a.levels (number_of a.tag) (is_tag a.tag) _ c.value_length-len.ensures a.bytes.now (sym c.head.ensures ∙ ap told c.in_ok-head.was))

pub slice_bounds-result-start : goal.slice_bounds-result-start
slice_bounds-result-start c =
    let a = c.args in
    omega (arith, fits a.levels (number_of a.tag) (is_tag a.tag) _ c.value_length-len.ensures a.bytes.now (sym c.head.ensures ∙ ap told c.in_ok-head.was))

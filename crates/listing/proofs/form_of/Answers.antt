-- Each way out is one rule of the form.
use mathlib.Core.Path.{◌≡◌, sym, ◌∙◌, ap}
use mathlib.Core.Bool.{Bool, ◌&&◌}
use mathlib.Core.List.{List}
use Prim.Native.Nat.{ℕ, ◌*◌, ◌≤◌}
use native.Mathlib.Omega.{arith}
use Rattle.std.proofs.Common.{rules}
use Rattle.width_table.specs.Table.{depth_right, levels_right}
use Rattle.refusals.specs.Answers.{Reason, Answer, done, refused, passed, ◌then◌}
use Rattle.refusals.specs.AnswerLaws.{gives_done, gives_refused, then_refused, then_right}
use Rattle.refusals.specs.Told.{told, told_refusal}
use Rattle.pictures.specs.Pictures.{side_answer, length_answer}
use Rattle.listing.specs.declared.Head.{Head}
use Rattle.listing.specs.Listing.{copy_depth, copy_levels, copy_width, copy_height, copy_size, copy_form, head_in, max_pixels}
use Rattle.listing.proofs.InputLaws.{sizes_done, form_short, form_limits, form_size, form_cut, form_long, form_right_lem}
use Rattle.listing.proofs.form_of.Goals as goal

-- what is judged of the head that was read is judged of the input's
module _ (b : List ℕ) (t : Head) (read : t ≡ head_in b) where
  limits : (r : Bool) → r ≡ (depth_right t.depth && levels_right t.levels) → (depth_right (copy_depth b) && levels_right (copy_levels b)) ≡ r
  limits r e = sym (e ∙ ap (λ (t : Head). depth_right t.depth && levels_right t.levels) read)

  abbrev sizes : Head → Answer Unit
  sizes t = side_answer t.w t.h then length_answer (t.w * t.h) max_pixels

  refuses : (o : Answer ℕ) (r : Reason) → o ≡ (sizes t then done (t.w * t.h)) → o ≡ refused r → (side_answer (copy_width b) (copy_height b) then length_answer (copy_size b) max_pixels) ≡ refused r
  refuses o r e p = ap sizes (sym read) ∙ gives_refused (sizes t) (t.w * t.h) r (sym e ∙ p)

  passes : (o : Answer ℕ) (n : ℕ) → o ≡ (sizes t then done (t.w * t.h)) → o ≡ done n → (side_answer (copy_width b) (copy_height b) then length_answer (copy_size b) max_pixels) ≡ passed
  passes o n e p = ap sizes (sym read) ∙ (gives_done (sizes t) (t.w * t.h) (sym e ∙ p)).0

  size : (o : Answer ℕ) (n : ℕ) → o ≡ (sizes t then done (t.w * t.h)) → o ≡ done n → (n ≡ copy_size b) × (copy_size b ≤ max_pixels)
  size o n e p = (sym (gives_done (sizes t) (t.w * t.h) (sym e ∙ p)).1 ∙ ap (λ (t : Head). t.w * t.h) read, (sizes_done b (passes o n e p)).2)

pub returns-then-bytes-lt-HEAD : goal.returns-then-bytes-lt-HEAD
returns-then-bytes-lt-HEAD c = sym (then_refused (copy_form c.args.bytes.now) _ _ (form_short _ (omega arith)))

pub returns-then-not-limits_right : goal.returns-then-not-limits_right
returns-then-not-limits_right c = sym (then_refused (copy_form c.args.bytes.now) _ _ (form_limits _ c.if-bytes-lt-HEAD.false (limits c.args.bytes.now _ c.head_of-head.ensures _ c.limits_right.ensures ∙ c.if-not-limits_right.true)))

pub returns-in_err-n : goal.returns-in_err-n
returns-in_err-n c =
    let h = c.head_of-head.ensures in
    let e : told c.from_residual.result ≡ refused (told_refusal c.in_err-n.field-0.0) = search rules in
    e ∙ sym (then_refused (copy_form c.args.bytes.now) _ _ (form_size _ c.if-bytes-lt-HEAD.false (limits c.args.bytes.now _ h _ c.limits_right.ensures ∙ c.if-not-limits_right.false) _
    (refuses c.args.bytes.now _ h _ _ c.size_right.ensures (ap told c.in_err-n.was))))

pub overflow_mul-n : goal.overflow_mul-n
overflow_mul-n c = omega (arith, size c.args.bytes.now _ c.head_of-head.ensures _ _ c.size_right.ensures (ap told c.in_ok-n.was))

pub returns-then-body-n : goal.returns-then-body-n
returns-then-body-n c =
    let h = c.head_of-head.ensures in
    let given = ap told c.in_ok-n.was in
    sym (then_refused (copy_form c.args.bytes.now) _ _ (form_cut _ c.if-bytes-lt-HEAD.false (limits c.args.bytes.now _ h _ c.limits_right.ensures ∙ c.if-not-limits_right.false) (passes c.args.bytes.now _ h _ _ c.size_right.ensures given)
    (omega (arith, size c.args.bytes.now _ h _ _ c.size_right.ensures given))))

pub returns-then-n-body : goal.returns-then-n-body
returns-then-n-body c =
    let h = c.head_of-head.ensures in
    let given = ap told c.in_ok-n.was in
    sym (then_refused (copy_form c.args.bytes.now) _ _ (form_long _ c.if-bytes-lt-HEAD.false (limits c.args.bytes.now _ h _ c.limits_right.ensures ∙ c.if-not-limits_right.false) (passes c.args.bytes.now _ h _ _ c.size_right.ensures given)
    (omega (arith, size c.args.bytes.now _ h _ _ c.size_right.ensures given))))

pub returns : goal.returns
returns c =
    let h = c.head_of-head.ensures in
    let given = ap told c.in_ok-n.was in
    ap done h ∙ sym (then_right (copy_form c.args.bytes.now) _ (form_right_lem _ c.if-bytes-lt-HEAD.false (limits c.args.bytes.now _ h _ c.limits_right.ensures ∙ c.if-not-limits_right.false) (passes c.args.bytes.now _ h _ _ c.size_right.ensures given)
    (omega (arith, size c.args.bytes.now _ h _ _ c.size_right.ensures given))))

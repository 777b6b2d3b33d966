-- Calls that take a width table as its bytes, by what reading the bytes gave: a refusal, or the table.
use Rattle.std.specs.Prelude.{ℕ, List, ◌≡◌, refl, Result, Ok, Err, IfOk}
use Rattle.std.proofs.Common.{sym, ◌∙◌, ap, subst}
use Rattle.refusals.specs.declared.Refusal.{Refusal}
use Rattle.refusals.specs.Answers.{Answer, done, refused, passed, ◌then◌, answered}
use Rattle.refusals.specs.AnswerLaws.{then_right, then_refused, answered_done, answered_refused}
use Rattle.refusals.specs.Told.{told_refusal, told}
use Rattle.width_table.specs.declared.WidthTable.{WidthTable}
use Rattle.table_bytes.specs.Bytes.{form, table_read, table_in}
use Rattle.table_bytes.specs.ReadLaws.{table_read_lem}
use Rattle.table_calls.specs.Calls.{form_then, after_form}

-- an answer asked twice is asked once
answered_twice : {A : Type 0} (o : Answer Unit) (x none old : A) → answered o (answered o x none) old ≡ answered o x old
answered_twice (done tt) x none old = refl
answered_twice (refused r) x none old = refl

-- what reading promises of its answer and of its table
module _ (bytes : List ℕ) {o : Result WidthTable Refusal} (reads : (told o then passed ≡ form bytes) × IfOk o (λ t. t ≡ table_read bytes)) where
  -- the bytes are refused: so is any call, and what is lent stays as it was
  module _ {why : Refusal} (e : o ≡ Err why) where
    form_refused : form bytes ≡ refused (told_refusal why)
    form_refused = sym reads.0 ∙ ap (λ (r : Result WidthTable Refusal). told r then passed) e

    pub unread : (own : Answer Unit) → refused (told_refusal why) ≡ form bytes then own
    unread own = sym (then_refused (form bytes) own (told_refusal why) form_refused)

    pub unread_leaves : {A : Type 0} (made old : A) → old ≡ answered (form bytes) made old
    unread_leaves made old = sym (answered_refused made old form_refused)

    -- so does what is written only where the whole call is done
    pub unread_if_done : {A : Type 0} (own : Answer Unit) (made old : A) → old ≡ answered (form bytes then own) made old
    unread_if_done own made old = ap (λ (a : Answer Unit). answered a made old) (unread own)

  -- they are read: the call is one with that table
  module _ {held : WidthTable} (e : o ≡ Ok held) where
    pub form_right_lem : form bytes ≡ passed
    form_right_lem = sym reads.0 ∙ ap (λ (r : Result WidthTable Refusal). told r then passed) e

    pub table_held : held ≡ table_in bytes
    table_held = subst (λ (r : Result WidthTable Refusal). IfOk r (λ t. t ≡ table_read bytes)) e reads.1 ∙ table_read_lem bytes form_right_lem

    pub read : (call : WidthTable → Answer Unit) {a : Answer Unit} → a ≡ call held → a ≡ form_then bytes call
    read call q = q ∙ ap call table_held ∙ sym (then_right (form bytes) (call (table_in bytes)) form_right_lem)

    pub read_leaves : {A : Type 0} (made : WidthTable → A) (old : A) {x : A} → x ≡ made held → x ≡ after_form bytes made old
    read_leaves made old q = q ∙ ap made table_held ∙ sym (answered_done (made (table_in bytes)) old form_right_lem)

    -- what is lent is written only where the whole call is done: the call gives what to write, and `none` where it is refused
    pub read_if_done : {A : Type 0} (call : WidthTable → Answer Unit) (made : WidthTable → A) (none old : A) {a : Answer Unit} {x y : A}
        → a ≡ call held → x ≡ answered (call held) (made held) none → y ≡ answered a x old → y ≡ answered (form_then bytes call) (made (table_in bytes)) old
    read_if_done call made none old a-is x-is y-is =
        y-is ∙ (λ i. answered (a-is i) (x-is i) old) ∙ answered_twice (call held) (made held) none old
        ∙ (λ i. answered (read call refl i) (made (table_held i)) old)

-- What the answers of the calls below say of the C interface's.
use Prim.Native.Nat.{ℕ}
use Rattle.std.specs.Prelude.{Bool, true, List, ◌≡◌, leb, length, Result, Ok, Err, IfOk}
use Rattle.std.proofs.Math.Path.{refl, sym, ap, subst}
use Rattle.std.proofs.Common.{◌∙◌, ap₂}
use Rattle.std.proofs.lemmas.Result.{IfOk-at_ok}
use Rattle.numbers.specs.Lists.{over}
use Rattle.refusals.specs.declared.Refusal.{Refusal}
use Rattle.refusals.specs.Answers.{Reason, Answer, done, refused, passed, asks, ◌then◌, answered}
use Rattle.refusals.specs.AnswerLaws.{gives_done, gives_refused, then_right, then_refused, answered_done, answered_refused}
use Rattle.refusals.specs.Told.{told_refusal, told}
use Rattle.width_table.specs.declared.WidthTable.{WidthTable}
use Rattle.width_table.specs.declared.NotChanged.{NotChanged}
use Rattle.width_table.specs.Told.{told_change, table_back}
use Rattle.width_table.specs.Table.{form_right}
use Rattle.table_bytes.specs.Fields.{table_size, value_start, value_length}
use Rattle.table_bytes.specs.Bytes.{levels_in, has_fifth, form, table_in, write_answer, writing, bytes_of_table, bytes_after, table_read}
use Rattle.table_bytes.specs.Names.{name_answer, naming}
use Rattle.width_table.specs.Changes.{width_answer, with_width, table_after_width, constant_answer, with_constant, table_after_constant, product_answer, with_product, table_after_product}
use Rattle.table_bytes.specs.RoundTrip.{read_sized}
use Rattle.width_table.specs.Lists.{FullLists}
use Rattle.width_table.specs.ChangeLaws.{width_form, constant_form, product_form}
use Rattle.table_calls.specs.Calls.{form_then}
use Rattle.table_calls.specs.CallLaws.{unread, unread_if_done, read}
use Rattle.std.specs.Result.{MatchResult}
use Rattle.engine.specs.Answers.{start_after, length_after, new_table_answer, new_table_out, Changed}

-- ---- a tag that is named

module _ (bytes : List ℕ) (tag start len : ℕ) where
  -- what the call gives
  pub record GivesPlace (o : Answer Unit) (s l : ℕ) : Type 0 where
    pub answers : name_answer bytes tag ≡ o
    pub leaves_start : s ≡ start_after bytes tag start
    pub leaves_length : l ≡ length_after bytes tag len

  gives_place : (o : Answer Unit) → name_answer bytes tag ≡ o → GivesPlace o (answered o (value_start (levels_in bytes) tag) start) (answered o (value_length (levels_in bytes) tag) len)
  unfolding start_after length_after
  gives_place o e = record {
    answers = e;
    leaves_start = sym (ap (λ (o : Answer Unit). answered o (value_start (levels_in bytes) tag) start) e);
    leaves_length = sym (ap (λ (o : Answer Unit). answered o (value_length (levels_in bytes) tag) len) e);
  }

  pub name_refused : (r : Reason) → naming bytes tag ≡ refused r → GivesPlace (refused r) start len
  unfolding naming
  name_refused r e = gives_place (refused r) (gives_refused (name_answer bytes tag) _ r e)

  pub name_found : (s l : ℕ) → naming bytes tag ≡ done (s, l) → GivesPlace passed s l
  unfolding naming
  name_found s l e =
      let (right, place) = gives_done (name_answer bytes tag) (value_start (levels_in bytes) tag, value_length (levels_in bytes) tag) e in
      subst (λ (p : ℕ × ℕ). GivesPlace passed p.0 p.1) place (gives_place passed right)

-- ---- a table that is written

module _ (t : WidthTable) (lent : List ℕ) where
  pub write_done : (n : ℕ) → writing t lent ≡ done n → write_answer t lent ≡ passed
  unfolding writing
  write_done n e = (gives_done (write_answer t lent) _ e).0

  pub write_refused : (r : Reason) → writing t lent ≡ refused r → write_answer t lent ≡ refused r
  unfolding writing
  write_refused r e = gives_refused (write_answer t lent) _ r e

-- ---- a call on the table that was read

-- what gives something besides its answer: the answer, by whether it gave it
module _ {A : Type 0} {own : Answer Unit} {r : Result A Refusal} (outcome : told r then passed ≡ own) where
  pub own_refused : {why : Refusal} → r ≡ Err why → refused (told_refusal why) ≡ own
  own_refused e = sym (ap (λ (r : Result A Refusal). told r then passed) e) ∙ outcome

  pub own_done : {x : A} → r ≡ Ok x → passed ≡ own
  own_done e = sym (ap (λ (r : Result A Refusal). told r then passed) e) ∙ outcome

-- reading, and then a call
pub read_then : (bytes : List ℕ) (r : Result WidthTable Refusal) → (told r then passed ≡ form bytes) × IfOk r (λ t. t ≡ table_read bytes) → (call : WidthTable → Answer Unit) (a : Result Unit Refusal)
    → MatchResult r (λ t. told a ≡ call t) (λ why. a ≡ Err why) → told a ≡ form_then bytes call
read_then bytes (Ok t) reads call a gives = read bytes reads {held = t} refl call gives
read_then bytes (Err why) reads call a gives = ap (λ (a : Result Unit Refusal). told a) gives ∙ unread bytes reads {why = why} refl _

-- ---- a new table from the old one

-- the table that comes back is the new one where the change is made
pub made_is_back : (made : Result WidthTable NotChanged) {new : WidthTable} → table_back made ≡ new → IfOk made (λ t. t ≡ new)
made_is_back (Ok t) e = e
made_is_back (Err kept) e = tt

-- a change on the table that the bytes hold
module _ (change : WidthTable → Result WidthTable NotChanged → Type 0) (bytes out : List ℕ) {held : WidthTable} {made : Result WidthTable NotChanged} (right : form bytes ≡ passed) (held_is : held ≡ table_in bytes) (gives : change held made) where
  here : change (table_in bytes) made
  here = subst (λ (t : WidthTable). change t made) held_is gives

  pub refused_change : {kept : NotChanged} → made ≡ Err kept → Changed change bytes out (refused (told_refusal kept.why)) out
  refused_change e answer new given =
      let own = sym (given made right here).0 ∙ ap (λ (r : Result WidthTable NotChanged). told_change r) e in
      (sym (then_right (form bytes) _ right ∙ then_refused answer _ _ own), sym (answered_refused (bytes_after new out) out (then_right (form bytes) answer right ∙ own)))

  pub made_change : {t : WidthTable} → made ≡ Ok t → Changed change bytes out (write_answer t out) (bytes_after t out)
  made_change e answer new given =
      let h = given made right here in
      let own = sym h.0 ∙ ap (λ (r : Result WidthTable NotChanged). told_change r) e in
      let t_is = IfOk-at_ok (λ (t : WidthTable). t ≡ new) e h.1 in
      (ap (λ (t : WidthTable). write_answer t out) t_is ∙ sym (then_right (form bytes) _ right ∙ then_right answer _ own), ap (λ (t : WidthTable). bytes_after t out) t_is ∙ sym (answered_done (bytes_after new out) out (then_right (form bytes) answer right ∙ own)))

-- what the call gives
abbrev NewTable : List ℕ → Answer Unit → WidthTable → List ℕ → Answer Unit → List ℕ → Type 0
NewTable bytes change new out r l = (r ≡ new_table_answer bytes change out) × (l ≡ new_table_out bytes change out new)

-- what reading promises of its answer and of its table
module _ (bytes : List ℕ) {o : Result WidthTable Refusal} (reads : (told o then passed ≡ form bytes) × IfOk o (λ t. t ≡ table_read bytes)) where
  pub change_unread : {why : Refusal} → o ≡ Err why → (change : Answer Unit) (new : WidthTable) (out : List ℕ) {r : Answer Unit} → r ≡ refused (told_refusal why) → NewTable bytes change new out r out
  unfolding new_table_answer new_table_out
  change_unread e change new out r-is = (r-is ∙ unread bytes reads e _, unread_if_done bytes reads e _ (over (bytes_of_table new) out) out)

-- the table that a change leaves, which is written as any other
abbrev Written : List ℕ → Answer Unit → WidthTable → List ℕ → Answer Unit → List ℕ → Type 0
Written bytes change made out r l = (r ≡ form bytes then change then write_answer made out) × (l ≡ answered (form bytes then change) (bytes_after made out) out)

module _ (bytes out : List ℕ) where
  abbrev t : WidthTable
  t = table_in bytes

  -- an accepted change keeps the form, the levels and whether tag 5 is there, so that 9 alone is left
  module _ (change : Answer Unit) (new : WidthTable) (levels : new.levels ≡ levels_in bytes) (has_products : new.has_products ≡ has_fifth bytes) (right : form bytes ≡ passed → change ≡ passed → form_right new ≡ true) where
    abbrev room : Bool → ℕ → Answer Unit
    room has_products L = asks (leb (table_size has_products L) (length out)) 9 passed

    abbrev rest : Answer Unit
    rest = room (has_fifth bytes) (levels_in bytes)

    written_new : {r : Answer Unit} {l : List ℕ} → Written bytes change (answered change new t) out r l → NewTable bytes change new out r l
    unfolding new_table_answer new_table_out write_answer bytes_after
    written_new {r} {l} (r-is, l-is) = go (form bytes) refl change refl
      where
        go : (f : Answer Unit) → form bytes ≡ f → (a : Answer Unit) → change ≡ a → NewTable bytes change new out r l
        go (refused why) e a q =
            let none : new_table_answer bytes change out ≡ refused why = then_refused (form bytes) (change then rest) why e in (
              r-is ∙ then_refused (form bytes) _ why e ∙ sym none,
              l-is ∙ answered_refused _ out (then_refused (form bytes) change why e) ∙ sym (answered_refused _ out none),
            )
        go (done u) e (refused why) q =
            let none : new_table_answer bytes change out ≡ refused why = then_right (form bytes) (change then rest) e ∙ then_refused change rest why q in (
              r-is ∙ then_right (form bytes) _ e ∙ then_refused change _ why q ∙ sym none,
              l-is ∙ answered_refused _ out (then_right (form bytes) change e ∙ q) ∙ sym (answered_refused _ out none),
            )
        go (done u) e (done v) q =
            let made : answered change new t ≡ new = answered_done new t q in
            let formed : write_answer new out ≡ rest = ap (λ (b : Bool). asks b 4 (room new.has_products new.levels)) (right e q) ∙ ap₂ room has_products levels in
            let all : new_table_answer bytes change out ≡ write_answer new out = then_right (form bytes) (change then rest) e ∙ then_right change rest q ∙ sym formed in (
              r-is ∙ then_right (form bytes) _ e ∙ then_right change _ q ∙ ap (λ (t : WidthTable). write_answer t out) made ∙ sym all,
              l-is ∙ answered_done _ out (then_right (form bytes) change e ∙ q) ∙ ap (λ (t : WidthTable). bytes_after t out) made ∙ ap (λ (a : Answer Unit). answered a (over (bytes_of_table new) out) out) (sym all),
            )

  sized : form bytes ≡ passed → FullLists t
  sized right = read_sized bytes right

  module _ {r : Answer Unit} {l : List ℕ} where
    pub width_changed : (level pass node IB f : ℕ) → Written bytes (width_answer t level pass node IB f) (table_after_width t level pass node IB f) out r l
        → NewTable bytes (width_answer t level pass node IB f) (with_width t level pass node IB f) out r l
    unfolding table_after_width table_in
    width_changed level pass node IB f = written_new (width_answer t level pass node IB f) (with_width t level pass node IB f) refl refl (λ right. width_form t (sized right) level pass node IB f)

    pub constant_changed : (node F : ℕ) → Written bytes (constant_answer t node F) (table_after_constant t node F) out r l
        → NewTable bytes (constant_answer t node F) (with_constant t node F) out r l
    unfolding table_after_constant table_in
    constant_changed node F = written_new (constant_answer t node F) (with_constant t node F) refl refl (λ right. constant_form t (sized right) node F)

    pub product_changed : (level pass product fp : ℕ) → Written bytes (product_answer t level pass product fp) (table_after_product t level pass product fp) out r l
        → NewTable bytes (product_answer t level pass product fp) (with_product t level pass product fp) out r l
    unfolding table_after_product table_in
    product_changed level pass product fp = written_new (product_answer t level pass product fp) (with_product t level pass product fp) refl refl (λ right. product_form t (sized right) level pass product fp)

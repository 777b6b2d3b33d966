-- Document 02, job 3, changed the order of 1, 2 and 3 within a field. Of document 01's four fields the answers that differ are those that
-- document 02 names, in whichever field, and no other (`form_changes`; the forms of before: EarlierForms). Since job 7 it is so of every
-- answer of document 01 but 5 (`present_changes`, by `only_five` of WithoutProducts).
use Rattle.std.specs.Prelude.{ℕ, ◌+◌, ◌*◌, ◌-◌, ◌≤◌, Bool, ◌&&◌, ◌||◌, not, ◌≡◌, eqb, length, get_or, take, drop}
use Rattle.std.proofs.Math.Bool.{true, false}
use mathlib.Core.List.{List, [], ◌∷◌}
use Rattle.std.proofs.Math.Path.{refl, sym, ap}
use Rattle.std.proofs.Common.{◌∙◌, subst, arith, le-leb}
use Rattle.std.proofs.Math.Dec.{T, leb}
use Rattle.numbers.specs.Tests.{between, by_leb, right_false}
use Rattle.refusals.specs.Answers.{Answer, done, refused, passed, asks, ◌then◌, answered, code}
use Rattle.refusals.specs.AnswerLaws.{asks_right, asks_wrong, then_right, then_refused, answered_refused}
use Rattle.table_bytes.specs.Fields.{depth_tag, nodes_tag, products_tag, tag_right, head_bytes, Field, fields, value_start, value_length}
use Rattle.table_bytes.specs.Bytes.{announced, headed, field, form_by, levels_in, has_fifth, form, value_in, table_in, empty_table, table_read}
use Rattle.table_bytes.specs.Names.{name_answer, naming, part_at}
use Rattle.history.specs.EarlierForms.{form_without, name_answer_without, earlier_headed, earlier_field, earlier_form_by, earlier_form, earlier_table_read, earlier_name_answer, wrong_tag_cut, wrong_length_cut, comes_to, happens, in_either, Changes, NotFive, PresentChanges}
use Rattle.history.specs.Job7Forms.{then_answered, none_after, only_five, four_names, named_as_before}

-- ---- one field

-- head whole, value whole, tag due, its length, numbers right
abbrev now : (head value tag len right : Bool) → Answer Unit
now head value tag len right = asks head 1 (asks tag 2 (asks len 3 (asks value 1 passed))) then asks right 4 passed

abbrev before : (head value tag len right : Bool) → Answer Unit
before head value tag len right = asks head 1 (asks value 1 (asks tag 2 (asks len 3 passed))) then asks right 4 passed

-- the answer 1 becomes another number
abbrev Becomes : ℕ → Answer Unit → Answer Unit → Type 0
Becomes n old new = (old ≡ refused (1, [])) × (new ≡ refused (n, []))

tag_becomes : (head value tag len right : Bool) → T (head && not value && not tag) → Becomes 2 (before head value tag len right) (now head value tag len right)
tag_becomes true false false len right h = (refl, refl)
tag_becomes true false true len right h = absurd h
tag_becomes true true tag len right h = absurd h
tag_becomes false value tag len right h = absurd h

length_becomes : (head value tag len right : Bool) → T (head && not value && tag && not len) → Becomes 3 (before head value tag len right) (now head value tag len right)
length_becomes true false true false right h = (refl, refl)
length_becomes true false true true right h = absurd h
length_becomes true false false len right h = absurd h
length_becomes true true tag len right h = absurd h
length_becomes false value tag len right h = absurd h

-- otherwise it stays
stays : (head value tag len right : Bool) → head && not value && not tag ≡ false → head && not value && tag && not len ≡ false → now head value tag len right ≡ before head value tag len right
stays true true true true right g h = refl
stays true true true false right g h = refl
stays true true false len right g h = refl
stays true false true true right g h = refl
stays true false true false right g h = absurd (subst T h tt)
stays true false false len right g h = absurd (subst T g tt)
stays false value tag len right g h = refl

-- what passes passed
was_passed : (head value tag len right : Bool) → now head value tag len right ≡ passed → before head value tag len right ≡ passed
was_passed true true true true right e = e
was_passed true true true false right e = e
was_passed true true false len right e = e
was_passed true false true true right e = e
was_passed true false true false right e = ap (λ (o : Answer Unit). answered o passed (refused (1, []))) e
was_passed true false false len right e = ap (λ (o : Answer Unit). answered o passed (refused (1, []))) e
was_passed false value tag len right e = e

module _ (f : Field) (bytes : List ℕ) where
  abbrev head : Bool
  head = leb head_bytes (length bytes)

  abbrev value : Bool
  value = leb (announced bytes) (length bytes - head_bytes)

  abbrev tag : Bool
  tag = eqb (get_or bytes 0 0) f.tag

  abbrev len : Bool
  len = eqb (announced bytes) f.size

  abbrev right : Bool
  right = f.right (take f.size (drop head_bytes bytes))

  pub field_two : T (wrong_tag_cut f bytes) → Becomes 2 (earlier_field f bytes) (field f bytes)
  unfolding field headed earlier_field earlier_headed
  field_two = tag_becomes head value tag len right

  pub field_three : T (wrong_length_cut f bytes) → Becomes 3 (earlier_field f bytes) (field f bytes)
  unfolding field headed earlier_field earlier_headed
  field_three = length_becomes head value tag len right

  pub field_stays : wrong_tag_cut f bytes ≡ false → wrong_length_cut f bytes ≡ false → field f bytes ≡ earlier_field f bytes
  unfolding field headed earlier_field earlier_headed
  field_stays = stays head value tag len right

  field_passed : field f bytes ≡ passed → earlier_field f bytes ≡ passed
  unfolding field headed earlier_field earlier_headed
  field_passed = was_passed head value tag len right

-- ---- fields in order

-- what follows a field
abbrev after : Field → List ℕ → List ℕ
after f bytes = drop (head_bytes + f.size) bytes

-- what becomes of one field's answer becomes of the whole form's, where reading comes to such a field
module _ (test : Field → List ℕ → Bool) (n : ℕ) (law : (f : Field) (bytes : List ℕ) → T (test f bytes) → Becomes n (earlier_field f bytes) (field f bytes)) where
  abbrev Comes : List Field → List ℕ → Type 0
  Comes fs bytes = Becomes n (earlier_form_by fs bytes) (form_by fs bytes)

  module _ (f : Field) (fs : List Field) (bytes : List ℕ) (next : T (comes_to test fs (after f bytes)) → Comes fs (after f bytes)) where
    later : (o : Answer Unit) → field f bytes ≡ o → T (answered o (comes_to test fs (after f bytes)) false) → Comes (f ∷ fs) bytes
    unfolding form_by earlier_form_by
    later (done tt) e h = let (a, b) = next h in (then_right (earlier_field f bytes) _ (field_passed f bytes e) ∙ a, then_right (field f bytes) _ e ∙ b)
    later (refused r) e h = absurd h

    here : (t : Bool) → test f bytes ≡ t → T (t || answered (field f bytes) (comes_to test fs (after f bytes)) false) → Comes (f ∷ fs) bytes
    unfolding form_by earlier_form_by
    here true e h = let (a, b) = law f bytes (subst T (sym e) tt) in (then_refused (earlier_field f bytes) _ _ a, then_refused (field f bytes) _ _ b)
    here false e h = later (field f bytes) refl h

  comes : (fs : List Field) (bytes : List ℕ) → T (comes_to test fs bytes) → Comes fs bytes
  unfolding comes_to
  comes [] bytes h = absurd h
  comes (f ∷ fs) bytes h = here f fs bytes (comes fs (after f bytes)) (test f bytes) refl h

neither : (a b : Bool) → a || b ≡ false → (a ≡ false) × (b ≡ false)
neither true b e = absurd (subst T e tt)
neither false b e = (refl, e)

-- one field's answer, and then what follows
then_stays : (o : Answer Unit) (fs : List Field) (bytes : List ℕ) → (comes_to wrong_tag_cut fs bytes ≡ false → comes_to wrong_length_cut fs bytes ≡ false → form_by fs bytes ≡ earlier_form_by fs bytes)
    → answered o (comes_to wrong_tag_cut fs bytes) false ≡ false → answered o (comes_to wrong_length_cut fs bytes) false ≡ false → o then form_by fs bytes ≡ o then earlier_form_by fs bytes
then_stays (done tt) fs bytes next g h = next g h
then_stays (refused r) fs bytes next g h = refl

form_stays : (fs : List Field) (bytes : List ℕ) → comes_to wrong_tag_cut fs bytes ≡ false → comes_to wrong_length_cut fs bytes ≡ false → form_by fs bytes ≡ earlier_form_by fs bytes
unfolding comes_to form_by earlier_form_by
form_stays [] bytes g h = refl
form_stays (f ∷ fs) bytes g h =
    let (a, b) = neither (wrong_tag_cut f bytes) _ g in
    let (c, d) = neither (wrong_length_cut f bytes) _ h in
    then_stays (field f bytes) fs (after f bytes) (form_stays fs (after f bytes)) b d ∙ ap (λ (o : Answer Unit). o then earlier_form_by fs (after f bytes)) (field_stays f bytes a c)

-- ---- every list of bytes

module _ (bytes : List ℕ) where
  -- job 3 by itself: four fields in the earlier order, and in the order of job 3
  pub form_changes : Changes bytes (earlier_form bytes) (form_without bytes)
  unfolding happens form_without earlier_form
  form_changes = record {
    two = comes wrong_tag_cut 2 field_two (fields false (levels_in bytes)) bytes;
    three = comes wrong_length_cut 3 field_three (fields false (levels_in bytes)) bytes;
    no_other = form_stays (fields false (levels_in bytes)) bytes;
  }

  -- one of the three holds of any bytes, so what follows from each of them does
  by_change : {P : Type 0} → (T (in_either bytes) → (n : ℕ) → 2 ≤ n → n ≤ 3 → Becomes n (earlier_form bytes) (form_without bytes) → P) → (in_either bytes ≡ false → form_without bytes ≡ earlier_form bytes → P) → P
  by_change {P} moved keeps = go (happens wrong_tag_cut bytes) (happens wrong_length_cut bytes) refl refl moved keeps
    where
      go : (a b : Bool) → happens wrong_tag_cut bytes ≡ a → happens wrong_length_cut bytes ≡ b
          → (T (a || b) → (n : ℕ) → 2 ≤ n → n ≤ 3 → Becomes n (earlier_form bytes) (form_without bytes) → P) → (a || b ≡ false → form_without bytes ≡ earlier_form bytes → P) → P
      go true b e f moved keeps = moved tt 2 (omega arith) (omega arith) (form_changes.two (subst T (sym e) tt))
      go false true e f moved keeps = moved tt 3 (omega arith) (omega arith) (form_changes.three (subst T (sym f) tt))
      go false false e f moved keeps = keeps refl (form_changes.no_other e f)

  -- a refusal is no other one
  other_refusal : (m n : ℕ) → (m ≡ n → ⊥) → {o : Answer Unit} → o ≡ refused (m, []) → o ≡ refused (n, []) → ⊥
  other_refusal m n h e f = let c : m + 256 * 0 ≡ n + 256 * 0 = ap code (sym e ∙ f) in h (omega arith)

  -- so the answers differ exactly in the two cases
  pub differs_only : (form_without bytes ≡ earlier_form bytes → ⊥) → T (in_either bytes)
  differs_only h = by_change (λ k n l m b. k) (λ k e. absurd (h e))

  pub differs_there : T (in_either bytes) → form_without bytes ≡ earlier_form bytes → ⊥
  differs_there h e = by_change (λ k n l m b. other_refusal n 1 (λ z. omega arith) b.1 (e ∙ b.0)) (λ k f. subst T k h)

  -- what stands where a table is read, and where not, was the same in either order
  pub same_in_order : {B : Type 0} (x y : B) → answered (form_without bytes) x y ≡ answered (earlier_form bytes) x y
  same_in_order x y = by_change (λ k n l m b. answered_refused x y b.1 ∙ sym (answered_refused x y b.0)) (λ k e. ap (λ (o : Answer Unit). answered o x y) e)

  -- ---- today, after job 7

  -- bytes that were not refused 5 are answered as job 3 left it
  pub present_order : NotFive bytes → form bytes ≡ form_without bytes
  present_order h = only_five bytes (by_change (λ k n l m b. other_refusal n 5 (λ z. omega arith) b.1) (λ k e f. h (sym e ∙ f)))

  pub present_changes : PresentChanges bytes (earlier_form bytes) (form bytes)
  present_changes = record {
    two = λ h. moved 2 (λ z. omega arith) (form_changes.two h);
    three = λ h. moved 3 (λ z. omega arith) (form_changes.three h);
    no_other = λ g h k. present_order k ∙ form_changes.no_other g h;
  }
    where
      moved : (n : ℕ) → (n ≡ 5 → ⊥) → Becomes n (earlier_form bytes) (form_without bytes) → Becomes n (earlier_form bytes) (form bytes)
      moved n h b = (b.0, only_five bytes (other_refusal n 5 h b.1) ∙ b.1)

  -- what stands where a table is read, and where not, and so the table
  pub same_after : NotFive bytes → {B : Type 0} (x y : B) → answered (form bytes) x y ≡ answered (earlier_form bytes) x y
  same_after h x y = ap (λ (o : Answer Unit). answered o x y) (present_order h) ∙ same_in_order x y

  pub same_table : NotFive bytes → table_read bytes ≡ earlier_table_read bytes
  unfolding table_read earlier_table_read
  same_table h = same_after h (table_in bytes) empty_table

  -- bytes that document 01 took have no tag 5
  pub earlier_without : earlier_form bytes ≡ passed → has_fifth bytes ≡ false
  earlier_without e = by_change (λ k n l m b. absurd (not_passed (sym e ∙ b.0))) (λ k f. none_after bytes (f ∙ e))
    where
      not_passed : passed ≡ refused (1, []) → ⊥
      not_passed z = let c : ◌≡◌ {A = ℕ} 0 1 = ap code z in omega arith

  -- so that rules which go by tag 5 were those of a table without it
  pub earlier_four : {A : Type 0} (rules : Bool → Answer A) → earlier_form bytes then rules (has_fifth bytes) ≡ earlier_form bytes then rules false
  earlier_four {A} rules = go (earlier_form bytes) refl
    where
      go : (o : Answer Unit) → earlier_form bytes ≡ o → o then rules (has_fifth bytes) ≡ o then rules false
      go (done tt) e = ap rules (earlier_without e)
      go (refused r) e = refl

  -- ---- a call that reads its table from bytes first: its answer changes alike, and what it is lent holds the same afterwards
  module _ {A : Type 0} (rules : Answer A) where
    pub call_changes : PresentChanges bytes (earlier_form bytes then rules) (form bytes then rules)
    call_changes = record {
      two = λ h. let (a, b) = present_changes.two h in (then_refused (earlier_form bytes) rules _ a, then_refused (form bytes) rules _ b);
      three = λ h. let (a, b) = present_changes.three h in (then_refused (earlier_form bytes) rules _ a, then_refused (form bytes) rules _ b);
      no_other = λ g h k. ap (λ (o : Answer Unit). o then rules) (present_changes.no_other g h k);
    }

    pub same_lent : NotFive bytes → {B : Type 0} (x y : B) → answered (form bytes then rules) x y ≡ answered (earlier_form bytes then rules) x y
    same_lent h x y = sym (then_answered (form bytes) rules x y) ∙ same_after h (answered rules x y) y ∙ then_answered (earlier_form bytes) rules x y

  -- ---- naming a tag: a wrong name is 2 as before; after one of document 01's names, 1 to 4, the answer changes alike
  module _ (tag : ℕ) where
    pub wrong_name : tag_right tag ≡ false → (name_answer bytes tag ≡ refused (2, [])) × (earlier_name_answer bytes tag ≡ refused (2, []))
    unfolding name_answer earlier_name_answer
    wrong_name e = (asks_wrong (tag_right tag) _ _ e, asks_wrong (between depth_tag nodes_tag tag) _ (earlier_form bytes) outside)
      where
        outside : between depth_tag nodes_tag tag ≡ false
        outside =
            by_leb (λ (b : Bool). leb depth_tag tag && b ≡ false) tag nodes_tag
            (λ h. ap (λ (b : Bool). leb depth_tag tag && b) (sym (le-leb tag products_tag (omega arith))) ∙ e)
            (λ h. right_false (leb depth_tag tag) false refl)

    pub name_changes : T (between depth_tag nodes_tag tag) → PresentChanges bytes (earlier_name_answer bytes tag) (name_answer bytes tag)
    unfolding earlier_name_answer
    name_changes h =
        let present : name_answer bytes tag ≡ form bytes = four_names bytes tag h in
        let earlier = asks_right (between depth_tag nodes_tag tag) (2, []) (earlier_form bytes) h in
        record {
          two = λ k. let (a, b) = present_changes.two k in (earlier ∙ a, present ∙ b);
          three = λ k. let (a, b) = present_changes.three k in (earlier ∙ a, present ∙ b);
          no_other = λ g k l. present ∙ present_changes.no_other g k l ∙ sym earlier;
        }

    -- what stands where the tag is named, and where not, is the same, of any tag, and so the value
    pub same_named : NotFive bytes → {B : Type 0} (x y : B) → answered (name_answer bytes tag) x y ≡ answered (earlier_name_answer bytes tag) x y
    unfolding name_answer_without earlier_name_answer
    same_named h {B} x y = named_as_before bytes tag (present_order h) x y ∙ go (between depth_tag nodes_tag tag)
      where
        go : (t : Bool) → answered (asks t 2 (form_without bytes)) x y ≡ answered (asks t 2 (earlier_form bytes)) x y
        go true = same_in_order x y
        go false = refl

    pub same_value : NotFive bytes → part_at bytes (naming bytes tag) ≡ answered (earlier_name_answer bytes tag) (value_in bytes tag) []
    unfolding naming
    same_value h = part_of (name_answer bytes tag) ∙ same_named h (value_in bytes tag) []
      where
        part_of : (o : Answer Unit) → part_at bytes (o then done (value_start (levels_in bytes) tag, value_length (levels_in bytes) tag)) ≡ answered o (value_in bytes tag) []
        part_of (done tt) = refl
        part_of (refused r) = refl

-- A table without tag 5 is read, named and written as before document 02, job 7 (the forms of before: EarlierForms).
use Rattle.std.specs.Prelude.{ℕ, ◌+◌, ◌*◌, ◌<◌, Bool, ◌&&◌, ◌||◌, ◌≡◌, T, eqb, length, get_or, take, drop, replicate}
use Rattle.std.proofs.Math.Bool.{true, false}
use mathlib.Core.List.{List, [], ◌∷◌, ◌++◌}
use Rattle.std.proofs.Math.Path.{refl, sym, ap}
use Rattle.std.proofs.Common.{◌∙◌, subst, eqb→eq, length-append, length-drop, drop_of_length-le, get_or-take, get_or-drop, get_or-append-add}
use native.Mathlib.Omega.{arith}
use borrow.Author.Tests.{le-leb, lt-leb, ne_eqb}
use Rattle.std.proofs.Math.Dec.{leb}
use Rattle.std.proofs.Math.Seq.{take-append_seam}
use Rattle.std.proofs.lemmas.List.{take-append-le, drop-append-le}
use Rattle.numbers.specs.Tests.{between, by_leb, between_≤, to_between}
use Rattle.refusals.specs.Answers.{Answer, done, refused, passed, asks, ◌then◌, answered}
use Rattle.refusals.specs.AnswerLaws.{asks_done, asks_right, then_done, then_right}
use Rattle.width_table.specs.declared.WidthTable.{WidthTable}
use Rattle.width_table.specs.Table.{max_levels, form_right}
use Rattle.width_table.specs.Lists.{product_bytes, FullLists}
use Rattle.table_bytes.specs.Fields.{depth_tag, levels_tag, nodes_tag, products_tag, tag_right, head_bytes, Field, fixed_fields, last_fields, fields, start_of, table_size, bytes_of}
use Rattle.table_bytes.specs.Bytes.{headed, field, form_by, levels_in, has_fifth, form, products_in, table_in, bytes_of_table}
use Rattle.table_bytes.specs.Names.{name_answer}
use Rattle.history.specs.EarlierForms.{form_without, name_answer_without}
use Rattle.table_bytes.specs.BytesLaws.{FieldAt, field_done, field_right, right_from, right_long, right_form, bytes_length}
use Rattle.table_bytes.specs.ReadLaws.{more_follows}

-- what stands where one answer is passed, and then another
pub then_answered : {A B : Type 0} (o : Answer Unit) (p : Answer A) (x y : B) → answered o (answered p x y) y ≡ answered (o then p) x y
then_answered (done tt) p x y = refl
then_answered (refused r) p x y = refl

-- ---- reading

-- fields that are refused, but not for what follows them, are refused so whatever fields follow
front_refused : (fs gs : List Field) (bytes : List ℕ) → (form_by fs bytes ≡ passed → ⊥) → (form_by fs bytes ≡ refused (5, []) → ⊥) → form_by (fs ++ gs) bytes ≡ form_by fs bytes
unfolding form_by
front_refused [] gs bytes g h = absurd (go (eqb (length bytes) 0) g h)
  where
    go : (b : Bool) → (asks b 5 passed ≡ passed → ⊥) → (asks b 5 passed ≡ refused (5, []) → ⊥) → ⊥
    go true g h = g refl
    go false g h = h refl
front_refused (f ∷ fs) gs bytes g h = go (field f bytes) g h (front_refused fs gs (drop (head_bytes + f.size) bytes))
  where
    rest : Answer Unit
    rest = form_by fs (drop (head_bytes + f.size) bytes)

    go : (o : Answer Unit) → (o then rest ≡ passed → ⊥) → (o then rest ≡ refused (5, []) → ⊥)
        → ((rest ≡ passed → ⊥) → (rest ≡ refused (5, []) → ⊥) → form_by (fs ++ gs) (drop (head_bytes + f.size) bytes) ≡ rest)
        → o then form_by (fs ++ gs) (drop (head_bytes + f.size) bytes) ≡ o then rest
    go (done tt) g h next = next g h
    go (refused r) g h next = refl

module _ (bytes : List ℕ) where
  -- Unless the byte right after the fourth field is 5, the answer is that of before.
  pub reads_as_before : has_fifth bytes ≡ false → form bytes ≡ form_without bytes
  unfolding form form_without
  reads_as_before none = ap (λ (b : Bool). form_by (fields b (levels_in bytes)) bytes) none

  -- bytes that were right end with the fourth field
  without_ends : form_without bytes ≡ passed → length bytes ≡ table_size false (levels_in bytes)
  unfolding form_without
  without_ends e = let fs = fields false (levels_in bytes) in omega (arith, right_long fs 0 bytes (right_from fs 0 bytes (omega arith) e))

  pub none_after : form_without bytes ≡ passed → has_fifth bytes ≡ false
  none_after e =
      let n = table_size false (levels_in bytes) in
      let place : n ≡ n + 0 = omega arith in
      ap (λ (m : ℕ). eqb (get_or bytes m 0) products_tag) place
      ∙ ap (λ (b : ℕ). eqb b products_tag) (sym (get_or-drop n bytes 0 0) ∙ ap (λ (l : List ℕ). get_or l 0 0) (drop_of_length-le bytes {i = n} (omega (arith, without_ends e))))

  -- Where it is 5, the answer was a refusal.
  pub was_refused : has_fifth bytes ≡ true → form_without bytes ≡ passed → ⊥
  was_refused has_products e = subst T (sym (sym (none_after e) ∙ has_products)) tt

  -- Of the answers of before none but 5 became another.
  pub only_five : (form_without bytes ≡ refused (5, []) → ⊥) → form bytes ≡ form_without bytes
  unfolding form form_without
  only_five h = go (has_fifth bytes) refl
    where
      go : (b : Bool) → has_fifth bytes ≡ b → form bytes ≡ form_without bytes
      go true has_products = front_refused (fields false (levels_in bytes)) (last_fields (has_fifth bytes) (levels_in bytes)) bytes (was_refused has_products) h
      go false none = reads_as_before none

  -- Bytes that were right are right, and hold a table without tag 5, with zeros for products.
  pub right_as_before : form_without bytes ≡ passed → (form bytes ≡ passed) × ((table_in bytes).has_products ≡ false) × ((table_in bytes).products ≡ replicate (product_bytes max_levels) 0)
  unfolding table_in
  right_as_before e = (reads_as_before (none_after e) ∙ e, none_after e, ap (λ (b : Bool). products_in b bytes) (none_after e))

  -- ---- naming

  then_passed : (o : Answer Unit) → o then passed ≡ o
  then_passed (done tt) = refl
  then_passed (refused r) = refl

  module _ (tag : ℕ) where
    -- tags 1 to 4, which every table has, are answered by the form
    pub four_names : T (between depth_tag nodes_tag tag) → name_answer bytes tag ≡ form bytes
    unfolding name_answer
    four_names h =
        let (least, most) = between_≤ depth_tag nodes_tag tag h in
        asks_right (tag_right tag) _ _ (to_between depth_tag products_tag tag least (omega arith))
        ∙ ap (λ (b : Bool). form bytes then asks (b || has_fifth bytes) 2 passed) (le-leb tag nodes_tag most)
        ∙ then_passed (form bytes)

    -- every tag but 5, which was 2 before the form was judged
    pub names_as_before : has_fifth bytes ≡ false → (tag ≡ products_tag → ⊥) → name_answer bytes tag ≡ name_answer_without bytes tag
    unfolding name_answer name_answer_without
    names_as_before none other =
        by_leb (λ (b : Bool). asks (leb depth_tag tag && leb tag products_tag) 2 (form bytes then asks (b || has_fifth bytes) 2 passed) ≡ asks (leb depth_tag tag && b) 2 (form_without bytes)) tag nodes_tag
        (λ h. ap (λ (b : Bool). asks (leb depth_tag tag && b) 2 (form bytes then passed)) (le-leb tag products_tag (omega arith)) ∙ ap (asks (leb depth_tag tag && true) 2) (then_passed (form bytes) ∙ reads_as_before none))
        (λ h. ap (λ (b : Bool). asks (leb depth_tag tag && b) 2 (form bytes then asks (has_fifth bytes) 2 passed)) (lt-leb tag products_tag (above h)) ∙ neither (leb depth_tag tag) _ _)
      where
        above : nodes_tag < tag → products_tag < tag
        above h = omega arith

        neither : (b : Bool) (x y : Answer Unit) → asks (b && false) 2 x ≡ asks (b && false) 2 y
        neither true x y = refl
        neither false x y = refl

    -- What stands where a tag is named, and where not, is the same for every tag where the form is answered as before: tag 5 is named in
    -- none of these bytes.
    pub named_as_before : form bytes ≡ form_without bytes → {B : Type 0} (x y : B) → answered (name_answer bytes tag) x y ≡ answered (name_answer_without bytes tag) x y
    unfolding name_answer name_answer_without
    named_as_before same {B} x y =
        by_leb (λ (b : Bool). answered (asks (leb depth_tag tag && leb tag products_tag) 2 (form bytes then asks (b || has_fifth bytes) 2 passed)) x y ≡ answered (asks (leb depth_tag tag && b) 2 (form_without bytes)) x y) tag nodes_tag
        (λ h. (λ u. answered (asks (leb depth_tag tag && le-leb tag products_tag (omega arith) u) 2 ((then_passed (form bytes) ∙ same) u)) x y))
        (λ h. judged_none (leb depth_tag tag && leb tag products_tag) _ (fifth_none (has_fifth bytes) refl) ∙ sym (no_name (leb depth_tag tag) (form_without bytes)))
      where
        never_read : has_fifth bytes ≡ true → (o : Answer Unit) → form bytes ≡ o → answered (o then passed) x y ≡ y
        never_read has_products (done u) e = absurd (was_refused has_products (sym same ∙ e))
        never_read has_products (refused r) e = refl

        lacking : (o : Answer Unit) → answered (o then asks false 2 passed) x y ≡ y
        lacking (done tt) = refl
        lacking (refused r) = refl

        fifth_none : (has_products : Bool) → has_fifth bytes ≡ has_products → answered (form bytes then asks has_products 2 passed) x y ≡ y
        fifth_none true has_products = never_read has_products (form bytes) refl
        fifth_none false none = lacking (form bytes)

        judged_none : (b : Bool) (o : Answer Unit) → answered o x y ≡ y → answered (asks b 2 o) x y ≡ y
        judged_none true o e = e
        judged_none false o e = refl

        no_name : (b : Bool) (o : Answer Unit) → answered (asks (b && false) 2 o) x y ≡ y
        no_name true o = refl
        no_name false o = refl

-- ---- what follows a table without tag 5

module _ (bytes rest : List ℕ) where
  in_front : (i : ℕ) → i < length bytes → get_or (bytes ++ rest) i 0 ≡ get_or bytes i 0
  in_front i h = sym (get_or-take (length bytes) (bytes ++ rest) i 0 h) ∙ ap (λ (l : List ℕ). get_or l i 0) (take-append_seam bytes rest)

  field_front : (f : Field) → field f bytes ≡ passed → field f (bytes ++ rest) ≡ passed
  field_front f e =
      let r = field_done f 0 bytes e in
      let at : FieldAt f 0 (bytes ++ rest) = record {
        whole = omega (arith, r.whole, length-append bytes rest);
        its = in_front 0 (omega (arith, r.whole)) ∙ r.its;
        says = (λ u. in_front 1 (omega (arith, r.whole)) u * 256 + in_front 2 (omega (arith, r.whole)) u) ∙ r.says;
        value = subst (λ (l : List ℕ). T (f.right l)) (sym (ap (take f.size) (drop-append-le head_bytes bytes rest (omega (arith, r.whole))) ∙ take-append-le f.size (drop head_bytes bytes) rest (omega (arith, r.whole, length-drop head_bytes bytes)))) r.value;
      } in
      field_right f (bytes ++ rest) at

-- fields that are right are followed by other fields
front : (fs gs : List Field) (bytes rest : List ℕ) → form_by fs bytes ≡ passed → form_by (fs ++ gs) (bytes ++ rest) ≡ form_by gs rest
unfolding form_by
front [] gs [] rest e = refl
front [] gs (b ∷ bytes) rest e = absurd (omega (arith, eqb→eq (length (b ∷ bytes)) 0 (asks_done (eqb (length (b ∷ bytes)) 0) _ _ e).0))
front (f ∷ fs) gs bytes rest e =
    let d = then_done (field f bytes) _ e in
    then_right (field f (bytes ++ rest)) _ (field_front bytes rest f d.0)
    ∙ ap (form_by (fs ++ gs)) (drop-append-le (head_bytes + f.size) bytes rest (omega (arith, (field_done f 0 bytes d.0).whole)))
    ∙ front fs gs (drop (head_bytes + f.size) bytes) rest d.1

module _ (bytes : List ℕ) (e : form_without bytes ≡ passed) (rest : List ℕ) where
  abbrev L : ℕ
  L = levels_in bytes

  same_levels : levels_in (bytes ++ rest) ≡ L
  same_levels = in_front bytes rest (start_of fixed_fields levels_tag) (omega (arith, without_ends bytes e))

  same_fifth : has_fifth (bytes ++ rest) ≡ eqb (get_or rest 0 0) products_tag
  same_fifth =
      let place : table_size false L ≡ length bytes + 0 = omega (arith, without_ends bytes e) in
      (λ u. eqb (get_or (bytes ++ rest) (table_size false (same_levels u)) 0) products_tag)
      ∙ ap (λ (n : ℕ). eqb (get_or (bytes ++ rest) n 0) products_tag) place
      ∙ ap (λ (b : ℕ). eqb b products_tag) (get_or-append-add bytes rest 0 0)

  -- It is read as input of its own: tag 5, if that is its first byte. Before, nothing was to follow.
  pub follows : form (bytes ++ rest) ≡ form_by (last_fields (eqb (get_or rest 0 0) products_tag) L) rest
  unfolding form form_without
  follows = (λ u. form_by (fields (same_fifth u) (same_levels u)) (bytes ++ rest)) ∙ front (fields false L) (last_fields (eqb (get_or rest 0 0) products_tag) L) bytes rest e

  pub followed : form_without (bytes ++ rest) ≡ form_by [] rest
  unfolding form_without
  followed = ap (λ (l : ℕ). form_by (fields false l) (bytes ++ rest)) same_levels ∙ front (fields false L) [] bytes rest e

module _ (bytes : List ℕ) (e : form_without bytes ≡ passed) where
  -- any byte but 5 is 5, as before
  pub other_byte : (b : ℕ) (rest : List ℕ) → (b ≡ products_tag → ⊥) → form (bytes ++ b ∷ rest) ≡ refused (5, [])
  other_byte b rest h = follows bytes e (b ∷ rest) ∙ ap (λ (t : Bool). form_by (last_fields t (levels_in bytes)) (b ∷ rest)) (ne_eqb b products_tag h) ∙ more_follows (b ∷ rest) (λ z. omega arith)

  -- a single byte 5 is 1, where it was 5: the field of tag 5 is cut short
  pub lone_five : (form (bytes ++ products_tag ∷ []) ≡ refused (1, [])) × (form_without (bytes ++ products_tag ∷ []) ≡ refused (5, []))
  unfolding form_by field headed
  lone_five = (follows bytes e (products_tag ∷ []), followed bytes e (products_tag ∷ []))

-- ---- writing

-- A table without tag 5 has the bytes of before, 20 + 36 L of them.
pub writes_as_before : (t : WidthTable) → t.has_products ≡ false → (bytes_of_table t ≡ bytes_of (fields false t.levels) t) × (FullLists t → form_right t ≡ true → length (bytes_of_table t) ≡ 20 + 36 * t.levels)
unfolding bytes_of_table
writes_as_before t none =
    (ap (λ (b : Bool). bytes_of (fields b t.levels) t) none, λ s h. bytes_length t s (right_form t s (subst T (sym h) tt)) ∙ ap (λ (b : Bool). table_size b t.levels) none ∙ omega arith)

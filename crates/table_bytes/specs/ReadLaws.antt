-- The rules of reading one by one, as the code goes through them.
use Rattle.std.specs.Prelude.{ℕ, zero, suc, ◌+◌, ◌-◌, ◌<◌, ◌≤◌, Bool, true, ◌||◌, ◌≡◌, T, leb, get_or, take, replicate}
use Rattle.std.proofs.Math.Bool.{false}
use mathlib.Core.List.{List, [], ◌∷◌, ◌++◌}
use Rattle.std.proofs.Math.Path.{refl, ap}
use Rattle.std.proofs.Common.{sym, ◌∙◌, ap₂, arith, eq-eqb, ne_eqb, le→leb, get_or-drop}
use Rattle.std.proofs.lemmas.Bool.{lt-leb}
use Rattle.std.proofs.Math.Dec.{eqb, leb→le, eqb→eq}
use Rattle.std.proofs.Math.ListN.{length, drop}
use Rattle.std.proofs.Math.Seq.{paste, take-length}
use Rattle.refusals.specs.Answers.{Reason, Answer, refused, passed, asks}
use Rattle.refusals.specs.AnswerLaws.{asks_done, asks_right, asks_wrong, then_right, then_refused, answered_done, answered_refused}
use Rattle.table_bytes.specs.Fields.{depth_tag, levels_tag, constants_tag, nodes_tag, products_tag, IsTag, head_bytes, Field, products_field, fields, fields_after, size_of, field_of, table_size, value_start, value_length}
use Rattle.table_bytes.specs.Bytes.{announced, headed, field, form_by, form, table_in, table_read, empty_table, fifth_after, form_after}
use Rattle.table_bytes.specs.BytesLaws.{field_done}

-- ---- the head of a field

module _ (tag len : ℕ) (bytes : List ℕ) where
  pub no_head : length bytes < head_bytes → headed tag len bytes ≡ refused (1, [])
  unfolding headed
  no_head h = asks_wrong (leb head_bytes (length bytes)) _ _ (lt-leb _ _ h)

  -- the value is whole, which is judged last
  abbrev value_whole : Answer Unit
  value_whole = asks (leb (announced bytes) (length bytes - head_bytes)) 1 passed

  -- after a whole head
  module _ (h : head_bytes ≤ length bytes) where
    tag_next : headed tag len bytes ≡ asks (eqb (get_or bytes 0 0) tag) 2 (asks (eqb (announced bytes) len) 3 value_whole)
    unfolding headed
    tag_next = asks_right (leb head_bytes (length bytes)) _ _ (le→leb _ _ h)

    pub other_tag : (get_or bytes 0 0 ≡ tag → ⊥) → headed tag len bytes ≡ refused (2, [])
    other_tag e = tag_next ∙ asks_wrong (eqb (get_or bytes 0 0) tag) _ _ (ne_eqb _ _ e)

    -- with the tag that is due
    module _ (e : get_or bytes 0 0 ≡ tag) where
      length_next : headed tag len bytes ≡ asks (eqb (announced bytes) len) 3 value_whole
      length_next = tag_next ∙ ap (λ (t : Bool). asks t 2 (asks (eqb (announced bytes) len) 3 value_whole)) (eq-eqb _ _ e)

      pub other_length : (announced bytes ≡ len → ⊥) → headed tag len bytes ≡ refused (3, [])
      other_length f = length_next ∙ asks_wrong (eqb (announced bytes) len) _ _ (ne_eqb _ _ f)

      -- and its length
      module _ (f : announced bytes ≡ len) where
        value_next : headed tag len bytes ≡ value_whole
        value_next = length_next ∙ ap (λ (t : Bool). asks t 3 value_whole) (eq-eqb _ _ f)

        pub cut_value : length bytes - head_bytes < announced bytes → headed tag len bytes ≡ refused (1, [])
        cut_value k = value_next ∙ asks_wrong (leb (announced bytes) (length bytes - head_bytes)) _ _ (lt-leb _ _ k)

        pub whole_head : announced bytes ≤ length bytes - head_bytes → headed tag len bytes ≡ passed
        whole_head k = value_next ∙ asks_right (leb (announced bytes) (length bytes - head_bytes)) _ _ (le→leb _ _ k)

-- ---- one field, and the next

module _ (f : Field) (bytes : List ℕ) where
  pub field_head : (r : Reason) → headed f.tag f.size bytes ≡ refused r → field f bytes ≡ refused r
  unfolding field
  field_head r e = then_refused (headed f.tag f.size bytes) _ r e

  -- after a right head
  module _ (e : headed f.tag f.size bytes ≡ passed) where
    pub head_holds : head_bytes + f.size ≤ length bytes
    unfolding headed
    head_holds =
        let a = asks_done (leb head_bytes (length bytes)) _ _ e in
        let b = asks_done (eqb (get_or bytes 0 0) f.tag) _ _ a.1 in
        let c = asks_done (eqb (announced bytes) f.size) _ _ b.1 in
        let d = asks_done (leb (announced bytes) (length bytes - head_bytes)) _ _ c.1 in
        omega (arith, leb→le head_bytes (length bytes) a.0, eqb→eq (announced bytes) f.size c.0, leb→le (announced bytes) (length bytes - head_bytes) d.0)

    pub field_judged : (t : Bool) → f.right (take f.size (drop head_bytes bytes)) ≡ t → field f bytes ≡ asks t 4 passed
    unfolding field
    field_judged t g = then_right (headed f.tag f.size bytes) _ e ∙ ap (λ (t : Bool). asks t 4 passed) g

  pub field_holds : field f bytes ≡ passed → head_bytes + f.size ≤ length bytes
  field_holds e = omega (arith, (field_done f 0 bytes e).whole)

  -- what follows it is read next
  module _ (fs : List Field) where
    pub next_read : field f bytes ≡ passed → form_by (f ∷ fs) bytes ≡ form_by fs (drop (head_bytes + f.size) bytes)
    unfolding form_by
    next_read e = then_right (field f bytes) _ e

    pub next_refused : (r : Reason) → field f bytes ≡ refused r → form_by (f ∷ fs) bytes ≡ refused r
    unfolding form_by
    next_refused r e = then_refused (field f bytes) _ r e

pub ends_there : (bytes : List ℕ) → length bytes ≡ 0 → form_by [] bytes ≡ passed
unfolding form_by
ends_there bytes h = ap (λ (t : Bool). asks t 5 passed) (eq-eqb _ _ h)

pub more_follows : (bytes : List ℕ) → (length bytes ≡ 0 → ⊥) → form_by [] bytes ≡ refused (5, [])
unfolding form_by
more_follows bytes h = asks_wrong (eqb (length bytes) 0) _ _ (ne_eqb _ _ h)

-- ---- what follows the field of a tag, in a table of L levels

-- what holds of the five tags holds of each
by_tag : (P : ℕ → Type 0) → P depth_tag → P levels_tag → P constants_tag → P nodes_tag → P products_tag → (tag : ℕ) → IsTag tag → P tag
by_tag P a b c d e zero h = absurd (omega arith)
by_tag P a b c d e (suc zero) h = a
by_tag P a b c d e (suc (suc zero)) h = b
by_tag P a b c d e (suc (suc (suc zero))) h = c
by_tag P a b c d e (suc (suc (suc (suc zero)))) h = d
by_tag P a b c d e (suc (suc (suc (suc (suc zero))))) h = e
by_tag P a b c d e (suc (suc (suc (suc (suc (suc n)))))) h = absurd (omega arith)

-- of a tag before the fifth: field by field
module _ (L tag : ℕ) (is : IsTag tag) (four : tag ≤ nodes_tag) (bytes : List ℕ) where
  abbrev its : Field
  its = field_of (fields true L) tag

  due : (has_products : Bool) → fields_after has_products L (tag - 1) ≡ its ∷ fields_after has_products L tag
  due has_products = by_tag (λ (k : ℕ). k ≤ nodes_tag → fields_after has_products L (k - 1) ≡ field_of (fields true L) k ∷ fields_after has_products L k) (λ h. refl) (λ h. refl) (λ h. refl) (λ h. refl) (λ h. absurd (omega arith)) tag is four

  pub after_refused : (r : Reason) → field its bytes ≡ refused r → form_after L (tag - 1) bytes ≡ refused r
  unfolding form_after
  after_refused r e = ap (λ (fs : List Field). form_by fs bytes) (due (fifth_after L (tag - 1) bytes)) ∙ next_refused its bytes _ r e

  pub after_read : field its bytes ≡ passed → form_after L (tag - 1) bytes ≡ form_after L tag (drop (head_bytes + value_length L tag) bytes)
  unfolding form_after
  after_read e =
      let rest = drop (head_bytes + its.size) bytes in
      let has_products : fifth_after L (tag - 1) bytes ≡ fifth_after L tag rest = ap (λ (fs : List Field). eqb (get_or bytes (size_of fs) 0) products_tag) (due false) ∙ ap (λ (b : ℕ). eqb b products_tag) (sym (get_or-drop (head_bytes + its.size) bytes (size_of (fields_after false L tag)) 0)) in
      ap (λ (fs : List Field). form_by fs bytes) (due (fifth_after L (tag - 1) bytes)) ∙ next_read its bytes _ e ∙ ap (λ (b : Bool). form_by (fields_after b L tag) rest) has_products

-- after the fourth: nothing, tag 5, or another byte (document 02, job 7)
module _ (L : ℕ) (bytes : List ℕ) where
  pub nothing_after : length bytes ≡ 0 → form_after L nodes_tag bytes ≡ passed
  unfolding form_after
  nothing_after h = go bytes h
    where
      go : (l : List ℕ) → length l ≡ 0 → form_after L nodes_tag l ≡ passed
      go [] k = ends_there [] refl
      go (a ∷ l) k = absurd (omega arith)

  pub other_after : (length bytes ≡ 0 → ⊥) → (get_or bytes 0 0 ≡ products_tag → ⊥) → form_after L nodes_tag bytes ≡ refused (5, [])
  unfolding form_after
  other_after h k = ap (λ (b : Bool). form_by (fields_after b L nodes_tag) bytes) (ne_eqb _ _ k) ∙ more_follows bytes h

  pub five_after : get_or bytes 0 0 ≡ products_tag → form_after L nodes_tag bytes ≡ form_by (products_field L ∷ []) bytes
  unfolding form_after
  five_after k = ap (λ (b : Bool). form_by (fields_after b L nodes_tag) bytes) (eq-eqb _ _ k)

-- ---- fields by tag

module _ (L : ℕ) where
  pub tag_is : (tag : ℕ) → IsTag tag → (field_of (fields true L) tag).tag ≡ tag
  tag_is = by_tag (λ (tag : ℕ). (field_of (fields true L) tag).tag ≡ tag) refl refl refl refl refl

  -- the rule of a value is the same for any number of levels
  pub rule_is : (tag : ℕ) → IsTag tag → (field_of (fields true L) tag).right ≡ (field_of (fields true 0) tag).right
  rule_is = by_tag (λ (tag : ℕ). (field_of (fields true L) tag).right ≡ (field_of (fields true 0) tag).right) refl refl refl refl refl

  pub short_length : (tag : ℕ) → IsTag tag → tag ≤ levels_tag → value_length L tag ≡ 1
  short_length = by_tag (λ (tag : ℕ). tag ≤ levels_tag → value_length L tag ≡ 1) (λ i. refl) (λ i. refl) (λ i. absurd (omega arith)) (λ i. absurd (omega arith)) (λ i. absurd (omega arith))

  -- a value starts after the one before it and its own head
  abbrev Next : ℕ → Type 0
  Next tag = tag < products_tag → value_start L (tag + 1) ≡ value_start L tag + value_length L tag + head_bytes

  pub start_next : (tag : ℕ) → IsTag tag → Next tag
  start_next = by_tag Next (λ i. refl) (λ i. refl) (λ i. refl) (λ i. omega arith) (λ i. absurd (omega arith))

  -- a value starts after its own head
  pub start_after_lem : (tag : ℕ) → IsTag tag → value_start L tag - head_bytes + head_bytes ≡ value_start L tag
  start_after_lem = by_tag (λ (tag : ℕ). value_start L tag - head_bytes + head_bytes ≡ value_start L tag) refl refl refl refl (omega arith)

  -- and ends where the table ends, or before: a table has tags 1 to 4, and it may have tag 5
  abbrev Ends : Bool → ℕ → Type 0
  Ends has_products tag = value_start L tag + value_length L tag ≤ table_size has_products L

  pub value_ends : (tag : ℕ) → IsTag tag → Ends true tag
  value_ends = by_tag (Ends true) (omega arith) (omega arith) (omega arith) (omega arith) (omega arith)

  pub value_within : (has_products : Bool) (tag : ℕ) → IsTag tag → T (leb tag nodes_tag || has_products) → Ends has_products tag
  value_within true tag h k = value_ends tag h
  value_within false tag h k = by_tag (λ (tag : ℕ). T (leb tag nodes_tag || false) → Ends false tag) (λ i. omega arith) (λ i. omega arith) (λ i. omega arith) (λ i. omega arith) (λ i. absurd i) tag h k

  -- no value is empty
  pub value_some : 1 ≤ L → (tag : ℕ) → IsTag tag → 1 ≤ value_length L tag
  value_some some = by_tag (λ (tag : ℕ). 1 ≤ value_length L tag) (omega arith) (omega arith) (omega arith) (omega arith) (omega arith)

-- a value put over so many zeros
pub over_zeros : (m n : ℕ) (value its lent : List ℕ) → lent ≡ paste (replicate m 0) 0 value (length value) → (value ≡ its) × (length value ≡ n) → lent ≡ its ++ replicate (m - n) 0
over_zeros m n value its lent e h =
    let start : 0 + length value ≡ length value = omega arith in
    let zeros : List ℕ = replicate m 0 in
    e
    ∙ ap₂ (λ (l r : List ℕ). l ++ r) (take-length value) (ap (λ (k : ℕ). drop k zeros) start ∙ drop_zeros (length value) m)
    ∙ ap₂ (λ (l : List ℕ) (k : ℕ). l ++ replicate (m - k) 0) h.0 h.1
  where
    drop_zeros : (n m : ℕ) → drop {A = ℕ} n (replicate m 0) ≡ replicate (m - n) 0
    drop_zeros zero m = let e : m ≡ m - 0 = omega arith in ap (λ (k : ℕ). replicate k 0) e
    drop_zeros (suc n) zero = let e : 0 ≡ 0 - suc n = omega arith in ap (λ (k : ℕ). replicate k 0) e
    drop_zeros (suc n) (suc m) = let e : m - n ≡ suc m - suc n = omega arith in drop_zeros n m ∙ ap (λ (k : ℕ). replicate k 0) e

-- ---- the table that reading gives

module _ (bytes : List ℕ) where
  pub table_read_lem : form bytes ≡ passed → table_read bytes ≡ table_in bytes
  unfolding table_read
  table_read_lem e = answered_done (table_in bytes) empty_table e

  pub no_table : (r : Reason) → form bytes ≡ refused r → table_read bytes ≡ empty_table
  unfolding table_read
  no_table r e = answered_refused (table_in bytes) empty_table e

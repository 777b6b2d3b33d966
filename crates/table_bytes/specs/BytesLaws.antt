-- Fields by their places; a table read from bytes is written as those bytes; a table of right form is read back from its bytes;
-- where a tag's value lies.
use Prim.Native.Nat.{ℕ, ◌+◌, ◌*◌, ◌-◌, ◌/◌, ◌%◌, ◌<◌, ◌≤◌}
use Rattle.std.proofs.Math.Bool.{Bool, true, false}
use Rattle.std.specs.Prelude.{◌&&◌, ◌≡◌, leb, ltb, length, drop}
use mathlib.Core.List.{List, [], ◌∷◌, ◌++◌}
use Rattle.std.proofs.Math.Path.{refl, sym, ap}
use Rattle.std.proofs.Common.{◌∙◌, ap₂, subst, leb→le, le→leb, eqb→eq, length-append, length-drop, take-append-drop, drop_of_length-le, drop-drop, get_or-drop, drop_at, length-take-le}
use native.Mathlib.Omega.{arith}
use Rattle.std.proofs.Math.Dec.{T, eqb, eqb_refl}
use Rattle.std.proofs.Math.ListN.{get_or, take, replicate}
use Rattle.std.proofs.Math.Seq.{take_at}
use Rattle.refusals.specs.Answers.{Answer, done, passed, ◌then◌}
use Rattle.refusals.specs.AnswerLaws.{asks_done, asks_right, asks_wrong, then_done, then_right}
use Rattle.numbers.specs.Tests.{four, and_intro, every, between_≤, ltb-true, ltb-false}
use Rattle.numbers.specs.Lists.{next_one, next_two, one_of, every_one, zeros}
use Rattle.width_table.specs.declared.WidthTable.{WidthTable}
use Rattle.width_table.specs.Table.{max_levels, depth_right, levels_right, constant_right, product_right, form_right}
use Rattle.width_table.specs.Lists.{node_bytes, product_bytes, widths_right, used_products, FullLists, form_lists}
use Rattle.table_bytes.specs.Fields.{depth_tag, levels_tag, constants_tag, nodes_tag, products_tag, tag_right, head_bytes, Field, fixed_fields, nodes_field, products_field, last_fields, fields, size_of, field_of, start_of, table_size, value_start, value_length, field_bytes, bytes_of}
use Rattle.table_bytes.specs.Bytes.{announced, headed, field, form_by, depth_in, levels_in, has_fifth, form, value_in, products_in, table_in, bytes_of_table}
use Rattle.width_table.specs.FormLists.{form_lists_lem}
use Rattle.table_bytes.specs.Names.{has_tag, name_answer, naming, part_at}

-- ---- one field

-- a right field at place n of the bytes
pub record FieldAt (f : Field) (n : ℕ) (bytes : List ℕ) : Type 0 where
  pub whole : n + (head_bytes + f.size) ≤ length bytes
  pub its : get_or bytes n 0 ≡ f.tag
  pub says : get_or bytes (n + 1) 0 * 256 + get_or bytes (n + 2) 0 ≡ f.size
  pub value : T (f.right (take f.size (drop (n + head_bytes) bytes)))

pub field_done : (f : Field) (n : ℕ) (bytes : List ℕ) → field f (drop n bytes) ≡ passed → FieldAt f n bytes
unfolding field headed
field_done f n bytes e =
    let b = drop n bytes in
    let g = then_done (headed f.tag f.size b) _ e in
    let h = asks_done (leb head_bytes (length b)) _ _ g.0 in
    let i = asks_done (eqb (get_or b 0 0) f.tag) _ _ h.1 in
    let j = asks_done (eqb (announced b) f.size) _ _ i.1 in
    let k = asks_done (leb (announced b) (length b - head_bytes)) _ _ j.1 in
    let v = asks_done (f.right (take f.size (drop head_bytes b))) _ _ g.1 in
    let front : n + 0 ≡ n = omega arith in
    let says : announced b ≡ f.size = eqb→eq (announced b) f.size j.0 in
    record {
      whole = omega (arith, leb→le head_bytes (length b) h.0, leb→le (announced b) (length b - head_bytes) k.0, says, length-drop n bytes);
      its = ap (λ (m : ℕ). get_or bytes m 0) (sym front) ∙ sym (get_or-drop n bytes 0 0) ∙ eqb→eq (get_or b 0 0) f.tag i.0;
      says = ap₂ (λ (x y : ℕ). x * 256 + y) (sym (get_or-drop n bytes 1 0)) (sym (get_or-drop n bytes 2 0)) ∙ says;
      value = subst (λ (l : List ℕ). T (f.right (take f.size l))) (drop-drop head_bytes n bytes) v.0;
    }

same : {a b : ℕ} → a ≡ b → T (eqb a b)
same {a} e = subst (λ (n : ℕ). T (eqb a n)) e (eqb_refl a)

-- at the front
pub field_right : (f : Field) (bytes : List ℕ) → FieldAt f 0 bytes → field f bytes ≡ passed
unfolding field headed
field_right f bytes r =
    then_right (headed f.tag f.size bytes) _ head ∙ asks_right (f.right (take f.size (drop head_bytes bytes))) _ _ r.value
  where
    head : headed f.tag f.size bytes ≡ passed
    head =
        asks_right (leb head_bytes (length bytes)) _ _ (le→leb head_bytes (length bytes) (omega (arith, r.whole)))
        ∙ asks_right (eqb (get_or bytes 0 0) f.tag) _ _ (same r.its)
        ∙ asks_right (eqb (announced bytes) f.size) _ _ (same r.says)
        ∙ asks_right (leb (announced bytes) (length bytes - head_bytes)) _ _ (le→leb (announced bytes) (length bytes - head_bytes) (omega (arith, r.says, r.whole)))

-- its bytes, and what follows
field_bytes_lem : (f : Field) (n : ℕ) (bytes : List ℕ) → f.size < 256 → FieldAt f n bytes
    → drop n bytes ≡ field_bytes f (take f.size (drop (n + head_bytes) bytes)) ++ drop (n + (head_bytes + f.size)) bytes
field_bytes_lem f n bytes small r =
    let high : get_or bytes (n + 1) 0 ≡ f.size / 256 = omega (arith, r.says) in
    let low : get_or bytes (n + 2) 0 ≡ f.size % 256 = omega (arith, r.says) in
    let s : n + 2 + 1 ≡ n + head_bytes = omega arith in
    let p : n + head_bytes + f.size ≡ n + (head_bytes + f.size) = omega arith in
    let v = drop (n + head_bytes) bytes in
    next_two bytes 0 n (omega (arith, r.whole))
    ∙ ap (λ (l : List ℕ). get_or bytes n 0 ∷ get_or bytes (n + 1) 0 ∷ l) (next_one bytes 0 (n + 2) (omega (arith, r.whole)))
    ∙ (λ u. r.its u ∷ high u ∷ low u ∷ drop (s u) bytes)
    ∙ ap (λ (l : List ℕ). f.tag ∷ f.size / 256 ∷ f.size % 256 ∷ l)
    (sym (take-append-drop f.size v) ∙ ap (λ (l : List ℕ). take f.size v ++ l) (drop-drop f.size (n + head_bytes) bytes ∙ ap (λ (m : ℕ). drop m bytes) p))

-- ---- fields in order

-- right fields from place n on, to the end
abbrev pub RightFrom : List Field → ℕ → List ℕ → Type 0
RightFrom [] n bytes = length bytes ≡ n
RightFrom (f ∷ fs) n bytes = FieldAt f n bytes × RightFrom fs (n + (head_bytes + f.size)) bytes

pub right_from : (fs : List Field) (n : ℕ) (bytes : List ℕ) → n ≤ length bytes → form_by fs (drop n bytes) ≡ passed → RightFrom fs n bytes
unfolding form_by
right_from [] n bytes h e = omega (arith, eqb→eq (length (drop n bytes)) 0 (asks_done (eqb (length (drop n bytes)) 0) _ _ e).0, length-drop n bytes)
right_from (f ∷ fs) n bytes h e =
    let g = then_done (field f (drop n bytes)) _ e in
    let r = field_done f n bytes g.0 in
    (r, right_from fs (n + (head_bytes + f.size)) bytes r.whole (ap (form_by fs) (sym (drop-drop (head_bytes + f.size) n bytes)) ∙ g.1))

pub right_long : (fs : List Field) (n : ℕ) (bytes : List ℕ) → RightFrom fs n bytes → length bytes ≡ n + size_of fs
right_long [] n bytes r = omega (arith, r)
right_long (f ∷ fs) n bytes r = omega (arith, right_long fs (n + (head_bytes + f.size)) bytes r.1)

-- a table has these values, and they are short
abbrev FieldsHold : WidthTable → List Field → ℕ → List ℕ → Type 0
FieldsHold t [] n bytes = Unit
FieldsHold t (f ∷ fs) n bytes = (f.size < 256) × (take f.size (drop (n + head_bytes) bytes) ≡ f.held t) × FieldsHold t fs (n + (head_bytes + f.size)) bytes

holds_bytes : (t : WidthTable) (fs : List Field) (n : ℕ) (bytes : List ℕ) → RightFrom fs n bytes → FieldsHold t fs n bytes → bytes_of fs t ≡ drop n bytes
holds_bytes t [] n bytes r h = sym (drop_of_length-le bytes {i = n} (omega (arith, r)))
holds_bytes t (f ∷ fs) n bytes r h =
    ap₂ (λ (v l : List ℕ). field_bytes f v ++ l) (sym h.1) (holds_bytes t fs (n + (head_bytes + f.size)) bytes r.1 h.2)
    ∙ sym (field_bytes_lem f n bytes h.0 r.0)

-- what a table has for each field is right and as long as it is to be
abbrev Right : WidthTable → List Field → Type 0
Right t [] = Unit
Right t (f ∷ fs) = (length (f.held t) ≡ f.size) × T (f.right (f.held t)) × Right t fs

bytes_right : (t : WidthTable) (fs : List Field) → Right t fs → form_by fs (bytes_of fs t) ≡ passed
unfolding form_by
bytes_right t [] r = refl
bytes_right t (f ∷ fs) r =
    let v = f.held t in
    let rest = bytes_of fs t in
    let l = field_bytes f v ++ rest in
    let at : FieldAt f 0 l = record {
      whole = omega (arith, length-append v rest, r.0);
      its = refl;
      says = omega arith;
      value = subst (λ (x : List ℕ). T (f.right x)) (sym (take_at v rest f.size r.0)) r.1;
    }
    in
    then_right (field f l) _ (field_right f l at)
    ∙ ap (form_by fs) (sym (drop-drop f.size head_bytes l) ∙ drop_at v rest f.size r.0)
    ∙ bytes_right t fs r.2

-- what follows them
bytes_after_lem : (t : WidthTable) (fs gs : List Field) → Right t fs → drop (size_of fs) (bytes_of (fs ++ gs) t) ≡ bytes_of gs t
bytes_after_lem t [] gs r = refl
bytes_after_lem t (f ∷ fs) gs r =
    let rest = bytes_of (fs ++ gs) t in
    sym (drop-drop (size_of fs) (head_bytes + f.size) (field_bytes f (f.held t) ++ rest))
    ∙ ap (drop (size_of fs)) (drop_at (field_bytes f (f.held t)) rest (head_bytes + f.size) (omega (arith, r.0)))
    ∙ bytes_after_lem t fs gs r.2

-- the value of the next one
value_after : (t : WidthTable) (fs : List Field) (f : Field) (gs : List Field) → Right t fs → length (f.held t) ≡ f.size → take f.size (drop (size_of fs + head_bytes) (bytes_of (fs ++ (f ∷ gs)) t)) ≡ f.held t
value_after t fs f gs r long =
    ap (take f.size) (sym (drop-drop head_bytes (size_of fs) (bytes_of (fs ++ (f ∷ gs)) t)) ∙ ap (drop head_bytes) (bytes_after_lem t fs (f ∷ gs) r))
    ∙ take_at (f.held t) (bytes_of gs t) f.size long

bytes_sized : (t : WidthTable) (fs : List Field) → Right t fs → length (bytes_of fs t) ≡ size_of fs
bytes_sized t [] r = refl
bytes_sized t (f ∷ fs) r = omega (arith, length-append (f.held t) (bytes_of fs t), r.0, bytes_sized t fs r.2)

-- ---- the whole form

-- tag 5 makes a table longer
pub without_less : (has_products : Bool) (L : ℕ) → table_size false L ≤ table_size has_products L
without_less true L = omega arith
without_less false L = omega arith

abbrev pub Form : List ℕ → Type 0
Form bytes = RightFrom (fields (has_fifth bytes) (levels_in bytes)) 0 bytes

module _ (bytes : List ℕ) (e : form bytes ≡ passed) where
  abbrev L : ℕ
  L = levels_in bytes

  abbrev N : ℕ
  N = node_bytes L

  abbrev M : ℕ
  M = product_bytes L

  pub form_done : Form bytes
  unfolding form
  form_done = right_from (fields (has_fifth bytes) L) 0 bytes (omega arith) e

  pub form_long : length bytes ≡ table_size (has_fifth bytes) L
  form_long = omega (arith, right_long (fields (has_fifth bytes) L) 0 bytes form_done)

  -- the first four fields are there, and with tag 5 the fifth
  pub four_there : table_size false L ≤ length bytes
  four_there = omega (arith, form_done.1.1.1.0.whole)

  pub five_long : has_fifth bytes ≡ true → length bytes ≡ table_size true L
  five_long has_products = form_long ∙ ap (λ (b : Bool). table_size b L) has_products

  -- there is tag 5 where there are more bytes than a table without it has
  pub five_longer : has_fifth bytes ≡ ltb (table_size false L) (length bytes)
  five_longer = go (has_fifth bytes) refl
    where
      go : (b : Bool) → has_fifth bytes ≡ b → b ≡ ltb (table_size false L) (length bytes)
      go true has_products = sym (ltb-true (table_size false L) (length bytes) (omega (arith, five_long has_products)))
      go false none = sym (ltb-false (table_size false L) (length bytes) (omega (arith, form_long ∙ ap (λ (b : Bool). table_size b L) none)))

  -- the numbers of the first two fields
  pub depth_byte : T (depth_right (depth_in bytes))
  depth_byte = every_one depth_right bytes 0 (start_of fixed_fields depth_tag) (omega (arith, four_there)) form_done.0.value

  pub levels_byte : T (levels_right (levels_in bytes))
  levels_byte = every_one levels_right bytes 0 (start_of fixed_fields levels_tag) (omega (arith, four_there)) form_done.1.0.value

  pub levels_most : levels_in bytes ≤ max_levels
  levels_most = (between_≤ 1 max_levels (levels_in bytes) levels_byte).1

  -- the values of the last fields
  pub nodes_long : length (value_in bytes nodes_tag) ≡ N
  nodes_long = let start = value_start L nodes_tag in length-take-le N (drop start bytes) (omega (arith, length-drop start bytes, four_there))

  pub products_long : has_fifth bytes ≡ true → length (value_in bytes products_tag) ≡ M
  products_long has_products = let start = value_start L products_tag in length-take-le M (drop start bytes) (omega (arith, length-drop start bytes, five_long has_products))

  pub products_right : has_fifth bytes ≡ true → T (every product_right (value_in bytes products_tag))
  products_right = last _ form_done.1.1.1.1 (omega arith)
    where
      last : (n : ℕ) → RightFrom (last_fields (has_fifth bytes) L) n bytes → n + head_bytes ≡ value_start L products_tag → has_fifth bytes ≡ true → T (every product_right (value_in bytes products_tag))
      last n r place has_products = subst (λ (k : ℕ). T (every product_right (take M (drop k bytes)))) place (subst (λ (b : Bool). RightFrom (last_fields b L) n bytes) has_products r).0.value

  -- the table that they hold has the fields' values
  last_value : (n : ℕ) → n ≡ table_size false L → (has_products : Bool) → has_fifth bytes ≡ has_products → FieldsHold (table_in bytes) (last_fields has_products L) n bytes
  unfolding table_in
  last_value n e true has_products =
      let few = levels_most in
      let place : n + head_bytes ≡ value_start L products_tag = omega arith in (
        omega arith,
        ap (λ (k : ℕ). take M (drop k bytes)) place
            ∙ sym (ap (λ (b : Bool). take M (products_in b bytes)) has_products ∙ take_at (value_in bytes products_tag) (replicate (product_bytes max_levels - M) 0) M (products_long has_products)),
        tt,
      )
  last_value n e false none = tt

  values : FieldsHold (table_in bytes) (fields (has_fifth bytes) L) 0 bytes
  unfolding table_in
  values =
      let few = levels_most in (
        omega arith,
        one_of bytes 0 (start_of fixed_fields depth_tag) (omega (arith, four_there)),
        (
          omega arith,
          one_of bytes 0 (start_of fixed_fields levels_tag) (omega (arith, four_there)),
          (
            omega arith,
            refl,
            (omega arith, sym (take_at (value_in bytes nodes_tag) (replicate (node_bytes max_levels - N) 0) N nodes_long), last_value _ (omega arith) (has_fifth bytes) refl),
          ),
        ),
      )

  -- a table read from bytes is written as those bytes
  pub read_written : bytes_of_table (table_in bytes) ≡ bytes
  unfolding bytes_of_table table_in
  read_written = holds_bytes (table_in bytes) (fields (has_fifth bytes) L) 0 bytes form_done values

  -- where a tag's value lies
  value_of : (tag : ℕ) → T (tag_right tag) → T (has_tag bytes tag) → part_at bytes (naming bytes tag) ≡ value_in bytes tag
  unfolding naming name_answer
  value_of tag h k =
      ap (λ (o : Answer Unit). part_at bytes (o then done (value_start L tag, value_length L tag))) (asks_right (tag_right tag) _ _ h ∙ then_right (form bytes) _ e ∙ asks_right (has_tag bytes tag) _ _ k)

  pub depth_value : part_at bytes (naming bytes depth_tag) ≡ (table_in bytes).depth ∷ []
  depth_value = value_of depth_tag tt tt ∙ values.1

  pub levels_value : part_at bytes (naming bytes levels_tag) ≡ (table_in bytes).levels ∷ []
  levels_value = value_of levels_tag tt tt ∙ values.2.1

  pub constants_value : part_at bytes (naming bytes constants_tag) ≡ (table_in bytes).constants
  constants_value = value_of constants_tag tt tt ∙ values.2.2.1

  pub nodes_value : part_at bytes (naming bytes nodes_tag) ≡ take (node_bytes (table_in bytes).levels) (table_in bytes).nodes
  unfolding table_in
  nodes_value = value_of nodes_tag tt tt ∙ values.2.2.2.1

  -- the widths of products that the table has; where it has none, naming is refused
  pub products_value : part_at bytes (naming bytes products_tag) ≡ take (used_products (table_in bytes)) (table_in bytes).products
  unfolding table_in naming name_answer
  products_value = go (has_fifth bytes) refl
    where
      go : (has_products : Bool) → has_fifth bytes ≡ has_products → part_at bytes (naming bytes products_tag) ≡ take (used_products (table_in bytes)) (table_in bytes).products
      go true has_products =
          value_of products_tag tt (subst T (sym has_products) tt)
          ∙ sym (ap (λ (b : Bool). take (elim b [ true ↦ M | false ↦ 0 ]) (products_in b bytes)) has_products ∙ take_at (value_in bytes products_tag) (replicate (product_bytes max_levels - M) 0) M (products_long has_products))
      go false none =
          ap (λ (o : Answer Unit). part_at bytes (o then done (value_start L products_tag, value_length L products_tag))) (then_right (form bytes) _ e ∙ asks_wrong (has_fifth bytes) (2, []) passed none)
          ∙ sym (ap (λ (b : Bool). take (elim b [ true ↦ M | false ↦ 0 ]) (products_in b bytes)) none)

-- ---- a table of right form is read back from its bytes

pub record RightForm (t : WidthTable) : Type 0 where
  pub depth : T (depth_right t.depth)
  pub levels : T (levels_right t.levels)
  pub constants : T (every constant_right t.constants)
  pub widths : T (widths_right (take (node_bytes t.levels) t.nodes))
  pub unused : T (every (eqb 0) (drop (node_bytes t.levels) t.nodes))
  pub products : T (every product_right (take (used_products t) t.products))
  pub unused_products : T (every (eqb 0) (drop (used_products t) t.products))

pub right_form : (t : WidthTable) → FullLists t → T (form_right t) → RightForm t
unfolding form_lists
right_form t s h =
    let a = depth_right t.depth in
    let b = levels_right t.levels in
    let c = every constant_right t.constants in
    let d = widths_right (take (node_bytes t.levels) t.nodes) in
    let e = every (eqb 0) (drop (node_bytes t.levels) t.nodes) in
    let f = every product_right (take (used_products t) t.products) in
    let g = every (eqb 0) (drop (used_products t) t.products) in
    let (x, y, z, w) = four (a && b && c && d) e f g (subst T (form_lists_lem t s) h) in
    let (i, j, k, l) = four a b c d x in
    record { depth = i; levels = j; constants = k; widths = l; unused = y; products = z; unused_products = w }

-- zeros after the first n numbers
filled : (l : List ℕ) (n m : ℕ) → length l ≡ m → T (every (eqb 0) (drop n l)) → take n l ++ replicate (m - n) 0 ≡ l
filled l n m long h =
    ap (λ (k : List ℕ). take n l ++ k) (sym (zeros (drop n l) h ∙ ap (λ (k : ℕ). replicate k 0) (length-drop n l ∙ ap (λ (k : ℕ). k - n) long)))
    ∙ take-append-drop n l

module _ (t : WidthTable) (s : FullLists t) (r : RightForm t) where
  abbrev few : t.levels ≤ max_levels
  few = (between_≤ 1 max_levels t.levels r.levels).1

  used_long : length (take (node_bytes t.levels) t.nodes) ≡ node_bytes t.levels
  used_long = length-take-le (node_bytes t.levels) t.nodes (omega (arith, few, s.nodes))

  products_used : length (take (product_bytes t.levels) t.products) ≡ product_bytes t.levels
  products_used = length-take-le (product_bytes t.levels) t.products (omega (arith, few, s.products))

  four_right : Right t (fields false t.levels)
  unfolding every
  four_right = (refl, and_intro (depth_right t.depth) true r.depth tt, (refl, and_intro (levels_right t.levels) true r.levels tt, (s.constants, r.constants, (used_long, r.widths, tt))))

  last_right : (has_products : Bool) → t.has_products ≡ has_products → Right t (last_fields has_products t.levels)
  last_right true has_products = (products_used, subst (λ (b : Bool). T (every product_right (take (elim b [ true ↦ product_bytes t.levels | false ↦ 0 ]) t.products))) has_products r.products, tt)
  last_right false none = tt

  fields_right : Right t (fields t.has_products t.levels)
  fields_right = (four_right.0, four_right.1, (four_right.2.0, four_right.2.1, (four_right.2.2.0, four_right.2.2.1, (used_long, r.widths, last_right t.has_products refl))))

  -- the byte after the fourth field says whether there is tag 5
  pub fifth_written : has_fifth (bytes_of_table t) ≡ t.has_products
  unfolding bytes_of_table
  fifth_written =
      let n = table_size false t.levels in
      let place : n ≡ n + 0 = omega arith in
      ap (λ (m : ℕ). eqb (get_or (bytes_of_table t) m 0) products_tag) place
      ∙ ap (λ (b : ℕ). eqb b products_tag) (sym (get_or-drop n (bytes_of_table t) 0 0) ∙ ap (λ (l : List ℕ). get_or l 0 0) (bytes_after_lem t (fields false t.levels) (last_fields t.has_products t.levels) four_right))
      ∙ go t.has_products
    where
      go : (has_products : Bool) → eqb (get_or (bytes_of (last_fields has_products t.levels) t) 0 0) products_tag ≡ has_products
      go true = refl
      go false = refl

  pub form_written : form (bytes_of_table t) ≡ passed
  unfolding form bytes_of_table
  form_written = ap (λ (b : Bool). form_by (fields b t.levels) (bytes_of_table t)) fifth_written ∙ bytes_right t (fields t.has_products t.levels) fields_right

  pub bytes_length : length (bytes_of_table t) ≡ table_size t.has_products t.levels
  unfolding bytes_of_table
  bytes_length = bytes_sized t (fields t.has_products t.levels) fields_right

  -- the products' numbers, with zeros after those of the table's levels
  products_written : (has_products : Bool) → t.has_products ≡ has_products → products_in has_products (bytes_of_table t) ≡ t.products
  unfolding bytes_of_table
  products_written true has_products =
      let M = product_bytes t.levels in
      let place : value_start t.levels products_tag ≡ table_size false t.levels + head_bytes = omega arith in
      let value : value_in (bytes_of_table t) products_tag ≡ take M t.products =
      ap (λ (b : Bool). take M (drop (value_start t.levels products_tag) (bytes_of (fields b t.levels) t))) has_products
      ∙ ap (λ (n : ℕ). take M (drop n (bytes_of (fields true t.levels) t))) place
      ∙ value_after t (fields false t.levels) (products_field t.levels) [] four_right products_used
      in
      ap (λ (l : List ℕ). l ++ replicate (product_bytes max_levels - M) 0) value
      ∙ filled t.products M (product_bytes max_levels) s.products (subst (λ (b : Bool). T (every (eqb 0) (drop (elim b [ true ↦ M | false ↦ 0 ]) t.products))) has_products r.unused_products)
  products_written false none = filled t.products 0 (product_bytes max_levels) s.products (subst (λ (b : Bool). T (every (eqb 0) (drop (elim b [ true ↦ product_bytes t.levels | false ↦ 0 ]) t.products))) none r.unused_products)

  pub written_read : table_in (bytes_of_table t) ≡ t
  unfolding bytes_of_table table_in
  written_read =
      let L = t.levels in
      let N = node_bytes L in
      let fs = last_fields t.has_products L in
      let c : value_in (bytes_of_table t) constants_tag ≡ t.constants = value_after t (take levels_tag fixed_fields) (field_of fixed_fields constants_tag) (nodes_field L ∷ fs) (four_right.0, four_right.1, (refl, four_right.2.1, tt)) s.constants in
      let n : value_in (bytes_of_table t) nodes_tag ≡ take N t.nodes = value_after t fixed_fields (nodes_field L) fs (four_right.0, four_right.1, (refl, four_right.2.1, (s.constants, r.constants, tt))) used_long in
      let m = ap (λ (l : List ℕ). l ++ replicate (node_bytes max_levels - N) 0) n ∙ filled t.nodes N (node_bytes max_levels) s.nodes r.unused in
      let p = ap (λ (b : Bool). products_in b (bytes_of_table t)) fifth_written ∙ products_written t.has_products refl in
      λ u. table (c u) (m u) (fifth_written u) (p u)
    where
      table : List ℕ → List ℕ → Bool → List ℕ → WidthTable
      table c n b p = record { depth = t.depth; levels = t.levels; constants = c; nodes = n; has_products = b; products = p }

-- Forms of before, kept for what document 02 asks to be shown of earlier answers. Document 01 had four fields, and judged a field in the
-- rising order of its refusals (`earlier_form`); job 3 changed that order (`form_without`), and job 7 then gave a table a fifth field (`form`).
use Rattle.std.specs.Prelude.{ℕ, ◌+◌, ◌-◌, Bool, false, ◌&&◌, ◌||◌, not, List, [], ◌∷◌, ◌≡◌, T, leb, eqb, length, get_or, take, drop}
use Rattle.numbers.specs.Tests.{between}
use Rattle.refusals.specs.Answers.{Answer, refused, passed, asks, ◌then◌, answered}
use Rattle.width_table.specs.declared.WidthTable.{WidthTable}
use Rattle.table_bytes.specs.Fields.{depth_tag, nodes_tag, head_bytes, Field, fields}
use Rattle.table_bytes.specs.Bytes.{announced, field, form_by, levels_in, table_in, empty_table}

-- ---- between job 3 and job 7

-- four fields, in the order of job 3, and 5 where bytes follow them
unfoldable pub form_without : List ℕ → Answer Unit
form_without bytes = form_by (fields false (levels_in bytes)) bytes

-- naming a tag: the name, 1 to 4 (2), then the whole form
unfoldable pub name_answer_without : List ℕ → ℕ → Answer Unit
name_answer_without bytes tag = asks (between depth_tag nodes_tag tag) 2 (form_without bytes)

-- ---- before job 3: document 01

-- refusals 1 to 3, in rising order: a value that is cut short (1) came before a wrong tag (2) and a wrong length (3)
unfoldable pub earlier_headed : ℕ → ℕ → List ℕ → Answer Unit
earlier_headed tag len bytes =
    asks (leb head_bytes (length bytes)) 1
    (asks (leb (announced bytes) (length bytes - head_bytes)) 1
    (asks (eqb (get_or bytes 0 0) tag) 2
    (asks (eqb (announced bytes) len) 3
    passed)))

-- one field, 4 last, as in `field`
unfoldable pub earlier_field : Field → List ℕ → Answer Unit
earlier_field f bytes = earlier_headed f.tag f.size bytes then asks (f.right (take f.size (drop head_bytes bytes))) 4 passed

-- fields one by one, then 5, as in `form_by`
unfoldable pub earlier_form_by : List Field → List ℕ → Answer Unit
earlier_form_by [] bytes = asks (eqb (length bytes) 0) 5 passed
earlier_form_by (f ∷ fs) bytes = earlier_field f bytes then earlier_form_by fs (drop (head_bytes + f.size) bytes)

-- four fields, and 5 where bytes follow them
unfoldable pub earlier_form : List ℕ → Answer Unit
earlier_form bytes = earlier_form_by (fields false (levels_in bytes)) bytes

-- the table that reading gave, as in `table_read`; right bytes held one without tag 5 (`earlier_without` of EarlierOrder)
unfoldable pub earlier_table_read : List ℕ → WidthTable
earlier_table_read bytes = answered (earlier_form bytes) (table_in bytes) empty_table

-- naming a tag: the name, 1 to 4 (2), then the whole form
unfoldable pub earlier_name_answer : List ℕ → ℕ → Answer Unit
earlier_name_answer bytes tag = asks (between depth_tag nodes_tag tag) 2 (earlier_form bytes)

-- ---- the two cases of document 02, job 3

-- the three head bytes are there, and fewer value bytes than they announce
abbrev pub value_cut : List ℕ → Bool
value_cut bytes = leb head_bytes (length bytes) && not (leb (announced bytes) (length bytes - head_bytes))

-- "a whole head with a wrong tag whose value is cut short"
abbrev pub wrong_tag_cut : Field → List ℕ → Bool
wrong_tag_cut f bytes = value_cut bytes && not (eqb (get_or bytes 0 0) f.tag)

-- "a due tag with a wrong length and a value cut short"
abbrev pub wrong_length_cut : Field → List ℕ → Bool
wrong_length_cut f bytes = value_cut bytes && eqb (get_or bytes 0 0) f.tag && not (eqb (announced bytes) f.size)

-- it is so of a field that reading comes to: every field before it is right
unfoldable pub comes_to : (Field → List ℕ → Bool) → List Field → List ℕ → Bool
comes_to test [] bytes = false
comes_to test (f ∷ fs) bytes = test f bytes || answered (field f bytes) (comes_to test fs (drop (head_bytes + f.size) bytes)) false

-- the same of a whole table's bytes: in whichever of the four fields
unfoldable pub happens : (Field → List ℕ → Bool) → List ℕ → Bool
happens test bytes = comes_to test (fields false (levels_in bytes)) bytes

abbrev pub in_either : List ℕ → Bool
in_either bytes = happens wrong_tag_cut bytes || happens wrong_length_cut bytes

-- ---- how an answer changed

-- By job 3: 1 became 2 or 3 in the two cases, and no other answer differs.
pub record Changes (bytes : List ℕ) {A : Type 0} (earlier later : Answer A) : Type 0 where
  pub two : T (happens wrong_tag_cut bytes) → (earlier ≡ refused (1, [])) × (later ≡ refused (2, []))
  pub three : T (happens wrong_length_cut bytes) → (earlier ≡ refused (1, [])) × (later ≡ refused (3, []))
  pub no_other : happens wrong_tag_cut bytes ≡ false → happens wrong_length_cut bytes ≡ false → later ≡ earlier

-- document 01 did not refuse the bytes for what follows the fourth field
abbrev pub NotFive : List ℕ → Type 0
NotFive bytes = earlier_form bytes ≡ refused (5, []) → ⊥

-- By job 3, and job 7 after it, which let a fifth field follow: the same, but that bytes refused 5 may be answered otherwise now.
pub record PresentChanges (bytes : List ℕ) {A : Type 0} (earlier present : Answer A) : Type 0 where
  pub two : T (happens wrong_tag_cut bytes) → (earlier ≡ refused (1, [])) × (present ≡ refused (2, []))
  pub three : T (happens wrong_length_cut bytes) → (earlier ≡ refused (1, [])) × (present ≡ refused (3, []))
  pub no_other : happens wrong_tag_cut bytes ≡ false → happens wrong_length_cut bytes ≡ false → NotFive bytes → present ≡ earlier

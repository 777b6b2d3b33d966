-- Width tables as bytes (document 01: books as bytes; document 02, job 7: tag 5): reading, refusals 1 to 5, and writing, refusals 4 and 9.
use Rattle.std.specs.Prelude.{ℕ, ◌+◌, ◌*◌, ◌-◌, Bool, true, false, List, [], ◌∷◌, ◌++◌, leb, eqb, length, get_or, take, drop, replicate}
use Rattle.std.proofs.Math.Seq.{paste}
use Rattle.numbers.specs.Lists.{over}
use Rattle.refusals.specs.Answers.{Answer, done, passed, asks, ◌then◌, answered}
use Rattle.width_table.specs.declared.WidthTable.{WidthTable}
use Rattle.width_table.specs.Nodes.{nodes_per_pass}
use Rattle.width_table.specs.Table.{max_levels, form_right}
use Rattle.width_table.specs.Lists.{node_bytes, product_bytes}
use Rattle.table_bytes.specs.Fields.{depth_tag, levels_tag, constants_tag, nodes_tag, products_tag, head_bytes, Field, fixed_fields, fields, start_of, table_size, value_start, value_length, bytes_of, size_of, field_of, fields_after, field_bytes}

-- ---- reading

-- the length that a field announces, high byte first
abbrev pub announced : List ℕ → ℕ
announced bytes = get_or bytes 1 0 * 256 + get_or bytes 2 0

-- The head of a field at the front of the bytes, in the order of document 02, job 3: tag and length are whole (1), the tag is the
-- next one due (2), the length is that tag's (3), and the announced value is whole (1).
unfoldable pub headed : ℕ → ℕ → List ℕ → Answer Unit
headed tag len bytes =
    asks (leb head_bytes (length bytes)) 1
    (asks (eqb (get_or bytes 0 0) tag) 2
    (asks (eqb (announced bytes) len) 3
    (asks (leb (announced bytes) (length bytes - head_bytes)) 1
    passed)))

-- One field: its head, and what is right for its value (4).
unfoldable pub field : Field → List ℕ → Answer Unit
field f bytes = headed f.tag f.size bytes then asks (f.right (take f.size (drop head_bytes bytes))) 4 passed

-- Fields are done one by one, refusals 1 to 4 within each, and what follows a field is read as input of its own; then 5.
unfoldable pub form_by : List Field → List ℕ → Answer Unit
form_by [] bytes = asks (eqb (length bytes) 0) 5 passed
form_by (f ∷ fs) bytes = field f bytes then form_by fs (drop (head_bytes + f.size) bytes)

-- the numbers of the first two fields
abbrev pub depth_in : List ℕ → ℕ
depth_in bytes = get_or bytes (start_of fixed_fields depth_tag) 0

abbrev pub levels_in : List ℕ → ℕ
levels_in bytes = get_or bytes (start_of fixed_fields levels_tag) 0

-- the byte right after the fourth field is 5: tag 5 is there (any other byte there is refused 5)
abbrev pub has_fifth : List ℕ → Bool
has_fifth bytes = eqb (get_or bytes (table_size false (levels_in bytes)) 0) products_tag

-- The fields of a table of as many levels as the second field has, which is right by the time that L counts.
unfoldable pub form : List ℕ → Answer Unit
form bytes = form_by (fields (has_fifth bytes) (levels_in bytes)) bytes

-- What follows the field of a tag, in a table of L levels: whether tag 5 is there (the byte right after the fourth field is 5),
abbrev pub fifth_after : ℕ → ℕ → List ℕ → Bool
fifth_after L tag bytes = eqb (get_or bytes (size_of (fields_after false L tag)) 0) products_tag

-- and the form from there on; that of 0 is `form`.
unfoldable pub form_after : ℕ → ℕ → List ℕ → Answer Unit
form_after L tag bytes = form_by (fields_after (fifth_after L tag bytes) L tag) bytes

-- the value of a tag in bytes of a right form
abbrev pub value_in : List ℕ → ℕ → List ℕ
value_in bytes tag = take (value_length (levels_in bytes) tag) (drop (value_start (levels_in bytes) tag) bytes)

-- the products' numbers, with zeros at unused levels; zeros alone without tag 5
abbrev pub products_in : Bool → List ℕ → List ℕ
products_in true bytes = value_in bytes products_tag ++ replicate (product_bytes max_levels - product_bytes (levels_in bytes)) 0
products_in false bytes = replicate (product_bytes max_levels) 0

-- the table that bytes of a right form hold, with zeros at unused levels
unfoldable pub table_in : List ℕ → WidthTable
table_in bytes = record {
  depth = depth_in bytes;
  levels = levels_in bytes;
  constants = value_in bytes constants_tag;
  nodes = value_in bytes nodes_tag ++ replicate (node_bytes max_levels - node_bytes (levels_in bytes)) 0;
  has_products = has_fifth bytes;
  products = products_in (has_fifth bytes) bytes;
}

-- what comes back where there is no table
abbrev pub empty_table : WidthTable
empty_table = record {
  depth = 0;
  levels = 0;
  constants = replicate nodes_per_pass 0;
  nodes = replicate (node_bytes max_levels) 0;
  has_products = false;
  products = replicate (product_bytes max_levels) 0;
}

-- The table that the call of reading gives; its answer is `form`.
unfoldable pub table_read : List ℕ → WidthTable
table_read bytes = answered (form bytes) (table_in bytes) empty_table

-- ---- writing

-- a table's bytes: its fields in order
unfoldable pub bytes_of_table : WidthTable → List ℕ
bytes_of_table t = bytes_of (fields t.has_products t.levels) t

-- lent bytes after a field of a table of L levels was put into its place
abbrev pub placed : ℕ → ℕ → List ℕ → List ℕ → List ℕ
placed L tag value lent = paste lent (value_start L tag - head_bytes) (field_bytes (field_of (fields true L) tag) value) (head_bytes + length value)

-- 4, then 9
unfoldable pub write_answer : WidthTable → List ℕ → Answer Unit
write_answer t lent = asks (form_right t) 4 (asks (leb (table_size t.has_products t.levels) (length lent)) 9 passed)

-- The call that writes a table into lent bytes: the answer, with the number of bytes, and the lent bytes afterwards.
unfoldable pub writing : WidthTable → List ℕ → Answer ℕ
writing t lent = write_answer t lent then done (table_size t.has_products t.levels)

unfoldable pub bytes_after : WidthTable → List ℕ → List ℕ
bytes_after t lent = answered (write_answer t lent) (over (bytes_of_table t) lent) lent

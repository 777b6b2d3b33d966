-- The fields of a width table's bytes (document 01: books as bytes; document 02, job 7: tag 5): one list, from which lengths, places and
-- bytes follow.
use Rattle.std.specs.Prelude.{ℕ, ◌+◌, ◌/◌, ◌%◌, ◌≤◌, Bool, true, false, List, [], ◌∷◌, ◌++◌, eqb, take, drop}
use Rattle.numbers.specs.Tests.{between, every}
use Rattle.width_table.specs.declared.WidthTable.{WidthTable}
use Rattle.width_table.specs.Nodes.{nodes_per_pass}
use Rattle.width_table.specs.Table.{depth_right, levels_right, constant_right, product_right}
use Rattle.width_table.specs.Lists.{node_bytes, product_bytes, widths_right}

-- A field: its tag, how long its value is, what is right for the value (4), and the value that a table has for it.
pub record Field : Type 0 where
  pub tag : ℕ
  pub size : ℕ
  pub right : List ℕ → Bool
  pub held : WidthTable → List ℕ

-- the tags, in their order, from 1
abbrev pub depth_tag : ℕ
depth_tag = 1

abbrev pub levels_tag : ℕ
levels_tag = 2

abbrev pub constants_tag : ℕ
constants_tag = 3

abbrev pub nodes_tag : ℕ
nodes_tag = 4

abbrev pub products_tag : ℕ
products_tag = 5

abbrev pub tag_right : ℕ → Bool
tag_right tag = between depth_tag products_tag tag

abbrev pub IsTag : ℕ → Type 0
IsTag tag = (depth_tag ≤ tag) × (tag ≤ products_tag)

-- bytes of a field before its value: a one-byte tag, a two-byte length
abbrev pub head_bytes : ℕ
head_bytes = 3

-- the tags whose lengths are the same in every table: depth, levels, F of P1, U1, P2, U2, G1, G2
abbrev pub fixed_fields : List Field
fixed_fields =
    record { tag = depth_tag; size = 1; right = every depth_right; held = λ t. t.depth ∷ [] }
    ∷ record { tag = levels_tag; size = 1; right = every levels_right; held = λ t. t.levels ∷ [] }
    ∷ record { tag = constants_tag; size = nodes_per_pass; right = every constant_right; held = λ t. t.constants }
    ∷ []

-- the widths of the nodes of L levels in book order, and those of their products
abbrev pub nodes_field : ℕ → Field
nodes_field L = record { tag = nodes_tag; size = node_bytes L; right = widths_right; held = λ t. take (node_bytes L) t.nodes }

abbrev pub products_field : ℕ → Field
products_field L = record { tag = products_tag; size = product_bytes L; right = every product_right; held = λ t. take (product_bytes L) t.products }

-- what a table may end with: tag 5, or nothing
abbrev pub last_fields : Bool → ℕ → List Field
last_fields true L = products_field L ∷ []
last_fields false L = []

-- every tag in order, once each, of a table of L levels with tag 5 or without it
abbrev pub fields : Bool → ℕ → List Field
fields has_products L = fixed_fields ++ (nodes_field L ∷ last_fields has_products L)

-- ---- what follows from the list

-- bytes of fields: each has its head and its value
abbrev pub size_of : List Field → ℕ
size_of [] = 0
size_of (f ∷ fs) = head_bytes + f.size + size_of fs

-- the field of a tag
abbrev pub field_of : List Field → ℕ → Field
field_of [] tag = record { tag = 0; size = 0; right = λ value. false; held = λ t. [] }
field_of (f ∷ fs) tag = elim (eqb f.tag tag) [ true ↦ f | false ↦ field_of fs tag ]

-- where the value of a tag starts: after the fields before it and its own head
abbrev pub start_of : List Field → ℕ → ℕ
start_of [] tag = 0
start_of (f ∷ fs) tag = elim (eqb f.tag tag) [ true ↦ head_bytes | false ↦ head_bytes + f.size + start_of fs tag ]

-- the same in a table of L levels; a tag's value, where it is there, lies the same with tag 5 and without it
abbrev pub table_size : Bool → ℕ → ℕ
table_size has_products L = size_of (fields has_products L)

abbrev pub value_start : ℕ → ℕ → ℕ
value_start L tag = start_of (fields true L) tag

abbrev pub value_length : ℕ → ℕ → ℕ
value_length L tag = (field_of (fields true L) tag).size

-- the fields after that of a tag
abbrev pub fields_after : Bool → ℕ → ℕ → List Field
fields_after has_products L tag = drop tag (fields has_products L)

-- a field as bytes: tag, length with the high byte first, value
abbrev pub field_bytes : Field → List ℕ → List ℕ
field_bytes f value = f.tag ∷ f.size / 256 ∷ f.size % 256 ∷ value

-- the fields of a table
abbrev pub bytes_of : List Field → WidthTable → List ℕ
bytes_of [] t = []
bytes_of (f ∷ fs) t = field_bytes f (f.held t) ++ bytes_of fs t

-- The C interface's calls: answers as numbers, and each lent slice afterwards. A width table comes as its bytes (refusals 1 to 5 first:
-- `form_then`, `after_form`); the judge and 9/7 forward are those of table_calls.
use Rattle.std.specs.Prelude.{ℕ, not, List, ◌≡◌, leb, eqb, length, replicate, ℤ, Result, IfOk}
use Rattle.numbers.specs.Lists.{over}
use Rattle.refusals.specs.Answers.{Answer, passed, asks, ◌then◌, answered}
use Rattle.width_table.specs.declared.WidthTable.{WidthTable}
use Rattle.width_table.specs.declared.NotChanged.{NotChanged}
use Rattle.width_table.specs.Table.{max_levels}
use Rattle.width_table.specs.Lists.{product_bytes}
use Rattle.table_bytes.specs.Fields.{table_size, value_start, value_length}
use Rattle.table_bytes.specs.Bytes.{levels_in, has_fifth, form, table_in, bytes_of_table, write_answer, bytes_after}
use Rattle.width_table.specs.Told.{told_change}
use Rattle.width_table.specs.Changes.{width_answer, with_width, constant_answer, with_constant, product_answer, with_product}
use Rattle.table_bytes.specs.Names.{name_answer}
use Rattle.stages.specs.Rule.{Bound}
use Rattle.precision.specs.BoundCalls.{bound_answer, bound_numbered}
use Rattle.view_precision.specs.Bounds.{view_verdict, view_distance}
use Rattle.viewing.specs.Calls.{view_answer, view_pixels, view_work}
use Rattle.table_calls.specs.Calls.{form_then, after_form}

-- ---- tables

-- where a tag's value starts and how long it is, written where the answer is 0
unfoldable pub start_after : List ℕ → ℕ → ℕ → ℕ
start_after bytes tag start = answered (name_answer bytes tag) (value_start (levels_in bytes) tag) start

unfoldable pub length_after : List ℕ → ℕ → ℕ → ℕ
length_after bytes tag len = answered (name_answer bytes tag) (value_length (levels_in bytes) tag) len

-- range and error of a node: 1 to 5 of the bytes, 4 where the table lacks the node, then 6 or 7 of the nodes before it
module _ (bytes : List ℕ) (level pass node : ℕ) where
  unfoldable pub table_bound_answer : Answer Unit
  table_bound_answer = form_then bytes (λ t. bound_answer t level pass node)

  abbrev pub bound_in : Bound
  bound_in = bound_numbered (table_in bytes) level pass node

  -- written where the answer is 0
  unfoldable pub range_after : ℕ → ℕ
  range_after range = answered table_bound_answer bound_in.range range

  unfoldable pub error_after : ℕ → ℕ
  error_after error = answered table_bound_answer bound_in.error error

-- A new table from the old one, written to lent bytes: 1 to 5 of the old one's bytes, 4 for the change, 9 where the lent bytes are too short.
module _ (bytes : List ℕ) (change : Answer Unit) (out : List ℕ) where
  unfoldable pub new_table_answer : Answer Unit
  new_table_answer =
      form bytes
      then change
      then asks (leb (table_size (has_fifth bytes) (levels_in bytes)) (length out)) 9 passed

  unfoldable pub new_table_out : WidthTable → List ℕ
  new_table_out new = answered new_table_answer (over (bytes_of_table new) out) out

-- What a change leaves, which gives a table or a refusal by `change`: where what it gives for the table of the bytes is that answer and
-- that table, the answer and the lent bytes are those above; the new table is written as any other.
abbrev pub Changed : (WidthTable → Result WidthTable NotChanged → Type 0) → List ℕ → List ℕ → Answer Unit → List ℕ → Type 0
Changed change bytes out left out' =
    (answer : Answer Unit) (new : WidthTable)
    → ((made : Result WidthTable NotChanged) → form bytes ≡ passed → change (table_in bytes) made → (told_change made ≡ answer) × IfOk made (λ t. t ≡ new))
    → (left ≡ form bytes then answer then write_answer new out) × (out' ≡ answered (form bytes then answer) (bytes_after new out) out)

-- with another width of a node
module _ (bytes : List ℕ) (level pass node IB f : ℕ) (out : List ℕ) where
  abbrev pub change_answer : Answer Unit
  change_answer = new_table_answer bytes (width_answer (table_in bytes) level pass node IB f) out

  abbrev pub change_out : List ℕ
  change_out = new_table_out bytes (width_answer (table_in bytes) level pass node IB f) out (with_width (table_in bytes) level pass node IB f)

-- with other bits of a stage's constant
module _ (bytes : List ℕ) (node F : ℕ) (out : List ℕ) where
  abbrev pub constant_change_answer : Answer Unit
  constant_change_answer = new_table_answer bytes (constant_answer (table_in bytes) node F) out

  abbrev pub constant_change_out : List ℕ
  constant_change_out = new_table_out bytes (constant_answer (table_in bytes) node F) out (with_constant (table_in bytes) node F)

-- with another width of a product (document 02, job 7)
module _ (bytes : List ℕ) (level pass product fp : ℕ) (out : List ℕ) where
  abbrev pub product_change_answer : Answer Unit
  product_change_answer = new_table_answer bytes (product_answer (table_in bytes) level pass product fp) out

  abbrev pub product_change_out : List ℕ
  product_change_out = new_table_out bytes (product_answer (table_in bytes) level pass product fp) out (with_product (table_in bytes) level pass product fp)

-- a table from its parts; it says by a number other than 0 that it has tag 5
abbrev pub table_with : ℕ → ℕ → List ℕ → List ℕ → ℕ → List ℕ → WidthTable
table_with B L constants widths has_products products = record {
  depth = B;
  levels = L;
  constants = constants;
  nodes = widths;
  has_products = not (eqb has_products 0);
  products = products;
}

-- without tag 5
abbrev pub table_from : ℕ → ℕ → List ℕ → List ℕ → WidthTable
table_from B L constants widths = table_with B L constants widths 0 (replicate (product_bytes max_levels) 0)

-- ---- viewing (document 02, job 1): 1 to 5 of the bytes, then the call's own

-- 1 to 5 by fields, 6 and 7 in node order, 13
unfoldable pub view_check_answer : List ℕ → Answer Unit
view_check_answer bytes = form_then bytes view_verdict

-- the distance from scan to view, written where the answer is 0
unfoldable pub distance_after : List ℕ → ℕ → ℕ
distance_after bytes distance = answered (view_check_answer bytes) (view_distance (table_in bytes)) distance

module _ (bytes : List ℕ) (w h : ℕ) (plane : List ℤ) (pixels : List ℕ) (work : List ℤ) where
  unfoldable pub view_answer97 : Answer Unit
  view_answer97 = form_then bytes (λ t. view_answer t w h plane pixels work)

  unfoldable pub view_pixels97 : List ℕ
  view_pixels97 = after_form bytes (λ t. view_pixels t w h plane pixels work) pixels

  unfoldable pub view_work97 : List ℤ
  view_work97 = after_form bytes (λ t. view_work t w h plane pixels work) work

-- Calls that take a width table as its bytes: refusals 1 to 5 of the bytes first, then the call's own (document 01: why a strip or book
-- comes back).
use Rattle.std.specs.Prelude.{ℕ, List, ℤ}
use Rattle.refusals.specs.Answers.{Answer, ◌then◌, answered}
use Rattle.width_table.specs.declared.WidthTable.{WidthTable}
use Rattle.table_bytes.specs.Bytes.{form, table_in}
use Rattle.precision.specs.Verdict.{verdict}
use Rattle.irreversible.specs.Calls.{fixed_answer, fixed_plane_after, fixed_work}

-- ---- any call

-- the form of the bytes, then the call's answer for the table that they hold
abbrev pub form_then : List ℕ → (WidthTable → Answer Unit) → Answer Unit
form_then bytes call = form bytes then call (table_in bytes)

-- what is lent, after the form: what the call makes of it with that table; as it was where the bytes are refused
abbrev pub after_form : {A : Type 0} → List ℕ → (WidthTable → A) → A → A
after_form bytes made old = answered (form bytes) (made (table_in bytes)) old

-- ---- the judge

-- 1 to 5 by fields, then 6 and 7 in node order
unfoldable pub check_answer : List ℕ → Answer Unit
check_answer bytes = form_then bytes verdict

-- ---- 9/7 forward: 1 to 5 of the bytes, then the call's own

module _ (bytes : List ℕ) (w h : ℕ) (pixels : List ℕ) (plane work : List ℤ) where
  unfoldable pub answer97 : Answer Unit
  answer97 = form_then bytes (λ t. fixed_answer t w h pixels plane work)

  unfoldable pub plane97 : List ℤ
  plane97 = after_form bytes (λ t. fixed_plane_after t w h pixels plane work) plane

  unfoldable pub work97 : List ℤ
  work97 = after_form bytes (λ t. fixed_work t w h pixels plane work) work

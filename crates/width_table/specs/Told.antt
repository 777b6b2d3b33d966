-- What a change of a width table says, in the documents' numbers, and the table that comes back (document 01, books as bytes: where a change is refused, the old one).
use Rattle.std.specs.Prelude.{Result, Ok, Err}
use Rattle.refusals.specs.Answers.{Answer, passed, refused}
use Rattle.refusals.specs.Told.{told_refusal}
use Rattle.width_table.specs.declared.WidthTable.{WidthTable}
use Rattle.width_table.specs.declared.NotChanged.{NotChanged}

-- what a change answers, whatever it gives besides
abbrev pub told_change : {A : Type 0} → Result A NotChanged → Answer Unit
told_change (Ok x) = passed
told_change (Err e) = refused (told_refusal e.why)

-- the table that comes back: the changed one, or where the change is refused the old one
abbrev pub table_back : Result WidthTable NotChanged → WidthTable
table_back (Ok t) = t
table_back (Err e) = e.table

use Rattle.std.proofs.Common.{ℕ, ◌<◌, ℤ, List, Bool, length}
use Rattle.std.specs.Fn.{FnReturnsAt}
use Rattle.slices.specs.Patch.{at}
use Rattle.slices.specs.Parts.{row_of}
use Rattle.pictures.specs.RangeChecks.{Tells, Every, Between}
use Rattle.pictures.proofs.rows_tell.Given as goal

abbrev pub invariant-loop-i : goal.invariant-loop-i
invariant-loop-i g l = (least most : ℤ) → ((row : List ℤ) (r : Bool) → FnReturnsAt g.F.Fn l.look row r → Tells ((j : ℕ) → j < length row → Between least most (at row j)) r)
    → Tells (Every (λ i. (j : ℕ) → j < l.part.w → Between least most (row_of l.part.stride l.part.from (at l.values) i j)) l.i) l.fits

-- `viewing::details_fit` meets its contract: the three parts right of and below the low-low one.
use Rattle.std.proofs.Common.{sym, ◌∙◌, subst}
use Rattle.std.proofs.Math.Dec.{T}
use Rattle.viewing.specs.WidthLaws.{low_part, last_part, last_tells}
use Rattle.viewing.proofs.details_fit.Goals.{then-part_fits, else-part_fits}
use Rattle.viewing.proofs.details_fit.Goals as goal

pub part_fits-requires-then-part_fits-clause-by_index : goal.part_fits-requires-then-part_fits-clause-by_index
part_fits-requires-then-part_fits-clause-by_index c = low_part c.requires.part

pub part_fits-requires-then-part_fits-2-clause-by_index : goal.part_fits-requires-then-part_fits-2-clause-by_index
part_fits-requires-then-part_fits-2-clause-by_index c = last_part c.requires.part

pub returns-then-part_fits-2 : goal.returns-then-part_fits-2
returns-then-part_fits-2 c = elim c.if-part_fits.branch [
  | then-part_fits w ↦ last_tells _ _ _ c.part_fits.ensures w.if-part_fits.true w.part_fits-then-part_fits.ensures (sym w.value-is ∙ c.if-part_fits-2.true) c.part_fits-then-part_fits-2.ensures
  | else-part_fits w ↦ absurd (subst T (sym (sym w.value-is ∙ c.if-part_fits-2.true) ∙ w.if-part_fits.false) tt)
]

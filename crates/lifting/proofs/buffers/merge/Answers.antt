-- `lifting::buffers::merge` meets its contract.
use Rattle.slices.specs.Patch.{at}
use Rattle.lifting.specs.Strips.{as_row, one_column, woven_row}
use Rattle.lifting.proofs.buffers.merge.Goals as goal

pub returns-then-part-eq1 : goal.returns-then-part-eq1
returns-then-part-eq1 c =
    let e = c.if-part-eq1.true in
    woven_row _ _ _ _ (at c.args.buffer.now) _ e (one_column c.requires e) _ c.merge_lines.ensures

pub merge_lines-requires : goal.merge_lines-requires
merge_lines-requires c = as_row c.requires c.if-part-eq1.true

pub merge_lines-requires-else-part-eq1 : goal.merge_lines-requires-else-part-eq1
merge_lines-requires-else-part-eq1 c = c.requires

pub returns-else-part-eq1 : goal.returns-else-part-eq1
returns-else-part-eq1 c = c.merge_lines-else-part-eq1.ensures

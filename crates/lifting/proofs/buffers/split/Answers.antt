-- `lifting::buffers::split` meets its contract.
use mathlib.Core.Path.{sym}
use Rattle.slices.specs.Patch.{at}
use Rattle.slices.specs.Runs.{as_type}
use Rattle.lifting.specs.Passes.{evens, odds}
use Rattle.slices.specs.Parts.{column_of}
use Rattle.lifting.specs.Buffers.{BufferHolds}
use Rattle.lifting.specs.Strips.{as_row, one_column}
use Rattle.lifting.proofs.buffers.split.Goals as goal

pub returns-then-part-eq1 : goal.returns-then-part-eq1
returns-then-part-eq1 c =
    let e = c.if-part-eq1.true in
    let x = at c.args.plane.now in
    as_type (λ u. BufferHolds (sym (one_column c.requires e) u) c.args.part.h (λ j. evens (column_of (sym e u) c.args.part.from x j)) (λ j. odds (column_of (sym e u) c.args.part.from x j)) (at c.split_lines.new.buffer)) c.split_lines.ensures

pub split_lines-requires : goal.split_lines-requires
split_lines-requires c = as_row c.requires c.if-part-eq1.true

pub split_lines-requires-else-part-eq1 : goal.split_lines-requires-else-part-eq1
split_lines-requires-else-part-eq1 c = c.requires

pub returns-else-part-eq1 : goal.returns-else-part-eq1
returns-else-part-eq1 c = c.split_lines-else-part-eq1.ensures

use mathlib.Core.Path.{sym, ap, ◌∙◌}
use native.Mathlib.Omega.{arith}
use Rattle.lines.specs.Lines.{lows, highs}
use Rattle.width_table.specs.Nodes.{HighColumns}
use Rattle.slices.specs.Runs.{as_type}
use Rattle.slices.specs.Parts.{column_of, columns_by}
use Rattle.fixed_stages.specs.Fixed.{fixed_line}
use Rattle.fixed_stages.specs.Safe.{LineSafe}
use Rattle.irreversible.specs.CallSteps.{part_of}
use Rattle.irreversible.proofs.work_columns.Goals as goal

pub columns_by-requires : goal.columns_by-requires
columns_by-requires c = (record { is_level = c.requires.is_level; part = part_of c.requires.part _ (omega arith) 0 (lows c.args.front.w) (omega arith); down = c.requires.down; safe = c.requires.low }, (omega arith, omega arith))

pub columns_by-requires-2 : goal.columns_by-requires-2
columns_by-requires-2 c =
    let a = c.args in (
      record {
        is_level = c.requires.is_level;
        part = part_of c.requires.part _ (omega arith) (lows a.front.w) (highs a.front.w) (omega arith);
        down = omega (arith, c.requires.down);
        safe = λ j i. as_type (λ u. LineSafe a.table a.level HighColumns a.front.h (column_of a.front.stride (lows a.front.w) (sym c.columns_by.ensures u) j)) (c.requires.high j i);
      },
      (omega arith, omega arith),
    )

pub returns : goal.returns
returns c =
    let a = c.args in
    c.columns_by-2.ensures ∙ ap (columns_by (fixed_line a.table a.level HighColumns) a.front.stride (lows a.front.w) (highs a.front.w) a.front.h) c.columns_by.ensures

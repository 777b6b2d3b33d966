-- `rolling_lines::end_one` meets its contract.
use mathlib.Core.Path.{◌∙◌, ap}
use native.Mathlib.Omega.{arith}
use Rattle.slices.specs.Patch.{at}
use Rattle.rolling_lines.specs.Schedule.{Line}
use Rattle.rolling_lines.specs.Memory.{set_line}
use Rattle.rolling_lines.specs.Program.{single_line_lem, single_may}
use Rattle.rolling_lines.proofs.end_one.Goals as goal

pub scale_line-requires : goal.scale_line-requires
scale_line-requires c =
    let (level, lent, enters, room) = c.requires in record {
      lent = (lent, omega arith, omega arith, room);
      safe_scaling = single_may c.args.table c.args.w _ _ c.single_of-low.ensures c.single_of-high.ensures _ level enters;
    }

pub returns : goal.returns
returns c =
    let a = c.args in
    c.scale_line.ensures ∙ ap (λ (x : Line). set_line a.w 0 x (at a.out.now)) (single_line_lem a.table a.w _ _ c.single_of-low.ensures c.single_of-high.ensures _)

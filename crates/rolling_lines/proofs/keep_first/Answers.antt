-- `rolling_lines::keep_first` meets its contract.
use mathlib.Core.Path.{◌∙◌, ap}
use Rattle.rolling_lines.specs.Memory.{moved}
use Rattle.rolling_lines.proofs.keep_first.Goals as goal

pub returns : goal.returns
returns c =
    let w = c.args.w in
    c.move_line-3.ensures ∙ ap (moved w 0 5) (c.move_line-2.ensures ∙ ap (moved w 3 0) c.move_line.ensures)

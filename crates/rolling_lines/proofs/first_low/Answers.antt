-- `rolling_lines::first_low` meets its contract.
use mathlib.Core.Path.{◌∙◌, ap}
use Rattle.rolling_lines.specs.Program.{first_kept}
use Rattle.rolling_lines.proofs.first_low.Goals as goal

pub returns : goal.returns
returns c = c.keep_first.ensures ∙ ap (first_kept c.args.w) c.first_stages.ensures

-- `reversible::rows_from` meets its contract: a single value stays, and two or more are worked by the kernel.
use mathlib.Core.Path.{◌∙◌}
use native.Mathlib.Omega.{arith}
use Rattle.slices.specs.Patch.{at}
use Rattle.reversible.specs.LevelLaws.{rows_one, rows_more}
use Rattle.reversible.proofs.rows_from.Goals as goal

pub returns-then-w-lt2 : goal.returns-then-w-lt2
returns-then-w-lt2 c = rows_one c.args.kernel c.args.stride c.args.w c.args.h (at c.args.plane.now) (omega (arith, c.requires.part.narrow)) (omega arith)

pub returns : goal.returns
returns c = let a = c.args in
    c.rows.ensures.plane ∙ rows_more a.kernel a.stride a.w a.h (at a.plane.now) (record { least = omega arith })

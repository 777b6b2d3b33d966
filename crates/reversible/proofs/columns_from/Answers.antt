-- `reversible::columns_from` meets its contract: a single value stays, and two or more are worked by the kernel.
use mathlib.Core.Path.{◌∙◌}
use native.Mathlib.Omega.{arith}
use Rattle.slices.specs.Patch.{at}
use Rattle.reversible.specs.LevelLaws.{columns_one, columns_more}
use Rattle.reversible.proofs.columns_from.Goals as goal

pub returns-then-h-lt2 : goal.returns-then-h-lt2
returns-then-h-lt2 c = columns_one c.args.kernel c.args.stride c.args.w c.args.h (at c.args.plane.now) (omega (arith, c.requires.part.narrow)) (omega arith)

pub returns : goal.returns
returns c = let a = c.args in
    c.columns.ensures.plane ∙ columns_more a.kernel a.stride a.w a.h (at a.plane.now) (record { least = omega arith })

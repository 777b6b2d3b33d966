-- `rolling_lines::second_given` meets its contract.
use mathlib.Core.Path.{sym, ◌∙◌, ap, subst}
use Prim.Native.Nat.{ℕ}
use native.Mathlib.Omega.{arith}
use lib.IntN.{ℤ}
use Rattle.slices.specs.Patch.{at}
use Rattle.rolling_lines.specs.Program.{GiveFits, two_given}
use Rattle.rolling_lines.specs.ProgramLaws.{second_give}
use Rattle.rolling_lines.proofs.second_given.Goals as goal

pub give_two-requires : goal.give_two-requires
give_two-requires c =
    let a = c.args in
    let (lent, stages, fits, few, room) = c.requires in
    (record { narrow = lent.narrow; room = omega (arith, lent.room) }, stages, subst (GiveFits a.columns.table a.w) (sym c.second_stages.ensures) (second_give a.columns stages a.w a.after a.before (at a.held.now) fits), few, room)

pub returns : goal.returns
returns c =
    let a = c.args in record {
      held = c.second_stages.ensures;
      out = c.give_two.ensures ∙ ap (λ (m : ℕ → ℤ). two_given a.columns.table a.w a.place m (at a.out.now)) c.second_stages.ensures;
    }

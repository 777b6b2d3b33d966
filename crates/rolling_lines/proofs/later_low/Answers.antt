-- `rolling_lines::later_low` meets its contract.
use mathlib.Core.Path.{◌≡◌, sym, ◌∙◌, ap, subst}
use Prim.Native.Nat.{ℕ}
use native.Mathlib.Omega.{arith}
use lib.IntN.{ℤ}
use Rattle.slices.specs.Patch.{at}
use Rattle.rolling_lines.specs.Memory.{moved}
use Rattle.rolling_lines.specs.Program.{SecondFits, second_done, first_kept, later_done, two_given}
use Rattle.rolling_lines.specs.ProgramLaws.{later_second}
use Rattle.rolling_lines.proofs.later_low.Goals as goal

pub second_given-requires : goal.second_given-requires
second_given-requires c =
    let a = c.args in
    let (lent, stages, fits, room) = c.requires in
    (record { narrow = lent.narrow; room = omega (arith, lent.room) }, stages, subst (SecondFits a.columns.table a.w 0 a.before) (sym c.first_stages.ensures) (later_second a.columns stages a.w a.before (at a.held.now) fits), omega arith, room)

pub returns : goal.returns
returns c =
    let a = c.args in
    let stages-done : at c.second_given.new.held ≡ later_done a.columns.table a.w a.before (at a.held.now) =
    c.second_given.ensures.held ∙ ap (second_done a.columns.table a.w 0 a.before) c.first_stages.ensures in
    record {
      held = c.keep_first.ensures ∙ ap (first_kept a.w) (c.move_line.ensures ∙ ap (moved a.w 4 2) stages-done);
      out = c.second_given.ensures.out ∙ ap (λ (m : ℕ → ℤ). two_given a.columns.table a.w 0 (second_done a.columns.table a.w 0 a.before m) (at a.out.now)) c.first_stages.ensures;
    }

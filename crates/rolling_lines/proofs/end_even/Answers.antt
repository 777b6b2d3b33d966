-- `rolling_lines::end_even` meets its contract.
use mathlib.Core.Path.{◌≡◌, sym, ◌∙◌, ap, subst}
use Prim.Native.Nat.{ℕ}
use native.Mathlib.Omega.{arith}
use lib.IntN.{ℤ}
use Rattle.slices.specs.Patch.{at}
use Rattle.rolling_lines.specs.Memory.{moved}
use Rattle.rolling_lines.specs.Program.{SecondFits, LaterFits, second_done, later_done, later_kept, two_given, PastSame}
use Rattle.rolling_lines.specs.ProgramLaws.{even_later, later_last, past_then, past_one, past_second, past_later}
use Rattle.rolling_lines.proofs.end_even.Goals as goal

pub later_low-requires : goal.later_low-requires
later_low-requires c =
    let a = c.args in
    let (lent, stages, fits, room, which) = c.requires in
    (record { narrow = lent.narrow; room = omega (arith, lent.room) }, stages, subst (LaterFits a.columns.table a.w a.before) (sym c.move_line.ensures) (even_later a.columns stages a.w (at a.held.now) fits a.before which), room)

pub second_given-requires : goal.second_given-requires
second_given-requires c =
    let a = c.args in
    let low_again : at c.later_low.new.held ≡ later_kept a.columns.table a.w a.before (moved a.w 5 0 (at a.held.now)) =
    c.later_low.ensures.held ∙ ap (later_kept a.columns.table a.w a.before) c.move_line.ensures in
    let (lent, stages, fits, room, which) = c.requires in
    (record { narrow = lent.narrow; room = omega (arith, lent.room) }, stages, subst (SecondFits a.columns.table a.w 3 4) (sym low_again) (later_last a.columns stages a.w a.before _ (even_later a.columns stages a.w (at a.held.now) fits a.before which)), omega arith, omega (arith, room))

pub returns : goal.returns
returns c =
    let a = c.args in
    let low_again : at c.later_low.new.held ≡ later_kept a.columns.table a.w a.before (moved a.w 5 0 (at a.held.now)) =
    c.later_low.ensures.held ∙ ap (later_kept a.columns.table a.w a.before) c.move_line.ensures in
    let m = at a.held.now in
    let done = low_again in record {
      held = subst (PastSame a.w m) (sym (c.second_given.ensures.held ∙ ap (second_done a.columns.table a.w 3 4) done))
          (past_then a.w (past_then a.w (past_one a.w 5 _ m (omega arith)) (past_later a.w a.columns.table a.before _)) (past_second a.w a.columns.table 3 4 _));
      out = c.second_given.ensures.out
          ∙ (λ u. two_given a.columns.table a.w 2 (second_done a.columns.table a.w 3 4 (done u)) ((c.later_low.ensures.out ∙ ap (λ (m : ℕ → ℤ). two_given a.columns.table a.w 0 (later_done a.columns.table a.w a.before m) (at a.out.now)) c.move_line.ensures) u));
    }

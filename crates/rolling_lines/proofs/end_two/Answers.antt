-- `rolling_lines::end_two` meets its contract.
use mathlib.Core.Path.{◌≡◌, sym, ◌∙◌, ap, subst}
use Prim.Native.Nat.{ℕ}
use native.Mathlib.Omega.{arith}
use lib.IntN.{ℤ}
use Rattle.slices.specs.Patch.{at}
use Rattle.rolling_lines.specs.Memory.{moved}
use Rattle.rolling_lines.specs.Program.{FirstFits, SecondFits, first_done, second_done, first_kept, two_given, PastSame}
use Rattle.rolling_lines.specs.ProgramLaws.{two_first, two_last, past_then, past_one, past_first, past_second, past_kept}
use Rattle.rolling_lines.proofs.end_two.Goals as goal

pub first_low-requires : goal.first_low-requires
first_low-requires c =
    let a = c.args in
    let (lent, stages, fits, room) = c.requires in
    (record { narrow = lent.narrow; room = omega (arith, lent.room) }, stages, subst (FirstFits a.columns.table a.w 6) (sym c.move_line.ensures) (two_first a.columns stages a.w (at a.held.now) fits))

pub second_given-requires : goal.second_given-requires
second_given-requires c =
    let a = c.args in
    let low_again : at c.first_low.new.held ≡ first_kept a.w (first_done a.columns.table a.w 6 (moved a.w 5 0 (at a.held.now))) =
    c.first_low.ensures ∙ ap (λ (m : ℕ → ℤ). first_kept a.w (first_done a.columns.table a.w 6 m)) c.move_line.ensures in
    let (lent, stages, fits, room) = c.requires in
    (record { narrow = lent.narrow; room = omega (arith, lent.room) }, stages, subst (SecondFits a.columns.table a.w 3 2) (sym low_again) (two_last a.columns stages a.w (at a.held.now) fits), omega arith, room)

pub returns : goal.returns
returns c =
    let a = c.args in
    let low_again : at c.first_low.new.held ≡ first_kept a.w (first_done a.columns.table a.w 6 (moved a.w 5 0 (at a.held.now))) =
    c.first_low.ensures ∙ ap (λ (m : ℕ → ℤ). first_kept a.w (first_done a.columns.table a.w 6 m)) c.move_line.ensures in
    let m = at a.held.now in
    let done = low_again in record {
      held = subst (PastSame a.w m) (sym (c.second_given.ensures.held ∙ ap (second_done a.columns.table a.w 3 2) done))
          (past_then a.w (past_then a.w (past_then a.w (past_one a.w 5 _ m (omega arith)) (past_first a.w a.columns.table 6 _)) (past_kept a.w _)) (past_second a.w a.columns.table 3 2 _));
      out = c.second_given.ensures.out ∙ ap (λ (m : ℕ → ℤ). two_given a.columns.table a.w 0 (second_done a.columns.table a.w 3 2 m) (at a.out.now)) done;
    }

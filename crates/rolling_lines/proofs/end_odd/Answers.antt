-- `rolling_lines::end_odd` meets its contract.
use mathlib.Core.Path.{◌≡◌, refl, sym, ◌∙◌, ap, subst}
use Prim.Native.Nat.{ℕ}
use native.Mathlib.Omega.{arith}
use lib.IntN.{ℤ}
use Rattle.slices.specs.Patch.{at}
use Rattle.rolling_lines.specs.Program.{SecondFits, LastFits, second_done, set_u1, set_u2, odd_done, last_given, two_given, PastSame}
use Rattle.rolling_lines.specs.ProgramLaws.{U1-done, odd_U1, odd_second, odd_last, past_then, past_one, past_second}
use Rattle.rolling_lines.proofs.end_odd.Goals as goal

pub stage_line-requires : goal.stage_line-requires
stage_line-requires c =
    let a = c.args in
    let (lent, stages, fits, room, which) = c.requires in record {
      lent = (lent, record { one = omega arith; other = omega arith; apart = λ e. absurd (omega arith) }, record { one = omega arith; other = omega arith; apart = λ e. absurd (omega arith) });
      safe_stage = odd_U1 a.columns stages a.w (at a.held.now) fits;
    }

pub second_given-requires : goal.second_given-requires
second_given-requires c =
    let u1-there : at c.stage_line.new.held ≡ set_u1 c.args.columns.table c.args.w 0 2 2 (at c.args.held.now) =
    U1-done c.args.columns c.requires.1 c.args.w 0 2 2 (at c.args.held.now) _ refl _ c.stage_line.ensures in
    let a = c.args in
    let (lent, stages, fits, room, which) = c.requires in
    (record { narrow = lent.narrow; room = omega (arith, lent.room) }, stages, subst (SecondFits a.columns.table a.w 0 a.before) (sym u1-there) (odd_second a.columns stages a.w (at a.held.now) fits a.before which), omega arith, room)

pub last_given-requires : goal.last_given-requires
last_given-requires c =
    let a = c.args in
    let u1-there : at c.stage_line.new.held ≡ set_u1 a.columns.table a.w 0 2 2 (at a.held.now) =
    U1-done a.columns c.requires.1 a.w 0 2 2 (at a.held.now) _ refl _ c.stage_line.ensures in
    let second-there : at c.second_given.new.held ≡ odd_done a.columns.table a.w a.before (at a.held.now) =
    c.second_given.ensures.held ∙ ap (second_done a.columns.table a.w 0 a.before) u1-there in
    let (lent, stages, fits, room, which) = c.requires in
    (record { narrow = lent.narrow; room = omega (arith, lent.room) }, stages, subst (LastFits a.columns.table a.w) (sym second-there) (odd_last a.columns stages a.w (at a.held.now) fits a.before which), omega (arith, room))

pub returns : goal.returns
returns c =
    let a = c.args in
    let u1-there : at c.stage_line.new.held ≡ set_u1 a.columns.table a.w 0 2 2 (at a.held.now) =
    U1-done a.columns c.requires.1 a.w 0 2 2 (at a.held.now) _ refl _ c.stage_line.ensures in
    let second-there : at c.second_given.new.held ≡ odd_done a.columns.table a.w a.before (at a.held.now) =
    c.second_given.ensures.held ∙ ap (second_done a.columns.table a.w 0 a.before) u1-there in
    let m = at a.held.now in record {
      held = subst (PastSame a.w m) (sym (c.last_given.ensures.held ∙ ap (set_u2 a.columns.table a.w 0 2 2) second-there))
          (past_then a.w (past_then a.w (past_one a.w 0 _ m (omega arith)) (past_second a.w a.columns.table 0 a.before _)) (past_one a.w 0 _ _ (omega arith)));
      out = c.last_given.ensures.out
          ∙ (λ u. last_given a.columns.table a.w (second-there u) ((c.second_given.ensures.out ∙ ap (λ (m : ℕ → ℤ). two_given a.columns.table a.w 0 (second_done a.columns.table a.w 0 a.before m) (at a.out.now)) u1-there) u));
    }

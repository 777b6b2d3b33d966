-- `rolling_lines::first_stages` meets its contract.
use mathlib.Core.Path.{◌≡◌, sym, subst}
use native.Mathlib.Omega.{arith}
use Rattle.slices.specs.Patch.{at}
use Rattle.rolling_lines.specs.Memory.{moved, SafeStage}
use Rattle.rolling_lines.specs.Program.{set_p1}
use Rattle.rolling_lines.specs.ProgramLaws.{P1-done, U1-done, before_apart, first_P1, first_U1}
use Rattle.rolling_lines.proofs.first_stages.Goals as goal

pub stage_line-requires : goal.stage_line-requires
stage_line-requires c =
    let a = c.args in
    let (lent, stages, fits) = c.requires in record {
      lent = (record { narrow = lent.narrow; room = omega (arith, lent.room) }, record { one = omega arith; other = omega arith; apart = λ e. absurd (omega arith) }, record { one = omega arith; other = omega arith; apart = λ e. absurd (omega arith) });
      safe_stage = subst (SafeStage a.columns.low.first.highs a.columns.high.first.highs a.w 6 0 5) (sym c.move_line.ensures) (first_P1 a.columns stages a.w a.before (at a.held.now) fits);
    }

pub stage_line-requires-2 : goal.stage_line-requires-2
stage_line-requires-2 c =
    let p1-there : at c.stage_line.new.held ≡ set_p1 c.args.columns.table c.args.w 6 0 5 (moved c.args.w 6 1 (at c.args.held.now)) =
    P1-done c.args.columns c.requires.1 c.args.w 6 0 5 _ _ c.move_line.ensures _ c.stage_line.ensures in
    let a = c.args in
    let (lent, stages, fits) = c.requires in record {
      lent = (record { narrow = lent.narrow; room = omega (arith, lent.room) }, before_apart a.columns stages a.w a.before (at a.held.now) fits, record { one = omega arith; other = omega arith; apart = λ e. absurd (omega arith) });
      safe_stage = subst (SafeStage a.columns.low.first.lows a.columns.high.first.lows a.w 0 a.before 6) (sym p1-there) (first_U1 a.columns stages a.w a.before (at a.held.now) fits);
    }

pub returns : goal.returns
returns c =
    let p1-there : at c.stage_line.new.held ≡ set_p1 c.args.columns.table c.args.w 6 0 5 (moved c.args.w 6 1 (at c.args.held.now)) =
    P1-done c.args.columns c.requires.1 c.args.w 6 0 5 _ _ c.move_line.ensures _ c.stage_line.ensures in
    U1-done c.args.columns c.requires.1 c.args.w 0 c.args.before 6 _ _ p1-there _ c.stage_line-2.ensures

-- `rolling_lines::second_stages` meets its contract.
use mathlib.Core.Path.{◌≡◌, refl, sym, subst}
use native.Mathlib.Omega.{arith}
use Rattle.slices.specs.Patch.{at}
use Rattle.rolling_lines.specs.Memory.{SafeStage}
use Rattle.rolling_lines.specs.Program.{set_p2}
use Rattle.rolling_lines.specs.ProgramLaws.{P2-done, U2-done, after_apart, before_apart_2, second_P2, second_U2}
use Rattle.rolling_lines.proofs.second_stages.Goals as goal

pub stage_line-requires : goal.stage_line-requires
stage_line-requires c =
    let a = c.args in
    let (lent, stages, fits) = c.requires in record {
      lent = (lent, record { one = omega arith; other = omega arith; apart = λ e. absurd (omega arith) }, after_apart a.columns stages a.w a.after a.before (at a.held.now) fits);
      safe_stage = second_P2 a.columns stages a.w a.after a.before (at a.held.now) fits;
    }

pub stage_line-requires-2 : goal.stage_line-requires-2
stage_line-requires-2 c =
    let p2-there : at c.stage_line.new.held ≡ set_p2 c.args.columns.table c.args.w 2 3 c.args.after (at c.args.held.now) =
    P2-done c.args.columns c.requires.1 c.args.w 2 3 c.args.after (at c.args.held.now) _ refl _ c.stage_line.ensures in
    let a = c.args in
    let (lent, stages, fits) = c.requires in record {
      lent = (record { narrow = lent.narrow; room = omega (arith, lent.room) }, before_apart_2 a.columns stages a.w a.after a.before (at a.held.now) fits, record { one = omega arith; other = omega arith; apart = λ e. absurd (omega arith) });
      safe_stage = subst (SafeStage a.columns.low.second.lows a.columns.high.second.lows a.w 3 a.before 2) (sym p2-there) (second_U2 a.columns stages a.w a.after a.before (at a.held.now) fits);
    }

pub returns : goal.returns
returns c =
    let p2-there : at c.stage_line.new.held ≡ set_p2 c.args.columns.table c.args.w 2 3 c.args.after (at c.args.held.now) =
    P2-done c.args.columns c.requires.1 c.args.w 2 3 c.args.after (at c.args.held.now) _ refl _ c.stage_line.ensures in
    U2-done c.args.columns c.requires.1 c.args.w 3 c.args.before 2 _ _ p2-there _ c.stage_line-2.ensures

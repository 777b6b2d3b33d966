-- `rolling_lines::stage_line` meets its contract: the row-low columns, then the row-high ones.
use Prim.Native.Nat.{◌+◌, ◌*◌}
use native.Mathlib.Omega.{arith}
use Rattle.lines.specs.Lines.{lows}
use Rattle.slices.specs.Patch.{at}
use Rattle.rolling_lines.specs.Memory.{in_lent, lines_apart, second_safe, stage_in_two}
use Rattle.rolling_lines.proofs.stage_line.Goals as goal

pub lift_run-requires-2 : goal.lift_run-requires-2
lift_run-requires-2 c =
    let a = c.args in record {
      runs = record {
        own = omega (arith, in_lent c.requires.lent.0 a.own c.requires.lent.1.one);
        left = omega (arith, in_lent c.requires.lent.0 a.a c.requires.lent.1.other);
        right = omega (arith, in_lent c.requires.lent.0 a.b c.requires.lent.2.other);
        off_left = λ i j p q e. lines_apart a.w a.own a.a c.requires.lent.1.apart (lows a.w + i) (lows a.w + j) (omega arith) (omega arith) (omega arith);
        off_right = λ i j p q e. lines_apart a.w a.own a.b c.requires.lent.2.apart (lows a.w + i) (lows a.w + j) (omega arith) (omega arith) (omega arith);
      };
      safe_run = second_safe a.low a.high a.w a.own a.a a.b c.requires.lent.1.apart c.requires.lent.2.apart (at a.held.now) _ c.lift_run.ensures c.requires.safe_stage;
    }

pub returns : goal.returns
returns c =
    let a = c.args in
    stage_in_two a.low a.high a.w a.own a.a a.b c.requires.lent.1.apart c.requires.lent.2.apart (at a.held.now) _ c.lift_run.ensures _ c.lift_run-2.ensures

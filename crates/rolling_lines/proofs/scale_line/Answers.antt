-- `rolling_lines::scale_line` meets its contract: the row-low columns, then the row-high ones.
use mathlib.Core.Path.{◌≡◌, sym}
use Prim.Native.Nat.{suc, ◌+◌, ◌*◌}
use native.Mathlib.Nat.{mul-le-mul_right}
use native.Mathlib.Omega.{arith}
use Rattle.lines.specs.Lines.{lows}
use Rattle.lifting.specs.Steps.{FactorSafe}
use Rattle.slices.specs.Patch.{at}
use Rattle.slices.specs.Runs.{as_type}
use Rattle.rolling_lines.specs.LentLines.{out_lines}
use Rattle.rolling_lines.specs.Memory.{in_lent, pick_high, scaling_in_two}
use Rattle.rolling_lines.proofs.scale_line.Goals as goal

pub scale_run-requires-2 : goal.scale_run-requires-2
scale_run-requires-2 c =
    let a = c.args in
    let m = at a.held.now in record {
      n_in_bounds = (omega (arith, in_lent c.requires.lent.0 a.line c.requires.lent.1), omega (arith, c.requires.lent.3, mul-le-mul_right {m = suc a.place} {n = out_lines} a.w c.requires.lent.2));
      by_index = (λ j h. let e : a.line * a.w + (lows a.w + j) ≡ a.line * a.w + lows a.w + j = omega arith in as_type (λ u. FactorSafe (sym (pick_high a.low a.high a.w j) u) (m (e u))) (c.requires.safe_scaling (lows a.w + j) (omega arith)));
    }

pub returns : goal.returns
returns c =
    let a = c.args in
    scaling_in_two a.low a.high a.w a.line a.place (at a.held.now) (at a.out.now) _ _ c.scale_run.ensures c.scale_run-2.ensures

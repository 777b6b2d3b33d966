-- `rolling_lines::give_two` meets its contract.
use mathlib.Core.Path.{◌∙◌, ap}
use Prim.Native.Nat.{◌+◌}
use native.Mathlib.Omega.{arith}
use Rattle.slices.specs.Patch.{at}
use Rattle.rolling_lines.specs.Schedule.{Line}
use Rattle.rolling_lines.specs.Memory.{line_in, set_line}
use Rattle.rolling_lines.specs.Program.{G1-line, G1-may, G2-line, G2-may}
use Rattle.rolling_lines.proofs.give_two.Goals as goal

pub returns : goal.returns
returns c =
    let a = c.args in
    let (lent, stages, fits, few, room) = c.requires in
    let m = at a.held.now in
    c.scale_line-2.ensures
    ∙ (λ u. set_line a.w (a.place + 1) (G2-line a.columns stages a.w (line_in a.w m 2) u) ((c.scale_line.ensures ∙ ap (λ (l : Line). set_line a.w a.place l (at a.out.now)) (G1-line a.columns stages a.w (line_in a.w m 3))) u))

pub scale_line-requires : goal.scale_line-requires
scale_line-requires c = let (lent, stages, fits, few, room) = c.requires in record {
  lent = (lent, omega arith, omega arith, room);
  safe_scaling = G1-may c.args.columns stages c.args.w _ fits.u2;
}

pub scale_line-requires-2 : goal.scale_line-requires-2
scale_line-requires-2 c = let (lent, stages, fits, few, room) = c.requires in record {
  lent = (lent, omega arith, omega arith, omega arith);
  safe_scaling = G2-may c.args.columns stages c.args.w _ fits.p2;
}

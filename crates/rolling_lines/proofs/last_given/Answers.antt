-- `rolling_lines::last_given` meets its contract.
use mathlib.Core.Path.{◌≡◌, refl, sym, ◌∙◌, subst}
use Prim.Native.Nat.{ℕ}
use native.Mathlib.Omega.{arith}
use lib.IntN.{ℤ}
use Rattle.slices.specs.Patch.{at}
use Rattle.rolling_lines.specs.Memory.{line_in, set_line, SafeScaling}
use Rattle.rolling_lines.specs.Program.{set_u2, G1-line}
use Rattle.rolling_lines.specs.ProgramLaws.{U2-done, last_U2, last_G1}
use Rattle.rolling_lines.proofs.last_given.Goals as goal

pub stage_line-requires : goal.stage_line-requires
stage_line-requires c =
    let a = c.args in
    let (lent, stages, fits, room) = c.requires in record {
      lent = (lent, record { one = omega arith; other = omega arith; apart = λ e. absurd (omega arith) }, record { one = omega arith; other = omega arith; apart = λ e. absurd (omega arith) });
      safe_stage = last_U2 a.columns stages a.w (at a.held.now) fits;
    }

pub scale_line-requires : goal.scale_line-requires
scale_line-requires c =
    let u2-there : at c.stage_line.new.held ≡ set_u2 c.args.columns.table c.args.w 0 2 2 (at c.args.held.now) =
    U2-done c.args.columns c.requires.1 c.args.w 0 2 2 (at c.args.held.now) _ refl _ c.stage_line.ensures in
    let a = c.args in
    let (lent, stages, fits, room) = c.requires in record {
      lent = (record { narrow = lent.narrow; room = omega (arith, lent.room) }, omega arith, omega arith, room);
      safe_scaling = subst (λ (m : ℕ → ℤ). SafeScaling a.columns.low.low a.columns.high.low a.w (line_in a.w m 0)) (sym u2-there) (last_G1 a.columns stages a.w (at a.held.now) fits);
    }

pub returns : goal.returns
returns c =
    let u2-there : at c.stage_line.new.held ≡ set_u2 c.args.columns.table c.args.w 0 2 2 (at c.args.held.now) =
    U2-done c.args.columns c.requires.1 c.args.w 0 2 2 (at c.args.held.now) _ refl _ c.stage_line.ensures in
    let a = c.args in record {
      held = u2-there;
      out = c.scale_line.ensures ∙ (λ u. set_line a.w 2 (G1-line a.columns c.requires.1 a.w (line_in a.w (u2-there u) 0) u) (at a.out.now));
    }

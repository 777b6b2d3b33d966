-- `inverse_lifting::row` meets its contract: a single value, or the first two steps, those away from the row's ends, and the others.
use native.Mathlib.Omega.{arith}
use lib.IntN.{pos}
use Rattle.lines.specs.Lines.{Liftable}
use Rattle.inverse_lifting.specs.Rows.{steps_first, steps_inner, steps_last, row_inverted, row_single}
use Rattle.inverse_lifting.proofs.row.Goals as goal

pub row_steps-first-requires : goal.row_steps-first-requires
row_steps-first-requires c =
    let long : Liftable c.args.w =
    record { least = omega arith } in
    steps_first c.requires long _ (omega arith) _

pub row_steps-then-requires : goal.row_steps-then-requires
row_steps-then-requires c =
    let long : Liftable c.args.w =
    record { least = omega arith } in
    steps_inner c.requires long _ (omega arith) _ _ (omega (arith, c.max-end.ensures)) c.row_steps-first.ensures

pub row_steps-requires : goal.row_steps-requires
row_steps-requires c =
    let long : Liftable c.args.w =
    record { least = omega arith } in
    steps_last c.requires long _ (omega arith) _ _ (omega (arith, c.max-end.ensures)) c.row_steps-then.ensures

pub returns-then-w-lt2 : goal.returns-then-w-lt2
returns-then-w-lt2 c =
    record {
      row = row_single c.args.work.now c.args.from c.args.w _ _ (omega arith) (c.copy_run.ensures (pos 0));
      line = omega arith;
    }

pub returns : goal.returns
returns c =
    let long : Liftable c.args.w =
    record { least = omega arith } in
    record {
      row = row_inverted c.row_steps.ensures long;
      line = omega arith;
    }

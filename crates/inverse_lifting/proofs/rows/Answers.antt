-- `inverse_lifting::rows` meets its contract. A single value stays. The loop's invariant: the first r rows are done.
use mathlib.Core.Path.{refl, sym, subst, ◌∙◌}
use Prim.Native.Nat.{◌*◌}
use native.Mathlib.Omega.{arith}
use lib.IntN.{pos}
use Rattle.slices.specs.Patch.{at, patch_ext}
use Rattle.slices.specs.PatchLines.{lines_none, lines_to}
use Rattle.slices.specs.PartLaws.{row_kept, row_next}
use Rattle.inverse_lifting.specs.Fixed.{node_bits, fixed_inverse}
use Rattle.inverse_lifting.specs.Planes.{Safe}
use Rattle.inverse_lifting.specs.Rows.{rows_single}
use Rattle.inverse_lifting.proofs.rows.Goals as goal

pub row-requires : goal.row-requires
row-requires c =
    let part = c.requires.part.0 in
    let there = part.fits c.loop-r.r c.loop-r-test.true in record {
      held = omega arith;
      room = omega arith;
      short = omega (arith, part.narrow, part.wide);
      safe = subst (Safe node_bits node_bits c.args.w) (sym (row_kept c.args.stride c.args.w c.loop-r.r (c.loop-r.r * c.args.stride) (omega (arith, part.narrow)) _ _ _ c.loop-r.invariant.3 (omega arith))) (c.requires.by_index c.loop-r.r c.loop-r-test.true);
    }

pub copy_run-requires : goal.copy_run-requires
copy_run-requires c =
    let there = c.requires.part.0.fits c.loop-r.r c.loop-r-test.true in
    (omega arith, omega arith)

pub loop-r-preserved : goal.loop-r-preserved
loop-r-preserved c = (
  omega arith,
  omega arith,
  omega arith,
  row_next (fixed_inverse node_bits node_bits) c.args.stride c.args.w c.loop-r.r (c.loop-r.r * c.args.stride) (omega (arith, c.requires.part.0.narrow)) (at c.args.work.now) _ _ c.loop-r.invariant.3 (omega arith)
      ((c.copy_run.ensures (pos 0)) ∙ patch_ext _ _ _ _ _ c.row.ensures.row),
)

pub returns : goal.returns
returns c = record {
  work = lines_to _ _ _ _ _ _ _ c.loop-r.invariant.3 (omega arith);
  line = c.loop-r.invariant.2;
}

pub returns-then-w-lt2 : goal.returns-then-w-lt2
returns-then-w-lt2 c = record {
  work = rows_single _ _ _ _ (omega arith) (omega (arith, c.requires.part.0.narrow));
  line = refl;
}

pub loop-r-init : goal.loop-r-init
loop-r-init c = (omega arith, refl, refl, lines_none _ _ _ _)

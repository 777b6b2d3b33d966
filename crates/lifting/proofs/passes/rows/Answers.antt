-- `lifting::passes::rows` meets its contract. The loop's invariant: the first r rows are done.
use mathlib.Core.Path.{refl, sym, subst}
use Prim.Native.Nat.{ℕ, ◌+◌, ◌*◌}
use native.Mathlib.Omega.{arith}
use Rattle.slices.specs.Patch.{at}
use Rattle.slices.specs.PatchLines.{lines_none, lines_to}
use Rattle.lifting.specs.Kernels.{worked, SafeKernel}
use Rattle.slices.specs.Parts.{column_of}
use Rattle.slices.specs.PartLaws.{row_as_was, row_done}
use Rattle.lifting.proofs.passes.rows.Goals as goal

pub loop-r-init : goal.loop-r-init
loop-r-init c = (omega arith, refl, refl, lines_none _ _ _ _)

pub overflow_mul-row : goal.overflow_mul-row
overflow_mul-row c = omega (arith, c.requires.part.0.fits c.loop-r.r c.loop-r-test.true)

pub overflow_add-row : goal.overflow_add-row
overflow_add-row c = omega (arith, c.requires.part.0.fits c.loop-r.r c.loop-r-test.true)

pub strip-requires : goal.strip-requires
strip-requires c =
    let part = c.requires.part.0 in
    let a = c.args.part in
    let h = c.loop-r-test.true in
    let there = part.fits c.loop-r.r h in
    let b = a.from + c.loop-r.r * a.stride in
    let kernel = c.args.kernel in
    let y = at c.loop-r.plane in record {
      strip_room = record {
        lines = record { some = omega arith; few = omega (arith, part.narrow, part.wide); narrow = omega arith; fits = λ i p. omega arith };
        some = omega arith;
        two = c.requires.part.1;
        room = omega arith;
      };
      by_index = λ j g. subst (λ (u : ℕ). SafeKernel kernel a.w (column_of 1 b y u)) (omega arith)
          (subst (SafeKernel kernel a.w) (sym (row_as_was a.stride a.from a.w c.loop-r.r b (omega (arith, part.narrow)) _ _ _ c.loop-r.invariant.3 refl)) (c.requires.by_index c.loop-r.r h));
    }

pub loop-r-preserved : goal.loop-r-preserved
loop-r-preserved c =
    let a = c.args.part in (
      omega arith,
      omega arith,
      omega arith,
      row_done (worked c.args.kernel) a.stride a.from a.w c.loop-r.r (a.from + c.loop-r.r * a.stride) (omega (arith, c.requires.part.0.narrow)) (at c.args.plane.now) _ _ c.loop-r.invariant.3 refl c.strip.ensures,
    )

pub returns : goal.returns
returns c = record {
  plane = lines_to _ _ _ _ _ _ _ c.loop-r.invariant.3 (omega arith);
  buffer = c.loop-r.invariant.2;
}

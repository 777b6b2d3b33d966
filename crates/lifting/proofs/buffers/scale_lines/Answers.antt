-- `lifting::buffers::scale_lines` meets its contract: one run, or a loop that fills line by line.
use mathlib.Core.Path.{refl, ap, subst, ◌∙◌}
use Prim.Native.Nat.{ℕ, ◌+◌}
use native.Mathlib.Omega.{arith}
use Rattle.lifting.specs.Steps.{scaled_by, FactorSafe}
use Rattle.slices.specs.Patch.{at}
use Rattle.slices.specs.PatchLines.{packed_is, packed_fits}
use Rattle.slices.specs.Filling.{lines_filling_none, lines_filling_more, lines_filling_all}
use Rattle.lifting.specs.Buffers.{by_line}
use Rattle.lifting.proofs.buffers.scale_lines.Goals as goal

pub scale_run-requires : goal.scale_run-requires
scale_run-requires c =
    let x = at c.args.src.now in record {
      n_in_bounds = omega (arith, packed_fits c.requires.lying.0 refl, packed_fits c.requires.lying.1 c.if-leap-m.true);
      by_index = by_line (λ p. FactorSafe c.args.g (x (c.args.from + p))) c.args.m c.args.n (λ i j h g. subst (λ (u : ℕ). FactorSafe c.args.g (x u)) (omega arith) (c.requires.by_index i j h g));
    }

pub returns-then-leap-m : goal.returns-then-leap-m
returns-then-leap-m c =
    c.scale_run.ensures ∙ packed_is c.args.to c.args.m c.args.n c.args.leap _ _ _ c.if-leap-m.true
    (λ i j p g. ap (λ (u : ℕ). scaled_by c.args.g (at c.args.src.now u)) (omega arith))

pub overflow_mul-n : goal.overflow_mul-n
overflow_mul-n c = omega (arith, packed_fits c.requires.lying.0 refl)

pub loop-i-init : goal.loop-i-init
loop-i-init c = lines_filling_none _ _ _ _ _ _

pub overflow_mul-i : goal.overflow_mul-i
overflow_mul-i c = omega (arith, c.requires.lying.0.fits _ c.loop-i-test.true)

pub overflow_add-from : goal.overflow_add-from
overflow_add-from c = omega (arith, c.requires.lying.0.fits _ c.loop-i-test.true)

pub overflow_mul-i-in-loop-i : goal.overflow_mul-i-in-loop-i
overflow_mul-i-in-loop-i c = omega (arith, c.requires.lying.1.fits _ c.loop-i-test.true)

pub overflow_add-to : goal.overflow_add-to
overflow_add-to c = omega (arith, c.requires.lying.1.fits _ c.loop-i-test.true)

pub scale_run-requires-in-loop-i : goal.scale_run-requires-in-loop-i
scale_run-requires-in-loop-i c = let p = c.requires in let h = c.loop-i-test.true in record {
  n_in_bounds = omega (arith, p.lying.0.fits _ h, p.lying.1.fits _ h);
  by_index = λ j g. p.by_index _ j h g;
}

pub loop-i-preserved : goal.loop-i-preserved
loop-i-preserved c = lines_filling_more c.loop-i.invariant (omega arith) _ (omega arith) _ c.scale_run-in-loop-i.ensures (λ j h. refl)

pub returns : goal.returns
returns c = lines_filling_all c.loop-i.invariant (omega arith)

-- `lifting::buffers::copy_lines` meets its contract: one run, or a loop that fills line by line.
use mathlib.Core.Path.{refl, ap, ◌∙◌}
use Prim.Native.Nat.{ℕ, ◌*◌}
use native.Mathlib.Omega.{arith}
use lib.IntN.{pos}
use Rattle.slices.specs.Patch.{at}
use Rattle.slices.specs.PatchLines.{packed_is, packed_fits}
use Rattle.slices.specs.Filling.{lines_filling_none, lines_filling_more, lines_filling_all}
use Rattle.lifting.proofs.buffers.copy_lines.Goals as goal

pub returns-then-leap-m : goal.returns-then-leap-m
returns-then-leap-m c =
    let e = c.if-step-m.true in
    c.copy_run.ensures (pos 0) ∙ packed_is c.args.to c.args.m c.args.n c.args.leap _ _ _ c.if-leap-m.true
    (λ i j p g. ap (at c.args.src.now) (omega (arith, ap (λ (u : ℕ). i * u) e)))

pub overflow_mul-n : goal.overflow_mul-n
overflow_mul-n c = omega (arith, packed_fits c.requires.0 c.if-step-m.true)

pub copy_run-requires : goal.copy_run-requires
copy_run-requires c = omega (arith, packed_fits c.requires.0 c.if-step-m.true, packed_fits c.requires.1 c.if-leap-m.true)

pub loop-i-init : goal.loop-i-init
loop-i-init c = lines_filling_none _ _ _ _ _ _

pub overflow_mul-i : goal.overflow_mul-i
overflow_mul-i c = omega (arith, c.requires.0.fits _ c.loop-i-test.true)

pub overflow_add-from : goal.overflow_add-from
overflow_add-from c = omega (arith, c.requires.0.fits _ c.loop-i-test.true)

pub overflow_mul-i-in-loop-i : goal.overflow_mul-i-in-loop-i
overflow_mul-i-in-loop-i c = omega (arith, c.requires.1.fits _ c.loop-i-test.true)

pub overflow_add-to : goal.overflow_add-to
overflow_add-to c = omega (arith, c.requires.1.fits _ c.loop-i-test.true)

pub copy_run-requires-in-loop-i : goal.copy_run-requires-in-loop-i
copy_run-requires-in-loop-i c = let p = c.requires in let h = c.loop-i-test.true in omega (arith, p.0.fits _ h, p.1.fits _ h)

pub loop-i-preserved : goal.loop-i-preserved
loop-i-preserved c = lines_filling_more c.loop-i.invariant (omega arith) _ (omega arith) _ (c.copy_run-in-loop-i.ensures (pos 0)) (λ j h. refl)

pub returns : goal.returns
returns c = lines_filling_all c.loop-i.invariant (omega arith)

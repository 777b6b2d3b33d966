-- `lifting::buffers::on_highs` meets its contract: one run for the middle, and one for the last line where n is even.
use mathlib.Core.Path.{◌≡◌, refl}
use Prim.Native.Nat.{◌*◌, ◌-◌}
use native.Mathlib.Omega.{arith}
use Rattle.lines.specs.Lines.{lows}
use Rattle.lifting.specs.Steps.{applied, Safe}
use Rattle.slices.specs.Patch.{at}
use Rattle.lifting.specs.Buffers.{Sizes, sizes}
use Rattle.lifting.specs.BufferRuns.{middle_high_runs, last_high_runs, some_highs, middle_high_asks, middle_highs, last_high_asks, all_highs, no_last_high}
use Rattle.lifting.proofs.buffers.on_highs.Goals as goal

pub lift_run-requires : goal.lift_run-requires
lift_run-requires c =
    record {
      runs = middle_high_runs c.requires.buffer _ refl;
      safe_run = middle_high_asks (applied c.args.step) (Safe c.args.step) c.requires.buffer c.requires.at_highs;
    }

pub end_run-requires : goal.end_run-requires
end_run-requires c =
    let first : at c.lift_run.new.buf ≡ some_highs (applied c.args.step) c.requires.buffer ((lows c.args.n - 1) * c.args.s) =
    middle_highs (applied c.args.step) (Safe c.args.step) c.requires.buffer _ c.lift_run.ensures in
    let even = c.if-low-n.true in record {
      runs = last_high_runs c.requires.buffer _ (omega arith) even;
      safe_run = last_high_asks (applied c.args.step) (Safe c.args.step) c.requires.buffer _ first even c.requires.at_highs;
    }

pub returns-then-low-n : goal.returns-then-low-n
returns-then-low-n c =
    let first : at c.lift_run.new.buf ≡ some_highs (applied c.args.step) c.requires.buffer ((lows c.args.n - 1) * c.args.s) =
    middle_highs (applied c.args.step) (Safe c.args.step) c.requires.buffer _ c.lift_run.ensures in
    all_highs (applied c.args.step) (Safe c.args.step) c.requires.buffer _ first c.if-low-n.true _ c.end_run.ensures

pub returns-else-low-n : goal.returns-else-low-n
returns-else-low-n c =
    let first : at c.lift_run.new.buf ≡ some_highs (applied c.args.step) c.requires.buffer ((lows c.args.n - 1) * c.args.s) =
    middle_highs (applied c.args.step) (Safe c.args.step) c.requires.buffer _ c.lift_run.ensures in
    no_last_high (applied c.args.step) (Safe c.args.step) c.requires.buffer _ first (λ h. omega arith)

pub overflow_add-low : goal.overflow_add-low
overflow_add-low c = omega (arith, c.requires.buffer.few, c.requires.buffer.two)

pub overflow_mul-top : goal.overflow_mul-top
overflow_mul-top c =
    let counts : Sizes c.args.s c.args.n =
    sizes c.args.s c.args.n c.requires.buffer.two in
    let z = counts in omega arith

pub overflow_sub-most : goal.overflow_sub-most
overflow_sub-most c = omega (arith, c.requires.buffer.few, c.requires.buffer.two)

pub overflow_mul-most : goal.overflow_mul-most
overflow_mul-most c =
    let counts : Sizes c.args.s c.args.n =
    sizes c.args.s c.args.n c.requires.buffer.two in
    let z = counts in omega arith

pub overflow_add-top : goal.overflow_add-top
overflow_add-top c =
    let counts : Sizes c.args.s c.args.n =
    sizes c.args.s c.args.n c.requires.buffer.two in
    let z = counts in omega arith

-- `lifting::buffers::on_lows` meets its contract: a run for the first line, one for the middle, and one for the last line where n is odd.
use mathlib.Core.Path.{◌≡◌, refl}
use Prim.Native.Nat.{◌*◌}
use native.Mathlib.Omega.{arith}
use Rattle.lines.specs.Lines.{highs}
use Rattle.lifting.specs.Steps.{applied, Safe}
use Rattle.slices.specs.Patch.{at}
use Rattle.lifting.specs.Buffers.{Sizes, sizes}
use Rattle.lifting.specs.BufferRuns.{first_low_runs, middle_low_runs, last_low_runs, some_lows, first_low_asks, first_lows_lem, middle_low_asks, middle_lows, last_low_asks, all_lows, no_last_low}
use Rattle.lifting.proofs.buffers.on_lows.Goals as goal

pub end_run-requires : goal.end_run-requires
end_run-requires c =
    record {
      runs = first_low_runs c.requires.buffer _ refl;
      safe_run = first_low_asks (applied c.args.step) (Safe c.args.step) c.requires.buffer c.requires.at_lows;
    }

pub lift_run-requires : goal.lift_run-requires
lift_run-requires c =
    let one : at c.end_run.new.buf ≡ some_lows (applied c.args.step) c.requires.buffer c.args.s =
    first_lows_lem (applied c.args.step) (Safe c.args.step) c.requires.buffer _ c.end_run.ensures in
    record {
      runs = middle_low_runs c.requires.buffer _ (omega arith);
      safe_run = middle_low_asks (applied c.args.step) (Safe c.args.step) c.requires.buffer _ one c.requires.at_lows;
    }

pub end_run-requires-then-high-low : goal.end_run-requires-then-high-low
end_run-requires-then-high-low c =
    let one : at c.end_run.new.buf ≡ some_lows (applied c.args.step) c.requires.buffer c.args.s =
    first_lows_lem (applied c.args.step) (Safe c.args.step) c.requires.buffer _ c.end_run.ensures in
    let most : at c.lift_run.new.buf ≡ some_lows (applied c.args.step) c.requires.buffer (highs c.args.n * c.args.s) =
    middle_lows (applied c.args.step) (Safe c.args.step) c.requires.buffer _ one _ c.lift_run.ensures in
    let odd = c.if-high-low.true in record {
      runs = last_low_runs c.requires.buffer _ (omega arith) odd;
      safe_run = last_low_asks (applied c.args.step) (Safe c.args.step) c.requires.buffer _ most odd c.requires.at_lows;
    }

pub returns-then-high-low : goal.returns-then-high-low
returns-then-high-low c =
    let one : at c.end_run.new.buf ≡ some_lows (applied c.args.step) c.requires.buffer c.args.s =
    first_lows_lem (applied c.args.step) (Safe c.args.step) c.requires.buffer _ c.end_run.ensures in
    let most : at c.lift_run.new.buf ≡ some_lows (applied c.args.step) c.requires.buffer (highs c.args.n * c.args.s) =
    middle_lows (applied c.args.step) (Safe c.args.step) c.requires.buffer _ one _ c.lift_run.ensures in
    all_lows (applied c.args.step) (Safe c.args.step) c.requires.buffer _ most c.if-high-low.true _ c.end_run-then-high-low.ensures

pub returns-else-high-low : goal.returns-else-high-low
returns-else-high-low c =
    let one : at c.end_run.new.buf ≡ some_lows (applied c.args.step) c.requires.buffer c.args.s =
    first_lows_lem (applied c.args.step) (Safe c.args.step) c.requires.buffer _ c.end_run.ensures in
    let most : at c.lift_run.new.buf ≡ some_lows (applied c.args.step) c.requires.buffer (highs c.args.n * c.args.s) =
    middle_lows (applied c.args.step) (Safe c.args.step) c.requires.buffer _ one _ c.lift_run.ensures in
    no_last_low (applied c.args.step) (Safe c.args.step) c.requires.buffer _ most (λ h. omega arith)

pub overflow_add-low : goal.overflow_add-low
overflow_add-low c = omega (arith, c.requires.buffer.few, c.requires.buffer.two)

pub overflow_mul-top : goal.overflow_mul-top
overflow_mul-top c =
    let counts : Sizes c.args.s c.args.n =
    sizes c.args.s c.args.n c.requires.buffer.two in
    let z = counts in omega arith

pub overflow_sub-most : goal.overflow_sub-most
overflow_sub-most c = omega (arith, c.requires.buffer.few, c.requires.buffer.two)

pub overflow_mul-most : goal.overflow_mul-most
overflow_mul-most c =
    let counts : Sizes c.args.s c.args.n =
    sizes c.args.s c.args.n c.requires.buffer.two in
    let z = counts in omega arith

pub overflow_add-top : goal.overflow_add-top
overflow_add-top c =
    let counts : Sizes c.args.s c.args.n =
    sizes c.args.s c.args.n c.requires.buffer.two in
    let z = counts in omega arith

pub overflow_mul-high : goal.overflow_mul-high
overflow_mul-high c =
    let counts : Sizes c.args.s c.args.n =
    sizes c.args.s c.args.n c.requires.buffer.two in
    let z = counts in omega arith

pub overflow_add-top-then-high-low : goal.overflow_add-top-then-high-low
overflow_add-top-then-high-low c =
    let counts : Sizes c.args.s c.args.n =
    sizes c.args.s c.args.n c.requires.buffer.two in
    let z = counts in omega arith

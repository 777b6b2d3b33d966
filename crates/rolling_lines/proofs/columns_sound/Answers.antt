-- `rolling_lines::columns_sound` meets its contract: four looks, by the bits that enter the pass and those of its nodes.
use Rattle.std.proofs.Common.{refl, arith, ◌+◌, ◌*◌}
use Rattle.width_table.specs.Numbered.{pass_of}
use Rattle.slices.specs.Patch.{at}
use Rattle.fixed_stages.specs.LevelBits.{fraction_is, input_is}
use Rattle.rolling_lines.specs.SoundLaws.{FiveIn, look_in, tells_next, tells_stop, columns_tell}
use Rattle.pictures.specs.RangeChecks.{Tells}
use Rattle.rolling_lines.proofs.columns_sound.Goals as goal
use Rattle.rolling_lines.proofs.columns_sound.Goals.{then-five_bits, else-five_bits, then-five_bits-2, else-five_bits-2}

pub returns-else-five_bits-3 : goal.returns-else-five_bits-3
returns-else-five_bits-3 c =
    let a = c.args in
    let enters = input_is a.table 1 c.requires.0 a.pass c.requires.1 c.input_bits-enters.ensures in
    let p1 = fraction_is a.table 1 c.requires.0 a.pass c.requires.1 1 (omega arith, omega arith) c.fraction_bits-p1.ensures in
    let u1 = fraction_is a.table 1 c.requires.0 a.pass c.requires.1 2 (omega arith, omega arith) c.fraction_bits-u1.ensures in
    let p2 = fraction_is a.table 1 c.requires.0 a.pass c.requires.1 3 (omega arith, omega arith) c.fraction_bits-p2.ensures in
    let m = at a.held.now in
    let second : Tells (FiveIn m a.w a.from a.n 2 c.input_bits-enters.result × FiveIn m a.w (2 * a.w + a.from) a.n 1 c.fraction_bits-p1.result) c.if-five_bits.value =
    elim c.if-five_bits.branch [
      | then-five_bits w ↦ tells_next c.five_bits.ensures w.if-five_bits.true w.five_bits-then-five_bits.ensures w.value-is
      | else-five_bits w ↦ tells_stop c.five_bits.ensures w.if-five_bits.false w.value-is
    ] in
    let third : Tells ((FiveIn m a.w a.from a.n 2 c.input_bits-enters.result × FiveIn m a.w (2 * a.w + a.from) a.n 1 c.fraction_bits-p1.result) × FiveIn m a.w (3 * a.w + a.from) a.n 1 c.fraction_bits-u1.result) c.if-five_bits-2.value =
    elim c.if-five_bits-2.branch [
      | then-five_bits-2 w ↦ tells_next second w.if-five_bits-2.true w.five_bits-then-five_bits-2.ensures w.value-is
      | else-five_bits-2 w ↦ tells_stop second w.if-five_bits-2.false w.value-is
    ] in
    columns_tell a.table (pass_of a.pass) a.w a.from a.n m _ _ _ _ enters.0 p1.0 u1.0 p2.0 (tells_stop third c.if-five_bits-3.false refl)

pub returns-then-five_bits-3 : goal.returns-then-five_bits-3
returns-then-five_bits-3 c =
    let a = c.args in
    let enters = input_is a.table 1 c.requires.0 a.pass c.requires.1 c.input_bits-enters.ensures in
    let p1 = fraction_is a.table 1 c.requires.0 a.pass c.requires.1 1 (omega arith, omega arith) c.fraction_bits-p1.ensures in
    let u1 = fraction_is a.table 1 c.requires.0 a.pass c.requires.1 2 (omega arith, omega arith) c.fraction_bits-u1.ensures in
    let p2 = fraction_is a.table 1 c.requires.0 a.pass c.requires.1 3 (omega arith, omega arith) c.fraction_bits-p2.ensures in
    let m = at a.held.now in
    let second : Tells (FiveIn m a.w a.from a.n 2 c.input_bits-enters.result × FiveIn m a.w (2 * a.w + a.from) a.n 1 c.fraction_bits-p1.result) c.if-five_bits.value =
    elim c.if-five_bits.branch [
      | then-five_bits w ↦ tells_next c.five_bits.ensures w.if-five_bits.true w.five_bits-then-five_bits.ensures w.value-is
      | else-five_bits w ↦ tells_stop c.five_bits.ensures w.if-five_bits.false w.value-is
    ] in
    let third : Tells ((FiveIn m a.w a.from a.n 2 c.input_bits-enters.result × FiveIn m a.w (2 * a.w + a.from) a.n 1 c.fraction_bits-p1.result) × FiveIn m a.w (3 * a.w + a.from) a.n 1 c.fraction_bits-u1.result) c.if-five_bits-2.value =
    elim c.if-five_bits-2.branch [
      | then-five_bits-2 w ↦ tells_next second w.if-five_bits-2.true w.five_bits-then-five_bits-2.ensures w.value-is
      | else-five_bits-2 w ↦ tells_stop second w.if-five_bits-2.false w.value-is
    ] in
    columns_tell a.table (pass_of a.pass) a.w a.from a.n m _ _ _ _ enters.0 p1.0 u1.0 p2.0 (tells_next third c.if-five_bits-3.true c.five_bits-then-five_bits-3.ensures refl)

pub five_bits-requires : goal.five_bits-requires
five_bits-requires c =
    let a = c.args in
    let enters = input_is a.table 1 c.requires.0 a.pass c.requires.1 c.input_bits-enters.ensures in
    (enters.1, λ i h. omega (arith, look_in c.requires.2 0 a.from a.n 2 c.requires.3 (omega arith) i h))

pub five_bits-requires-then-five_bits : goal.five_bits-requires-then-five_bits
five_bits-requires-then-five_bits c =
    let a = c.args in
    let p1 = fraction_is a.table 1 c.requires.0 a.pass c.requires.1 1 (omega arith, omega arith) c.fraction_bits-p1.ensures in
    (p1.1, look_in c.requires.2 2 a.from a.n 1 c.requires.3 (omega arith))

pub five_bits-requires-then-five_bits-2 : goal.five_bits-requires-then-five_bits-2
five_bits-requires-then-five_bits-2 c =
    let a = c.args in
    let u1 = fraction_is a.table 1 c.requires.0 a.pass c.requires.1 2 (omega arith, omega arith) c.fraction_bits-u1.ensures in
    (u1.1, look_in c.requires.2 3 a.from a.n 1 c.requires.3 (omega arith))

pub five_bits-requires-then-five_bits-3 : goal.five_bits-requires-then-five_bits-3
five_bits-requires-then-five_bits-3 c =
    let a = c.args in
    let p2 = fraction_is a.table 1 c.requires.0 a.pass c.requires.1 3 (omega arith, omega arith) c.fraction_bits-p2.ensures in
    (p2.1, look_in c.requires.2 4 a.from a.n 1 c.requires.3 (omega arith))

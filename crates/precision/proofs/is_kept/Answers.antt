use mathlib.Core.Path.{sym}
use native.Mathlib.Omega.{arith}
use Rattle.precision.specs.JudgeLaws.{kept_early, kept_high, kept_low, kept_last}
use Rattle.precision.proofs.is_kept.Goals as goal

pub returns-then-node-lt-G1 : goal.returns-then-node-lt-G1
returns-then-node-lt-G1 c =
    let a = c.args in
    sym (kept_early a.levels a.level a.pass a.node c.requires.pass c.requires.node c.if-node-lt-G1.true)

pub returns-then-node-eq-G2 : goal.returns-then-node-eq-G2
returns-then-node-eq-G2 c =
    let a = c.args in
    sym (kept_high a.levels a.level a.pass a.node c.if-pass-eq-ROWS.false c.requires.pass c.if-node-eq-G2.true)

pub returns-then-pass-eq-HIGH_COLUMNS : goal.returns-then-pass-eq-HIGH_COLUMNS
returns-then-pass-eq-HIGH_COLUMNS c =
    let a = c.args in
    sym (kept_low a.levels a.level a.pass a.node c.if-pass-eq-HIGH_COLUMNS.true (omega arith))

pub returns : goal.returns
returns c =
    let a = c.args in
    sym (kept_last a.levels a.level a.pass a.node (omega arith) (omega arith))

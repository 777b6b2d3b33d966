use mathlib.Core.Path.{◌≡◌, ◌∙◌}
use native.Mathlib.Omega.{arith}
use lib.Dec.{lit≤}
use Rattle.std.proofs.Common.{rules}
use Rattle.refusals.specs.Answers.{passed, refused, ◌then◌}
use Rattle.refusals.specs.Told.{told, told_refusal}
use Rattle.precision.specs.JudgeLaws.{at_pass}
use Rattle.precision.specs.OrderLaws.{none_before, pass_passes, pass_stops, passes_done}
use Rattle.precision.proofs.enter_pass.Goals as goal

pub returns-then-done-eq0-clause-outcome : goal.returns-then-done-eq0-clause-outcome
returns-then-done-eq0-clause-outcome c = passes_done c.args.table.now c.args.level 0 c.args.done c.if-done-eq0.true (none_before c.args.table.now c.args.level)

pub returns-in_err-rows-clause-outcome : goal.returns-in_err-rows-clause-outcome
returns-in_err-rows-clause-outcome c =
    let e : told c.from_residual.result then passed ≡ refused (told_refusal c.in_err-rows.field-0.0) = search rules in
    e ∙ pass_stops c.args.done c.requires.enters.place (omega arith) (none_before c.args.table.now c.args.level) c.in_err-rows.ensures.outcome

pub returns-in_err-low_columns-clause-outcome : goal.returns-in_err-low_columns-clause-outcome
returns-in_err-low_columns-clause-outcome c =
    let e : told c.from_residual-in_err-low_columns.result then passed ≡ refused (told_refusal c.in_err-low_columns.field-0.0) = search rules in
    let place = c.requires.enters.place in
    let rows = pass_passes place (none_before c.args.table.now c.args.level) c.in_ok-rows.ensures.outcome in
    e ∙ pass_stops c.args.done (at_pass place 2 (lit≤ tt, lit≤ tt)) (omega arith) rows c.in_err-low_columns.ensures.outcome

pub returns-then-done-eq2-clause-outcome : goal.returns-then-done-eq2-clause-outcome
returns-then-done-eq2-clause-outcome c =
    let place = c.requires.enters.place in
    let rows = pass_passes place (none_before c.args.table.now c.args.level) c.in_ok-rows.ensures.outcome in
    passes_done c.args.table.now c.args.level 2 c.args.done c.if-done-eq2.true (pass_passes (at_pass place 2 (lit≤ tt, lit≤ tt)) rows c.in_ok-low_columns.ensures.outcome)

pub returns-in_err-judge-clause-outcome : goal.returns-in_err-judge-clause-outcome
returns-in_err-judge-clause-outcome c =
    let e : told c.from_residual-in_err-judge.result then passed ≡ refused (told_refusal c.in_err-judge.field-0.0) = search rules in
    let place = c.requires.enters.place in
    let rows = pass_passes place (none_before c.args.table.now c.args.level) c.in_ok-rows.ensures.outcome in
    let low = pass_passes (at_pass place 2 (lit≤ tt, lit≤ tt)) rows c.in_ok-low_columns.ensures.outcome in
    e ∙ pass_stops c.args.done (at_pass place 3 (lit≤ tt, lit≤ tt)) (omega arith) low c.in_err-judge.ensures.outcome

pub returns-clause-outcome : goal.returns-clause-outcome
returns-clause-outcome c =
    let place = c.requires.enters.place in
    let rows = pass_passes place (none_before c.args.table.now c.args.level) c.in_ok-rows.ensures.outcome in
    let low = pass_passes (at_pass place 2 (lit≤ tt, lit≤ tt)) rows c.in_ok-low_columns.ensures.outcome in
    passes_done c.args.table.now c.args.level 3 c.args.done (omega arith) (pass_passes (at_pass place 3 (lit≤ tt, lit≤ tt)) low c.in_ok-judge.ensures.outcome)

-- `rolling::Scan::line_answer` meets its contract: each rule by its test; an admitted width makes sizes that fit.
use Rattle.std.proofs.Common.{◌≡◌, true, sym, ◌∙◌, arith}
use Rattle.std.proofs.Math.Bool.{not, ◌||◌}
use Rattle.std.proofs.Math.Dec.{eqb}
use Rattle.width_table.specs.Limits.{form_depth}
use Rattle.pictures.specs.Pictures.{side_right}
use Rattle.pictures.specs.PictureLaws.{side_is}
use Rattle.precision.specs.Promise.{promise}
use Rattle.rolling_lines.specs.Schedule.{any_taken}
use Rattle.rolling.specs.Calls.{goes_on}
use Rattle.rolling.specs.AnswerLaws.{in_turn, as_test, begun_accepted, on_begun, line_short, line_held_lem, line_out_lem, line_pixels}
use Rattle.rolling.proofs.Scan.line_answer.Goals as goal
use Rattle.rolling.proofs.Scan.line_answer.Goals.{then-pixels-w-via-then-pixels-w, then-pixels-w-via-else-pixels-w+then-held-w, then-pixels-w-via-else-pixels-w+else-held-w+then-out-w}

pub returns-then-pixels-w : goal.returns-then-pixels-w
returns-then-pixels-w c =
    let a = c.args in
    let on : goes_on a.self ≡ true = sym c.goes_on.ensures ∙ c.if-not-goes_on.false in
    let turn : not (any_taken a.self.taken) || eqb a.w a.self.width ≡ true = in_turn a.self a.w c.any.ensures c.if-w-self.either in
    let side : side_right a.w ≡ true = sym c.side_admitted.ensures ∙ c.if-not-side_admitted.false in
    elim c.then-pixels-w.branch [
      | then-pixels-w-via-then-pixels-w w ↦ sym (line_short a.self a.pixels.now a.w a.held a.out on turn side (omega arith))
      | then-pixels-w-via-else-pixels-w+then-held-w w ↦ sym (line_held_lem a.self a.pixels.now a.w a.held a.out on turn side (omega arith) (omega arith))
      | then-pixels-w-via-else-pixels-w+else-held-w+then-out-w w ↦ sym (line_out_lem a.self a.pixels.now a.w a.held a.out on turn side (omega arith) (omega arith) (omega arith))
    ]

pub pixels_right-requires : goal.pixels_right-requires
pixels_right-requires c =
    let a = c.args in
    let on : goes_on a.self ≡ true = sym c.goes_on.ensures ∙ c.if-not-goes_on.false in
    let side : side_right a.w ≡ true = sym c.side_admitted.ensures ∙ c.if-not-side_admitted.false in
    let ok = begun_accepted a.self.table (on_begun a.self (as_test on)) in
    ((form_depth a.self.table (promise a.self.table ok).form).1, (side_is a.w (as_test side)).1, omega arith, omega arith)

pub returns : goal.returns
returns c =
    let a = c.args in
    let on : goes_on a.self ≡ true = sym c.goes_on.ensures ∙ c.if-not-goes_on.false in
    let turn : not (any_taken a.self.taken) || eqb a.w a.self.width ≡ true = in_turn a.self a.w c.any.ensures c.if-w-self.either in
    let side : side_right a.w ≡ true = sym c.side_admitted.ensures ∙ c.if-not-side_admitted.false in
    c.pixels_right.ensures ∙ sym (line_pixels a.self a.pixels.now a.w a.held a.out on turn side (omega arith) (omega arith) (omega arith))

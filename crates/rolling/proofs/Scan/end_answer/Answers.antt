-- `rolling::Scan::end_answer` meets its contract: each rule by its test; an admitted width makes sizes that fit.
use Rattle.std.proofs.Common.{◌≡◌, true, sym, ◌∙◌, arith}
use Rattle.rolling_lines.specs.Schedule.{any_taken}
use Rattle.rolling.specs.Calls.{goes_on}
use Rattle.rolling.specs.AnswerLaws.{as_test, on_side, end_held, end_out_lem, end_done}
use Rattle.rolling.proofs.Scan.end_answer.Goals as goal
use Rattle.rolling.proofs.Scan.end_answer.Goals.{then-held-self-via-then-held-self, then-held-self-via-else-held-self+then-out-self}

pub overflow_mul-self : goal.overflow_mul-self
overflow_mul-self c =
    let on : goes_on c.args.self ≡ true = sym c.goes_on.ensures ∙ c.if-not-goes_on.false in
    let some : any_taken c.args.self.taken ≡ true = sym c.any.ensures ∙ c.if-not-any.false in
    omega (arith, (on_side c.args.self (as_test on) (as_test some)).1)

pub returns-then-held-self : goal.returns-then-held-self
returns-then-held-self c =
    let a = c.args in
    let on : goes_on a.self ≡ true = sym c.goes_on.ensures ∙ c.if-not-goes_on.false in
    let some : any_taken a.self.taken ≡ true = sym c.any.ensures ∙ c.if-not-any.false in
    elim c.then-held-self.branch [
      | then-held-self-via-then-held-self w ↦ sym (end_held a.self a.held a.out on some (omega arith))
      | then-held-self-via-else-held-self+then-out-self w ↦ sym (end_out_lem a.self a.held a.out on some (omega arith) (omega arith))
    ]

pub returns : goal.returns
returns c =
    let a = c.args in
    let on : goes_on a.self ≡ true = sym c.goes_on.ensures ∙ c.if-not-goes_on.false in
    let some : any_taken a.self.taken ≡ true = sym c.any.ensures ∙ c.if-not-any.false in
    sym (end_done a.self a.held a.out on some (omega arith) (omega arith))

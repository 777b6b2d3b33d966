use Rattle.std.proofs.Common.{rules, ◌≡◌, refl, sym, ◌∙◌, ap}
use Rattle.refusals.specs.Answers.{refused}
use Rattle.refusals.specs.Told.{told_refusal, told}
use Rattle.engine.specs.ScanLaws.{end_gives_few, end_none, end_some}
use Rattle.engine.proofs.end_announced.Goals as goal

-- the facts of a law, by the clauses' names
named : {A B C D : Type 0} → A × (B × (C × D)) → record { answer : A; state : B; given : C; lines : D }
named (answer, (state, (given, lines))) = record { answer = answer; state = state; given = given; lines = lines }

pub returns-in_err-scan : goal.returns-in_err-scan
returns-in_err-scan c =
    let e : told c.from_residual.result ≡ refused (told_refusal c.in_err-scan.field-0.0) = search rules in
    named (end_none _ _ _ _ _ (sym c.read.ensures.answer ∙ ap told c.in_err-scan.was) e)

pub returns-in_err-lines : goal.returns-in_err-lines
returns-in_err-lines c =
    let e : told c.from_residual-in_err-lines.result ≡ refused (told_refusal c.in_err-lines.field-0.0) = search rules in
    named (end_some _ _ _ _ (sym c.read.ensures.answer ∙ ap told c.in_ok-scan.was) c.in_err-lines.ensures (e, (refl, refl)))

pub scan_went-requires : goal.scan_went-requires
scan_went-requires c = end_gives_few _ _ _ c.end.ensures _ (ap told c.in_ok-lines.was)

pub returns : goal.returns
returns c =
    let went = c.scan_went.ensures in
    named (end_some _ _ _ _ (sym c.read.ensures.answer ∙ ap told c.in_ok-scan.was) c.in_ok-lines.ensures (refl, (went.state, went.given)))

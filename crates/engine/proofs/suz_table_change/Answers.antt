use Rattle.std.proofs.Common.{◌≡◌, ◌∙◌, ap, of_calls}
use Rattle.refusals.specs.Answers.{code}
use Rattle.table_bytes.specs.Bytes.{table_in}
use Rattle.width_table.specs.Changes.{width_answer, table_after_width}
use Rattle.width_table.specs.Told.{told_change, table_back}
use Rattle.engine.specs.AnswerLaws.{made_is_back, width_changed}
use Rattle.engine.proofs.suz_table_change.Goals as goal

pub returns : goal.returns
returns c =
    let a = c.args in
    let t = table_in a.table.now in
    let written = c.change_to.ensures (width_answer t a.level a.pass a.node a.integer a.fraction) (table_after_width t a.level a.pass a.node a.integer a.fraction) (λ made right given. let (told_is, back_is) : (told_change made ≡ width_answer t a.level a.pass a.node a.integer a.fraction) × (table_back made ≡ table_after_width t a.level a.pass a.node a.integer a.fraction) = search of_calls in (told_is, made_is_back made back_is)) in
    let (told_is, out-is) = width_changed a.table.now a.out.now a.level a.pass a.node a.integer a.fraction written in
    record { answer = c.code.ensures ∙ ap code told_is; out = out-is }

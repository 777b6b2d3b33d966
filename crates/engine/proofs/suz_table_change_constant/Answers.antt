use Rattle.std.proofs.Common.{◌≡◌, ◌∙◌, ap, of_calls}
use Rattle.refusals.specs.Answers.{code}
use Rattle.table_bytes.specs.Bytes.{table_in}
use Rattle.width_table.specs.Changes.{constant_answer, table_after_constant}
use Rattle.width_table.specs.Told.{told_change, table_back}
use Rattle.engine.specs.AnswerLaws.{made_is_back, constant_changed}
use Rattle.engine.proofs.suz_table_change_constant.Goals as goal

pub returns : goal.returns
returns c =
    let a = c.args in
    let t = table_in a.table.now in
    let written = c.change_to.ensures (constant_answer t a.node a.bits) (table_after_constant t a.node a.bits) (λ made right given. let (told_is, back_is) : (told_change made ≡ constant_answer t a.node a.bits) × (table_back made ≡ table_after_constant t a.node a.bits) = search of_calls in (told_is, made_is_back made back_is)) in
    let (told_is, out-is) = constant_changed a.table.now a.out.now a.node a.bits written in
    record { answer = c.code.ensures ∙ ap code told_is; out = out-is }

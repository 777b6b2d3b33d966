use mathlib.Core.Path.{sym, ◌∙◌, ap}
use native.Mathlib.Omega.{arith}
use Rattle.refusals.specs.Answers.{done}
use Rattle.width_table.specs.FormLaws.{few_levels}
use Rattle.table_bytes.specs.WriteLaws.{not_formed, too_short, table_written_lem}
use Rattle.table_bytes.proofs.write.Goals as goal

pub returns-then-not-form_right : goal.returns-then-not-form_right
returns-then-not-form_right c =
    let a = c.args in
    let w = not_formed a.table a.lent.now (sym c.form_right.ensures ∙ c.if-not-form_right.true) in
    record { answer = w.0; bytes = w.1 }

pub returns-then-lent-n : goal.returns-then-lent-n
returns-then-lent-n c =
    let a = c.args in
    let w = too_short a.table a.lent.now (sym c.form_right.ensures ∙ c.if-not-form_right.false) (omega (arith, c.table_size-n.ensures)) in
    record { answer = w.0; bytes = w.1 }

pub put_table-requires : goal.put_table-requires
put_table-requires c = (few_levels c.args.table (sym c.form_right.ensures ∙ c.if-not-form_right.false), omega (arith, c.table_size-n.ensures))

pub returns : goal.returns
returns c =
    let a = c.args in
    let w = table_written_lem a.table a.lent.now (sym c.form_right.ensures ∙ c.if-not-form_right.false) (omega (arith, c.table_size-n.ensures)) in record {
      answer = ap done c.table_size-n.ensures ∙ w.0;
      bytes = c.put_table.ensures ∙ w.1;
    }

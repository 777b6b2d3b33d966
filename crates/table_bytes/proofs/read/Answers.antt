use Rattle.std.proofs.Common.{sym, ◌∙◌, ap}
use Rattle.refusals.specs.Told.{told}
use Rattle.table_bytes.specs.ReadLaws.{table_read_lem}
use Rattle.table_bytes.proofs.read.Goals as goal

pub returns-clause-table : goal.returns-clause-table
returns-clause-table c = c.table_of.ensures ∙ sym (table_read_lem c.args.bytes.now (sym c.form_of.ensures ∙ ap told c.in_ok-form_of.was))

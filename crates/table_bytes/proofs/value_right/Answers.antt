use Rattle.std.proofs.Common.{◌∙◌, ap, sym, true}
use Rattle.table_bytes.specs.declared.Tag.{Tag}
use Rattle.table_bytes.specs.Fields.{fields, field_of}
use Rattle.table_bytes.specs.Tags.{number_of}
use Rattle.table_bytes.proofs.value_right.Goals as goal

pub returns-in-Constants : goal.returns-in-Constants
returns-in-Constants c =
    c.all_between-in-Constants.ensures ∙ ap (λ (tag : Tag). (field_of (fields true 0) (number_of tag)).right c.args.value.now) (sym c.in-Constants.is)

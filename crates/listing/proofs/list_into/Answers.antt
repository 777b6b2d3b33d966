-- `listing::list_into` meets its contract: the form decides, or the picture does.
use mathlib.Core.Path.{sym, ◌∙◌, ap}
use Rattle.refusals.specs.AnswerLaws.{gives_done, gives_refused}
use Rattle.refusals.specs.Told.{told}
use Rattle.listing.specs.Listing.{copy_form, head_in}
use Rattle.listing.specs.Writing.{put_same}
use Rattle.listing.proofs.AnswerLaws.{text_form}
use Rattle.listing.proofs.list_into.Goals as goal

pub returns-in-Err : goal.returns-in-Err
returns-in-Err c = put_same _ _ c.put_refused.ensures (sym (text_form _ _ (gives_refused (copy_form c.args.bytes.now) (head_in c.args.bytes.now) _ (sym c.form_of.ensures ∙ ap told c.in-Err.is))))

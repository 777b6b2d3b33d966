use Rattle.std.proofs.Common.{rules, ◌≡◌, ◌∙◌}
use Rattle.refusals.specs.Answers.{refused}
use Rattle.refusals.specs.Told.{told_refusal, told}
use Rattle.width_table.specs.declared.WidthTable.{WidthTable}
use Rattle.viewing.specs.Calls.{view_answer, view_pixels, view_work}
use Rattle.table_calls.specs.CallLaws.{unread, unread_leaves, read, read_leaves}
use Rattle.engine.specs.Answers.{view_answer97, view_pixels97, view_work97}
use Rattle.engine.proofs.viewed.Goals as goal

pub returns-in_err-held : goal.returns-in_err-held
unfolding view_answer97 view_pixels97 view_work97
returns-in_err-held c =
    let told_is : told c.from_residual.result ≡ refused (told_refusal c.in_err-held.field-0.0) = search rules in
    let r = c.read.ensures in
    let e = c.in_err-held.was in
    record {
      answer = told_is ∙ unread _ (r.outcome, r.table) e _;
      pixels = unread_leaves _ (r.outcome, r.table) e _ _;
      work = unread_leaves _ (r.outcome, r.table) e _ _;
    }

pub returns : goal.returns
unfolding view_answer97 view_pixels97 view_work97
returns c =
    let a = c.args in
    let v = c.view.ensures in
    let r = c.read.ensures in
    let e = c.in_ok-held.was in
    record {
      answer = read _ (r.outcome, r.table) e (λ (t : WidthTable). view_answer t a.width a.height a.plane.now a.pixels.now a.work.now) v.answer;
      pixels = read_leaves _ (r.outcome, r.table) e (λ (t : WidthTable). view_pixels t a.width a.height a.plane.now a.pixels.now a.work.now) _ v.pixels;
      work = read_leaves _ (r.outcome, r.table) e (λ (t : WidthTable). view_work t a.width a.height a.plane.now a.pixels.now a.work.now) _ v.work;
    }

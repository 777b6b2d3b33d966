use Rattle.std.proofs.Common.{rules}
use Rattle.table_bytes.specs.Bytes.{table_in}
use Rattle.width_table.specs.declared.WidthTable.{WidthTable}
use Rattle.irreversible.specs.Calls.{fixed_answer, fixed_plane_after, fixed_work}
use Rattle.table_calls.specs.Calls.{answer97, plane97, work97}
use Rattle.table_calls.specs.CallLaws.{unread, unread_leaves, read, read_leaves}
use Rattle.table_calls.proofs.forward.Goals as goal

pub returns-in_err-read : goal.returns-in_err-read
unfolding answer97 plane97 work97
returns-in_err-read c =
    let r = c.read.ensures in
    let e = c.in_err-read.was in
    let a = c.args in
    let answer = unread _ (r.outcome, r.table) e (fixed_answer (table_in a.table.now) a.width a.height a.pixels.now a.plane.now a.work.now) in
    record {
      answer = search rules;
      plane = unread_leaves _ (r.outcome, r.table) e _ _;
      work = unread_leaves _ (r.outcome, r.table) e _ _;
    }

pub returns : goal.returns
unfolding answer97 plane97 work97
returns c =
    let a = c.args in
    let r = c.read.ensures in
    let e = c.in_ok-read.was in
    let f = c.forward.ensures in
    record {
      answer = read _ (r.outcome, r.table) e (λ (t : WidthTable). fixed_answer t a.width a.height a.pixels.now a.plane.now a.work.now) f.answer;
      plane = read_leaves _ (r.outcome, r.table) e (λ (t : WidthTable). fixed_plane_after t a.width a.height a.pixels.now a.plane.now a.work.now) _ f.plane;
      work = read_leaves _ (r.outcome, r.table) e (λ (t : WidthTable). fixed_work t a.width a.height a.pixels.now a.plane.now a.work.now) _ f.work;
    }

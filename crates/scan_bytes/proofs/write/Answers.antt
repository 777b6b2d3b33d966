-- `scan_bytes::write` meets its contract: zeros in a table's room, the table's bytes over them, then the numbers.
use Rattle.std.proofs.Common.{◌≡◌, ◌++◌, List, ℕ, arith, sym, ap, ◌∙◌, rules, drop, replicate}
use Rattle.std.proofs.Math.Seq.{length-take-le}
use Rattle.numbers.specs.Lists.{over}
use Rattle.table_bytes.specs.Bytes.{bytes_after}
use Rattle.width_table.specs.Lists.{FullLists}
use Rattle.scan_bytes.specs.ScanBytes.{table_room, numbers_after}
use Rattle.scan_bytes.specs.ByteLaws.{kept_is, kept, all_written}
use Rattle.scan_bytes.proofs.write.Goals as goal

pub slice_bounds-fill-end-2 : goal.slice_bounds-fill-end-2
slice_bounds-fill-end-2 c = sym (length-take-le table_room c.args.state.now (omega arith))

pub returns : goal.returns
returns c =
    let a = c.args in
    -- what its type says of the table
    let sized : FullLists a.scan.table = record { constants = search rules; nodes = search rules; products = search rules } in
    -- the scan is one that bytes can hold
    let can = kept_is a.scan sized (sym c.keepable.ensures ∙ c.if-not-keepable.false) in
    let cleared : c.fill.new.self ≡ replicate table_room 0 =
    c.fill.ensures.after (λ y e. e) ∙ ap (λ (n : ℕ). replicate n 0) (length-take-le table_room a.state.now (omega arith)) in
    let zeros : c.fill.new.self ++ drop table_room a.state.now ≡ over (replicate table_room 0) a.state.now = ap (λ (l : List ℕ). l ++ drop table_room a.state.now) cleared in
    c.renew.ensures
    ∙ ap (numbers_after a.scan.width a.scan.taken a.scan.ended) (c.write.ensures.bytes ∙ ap (bytes_after a.scan.table) zeros)
    ∙ all_written a.scan can a.state.now (omega arith)
    ∙ kept a.scan a.state.now (sym c.keepable.ensures ∙ c.if-not-keepable.false) (omega arith)

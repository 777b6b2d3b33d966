-- `listing::put_rows` meets its contract: what is still to be written, from row r on, leads to all rows.
use mathlib.Core.Path.{◌≡◌, sym, ◌∙◌, ap}
use Prim.Native.Nat.{ℕ, ◌+◌, ◌*◌, ◌-◌}
use native.Mathlib.Omega.{arith}
use native.Mathlib.Nat.{mul_comm}
use lib.ListN.{take, drop}
use Rattle.listing.specs.Listing.{line}
use Rattle.pictures.specs.Pictures.{plane_of}
use Rattle.listing.specs.Writing.{leads_same, leads_put, leads_end, put_same}
use Rattle.listing.specs.TextLaws.{row_line, rows_more, rows_none, part_length, row_end}
use Rattle.listing.proofs.put_rows.Goals as goal

pub loop-r-preserved : goal.loop-r-preserved
loop-r-preserved c =
    let ends = row_end c.args.w c.args.h c.loop-r.r (omega arith) in
    let a = c.args in
    let r = c.loop-r.r in
    let l = part_length (r * a.w) a.w a.plane.now (omega (arith, ends.0)) in
    let e : r * a.w + a.w - r * a.w ≡ a.w = omega arith in
    let z = put_same _ _ c.put_line-next.ensures.0 (ap (λ (k : ℕ). line (take k (drop (r * a.w) a.plane.now))) e ∙ sym (row_line a.w r a.plane.now (omega (arith, ends.0)))) in (
      omega (arith, ends.1, c.put_line-next.ensures.1),
      leads_put _ _ (leads_same _ _ c.loop-r.invariant.1 (rows_more a.w (plane_of a.w a.plane.now) r a.h (omega arith))) z,
    )

pub returns : goal.returns
returns c =
    let a = c.args in
    leads_end (leads_same _ _ c.loop-r.invariant.1 (rows_none a.w (plane_of a.w a.plane.now) c.loop-r.r a.h (omega arith))) (let all : c.loop-r.r ≡ a.h = omega arith in omega (arith, mul_comm a.w a.h, ap (λ (r : ℕ). r * a.w) all))

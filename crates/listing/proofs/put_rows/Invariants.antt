use Prim.Native.Nat.{◌+◌, ◌*◌, ◌-◌, ◌≤◌}
use Rattle.listing.specs.Listing.{max_number, row_lines}
use Rattle.pictures.specs.Pictures.{plane_of}
use Rattle.listing.specs.Writing.{Leads}
use Rattle.listing.proofs.put_rows.Given as goal

abbrev pub invariant-loop-r : goal.invariant-loop-r
invariant-loop-r l =
    (l.next ≤ l.at + max_number * (l.r * l.w)) × Leads (row_lines l.w (plane_of l.w l.plane) 0 l.h) l.initial.text l.at (row_lines l.w (plane_of l.w l.plane) l.r (l.h - l.r)) l.text l.next

use Prim.Native.Nat.{◌+◌, ◌*◌, ◌≤◌}
use lib.ListN.{drop}
use Rattle.listing.specs.Listing.{max_number, line}
use Rattle.listing.specs.Writing.{Leads}
use Rattle.listing.proofs.put_line.Given as goal

abbrev pub invariant-loop-z : goal.invariant-loop-z
invariant-loop-z l =
    (l.next ≤ l.at + max_number * l.z-index) × Leads (line l.numbers) l.initial.text l.at (line (drop l.z-index l.numbers)) l.text l.next

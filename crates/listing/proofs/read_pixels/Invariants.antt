use mathlib.Core.Path.{◌≡◌}
use lib.ListN.{take}
use Rattle.listing.specs.Listing.{copy_pixels}
use Rattle.listing.proofs.read_pixels.Given as goal

abbrev pub invariant-loop-i : goal.invariant-loop-i
invariant-loop-i l = take l.i l.p-items ≡ take l.i (copy_pixels l.bytes)

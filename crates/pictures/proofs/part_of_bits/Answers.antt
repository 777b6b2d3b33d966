-- Each row is looked at by all_of_bits.
use Rattle.std.proofs.Common.{◌^◌, ◌<◌, ℕ, rules, length, pos, neg_ℤ, ◌-ℤ◌}
use Rattle.slices.specs.Patch.{at}
use Rattle.pictures.specs.RangeChecks.{Tells, OfBits, tells_both, below_between, between_below}
use Rattle.pictures.proofs.part_of_bits.Goals as goal

pub returns : goal.returns
returns c =
    let q = pos (2 ^ c.args.bits) in
    tells_both (λ h i p j k. between_below q _ (h i p j k)) (λ h i p j k. below_between q _ (h i p j k))
    (c.rows_tell.ensures (neg_ℤ q) (q -ℤ pos 1) (λ row r f.
    let t : Tells ((j : ℕ) → j < length row → OfBits c.args.bits (at row j)) r = search rules in
    tells_both (λ h j k. below_between q _ (h j k)) (λ h j k. between_below q _ (h j k)) t))

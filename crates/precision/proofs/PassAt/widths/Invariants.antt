use Prim.Native.Nat.{ℕ, ◌+◌, ◌*◌, ◌<◌}
use mathlib.Core.Path.{◌≡◌}
use lib.ListN.{length, get_or}
use Rattle.width_table.specs.Readers.{input_bits_at}
use Rattle.precision.specs.Places.{places}
use Rattle.precision.proofs.PassAt.widths.Given as goal

-- the first k nodes are read
abbrev pub invariant-loop-k : goal.invariant-loop-k
invariant-loop-k l = record {
  within : l.k < places;
  integers_are : length l.integers ≡ 6;
  fractions_are : length l.fractions ≡ places;
  input : get_or l.fractions 0 0 ≡ input_bits_at l.self.table.now l.self.level l.self.pass;
  integer : (i : ℕ) → i < l.k → get_or l.integers i 0 ≡ get_or l.self.table.now.nodes (l.at + 2 * i) 0;
  fraction : (i : ℕ) → i < l.k → get_or l.fractions (i + 1) 0 ≡ get_or l.self.table.now.nodes (l.at + 2 * i + 1) 0;
}

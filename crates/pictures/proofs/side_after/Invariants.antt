use Rattle.std.proofs.Common.{◌≡◌}
use Rattle.lines.specs.Planes.{side}
use Rattle.pictures.proofs.side_after.Given as goal

abbrev pub invariant-loop : goal.invariant-loop
invariant-loop l = l.m ≡ side l.counter l.n

use Prim.Native.Nat.{◌-◌, ◌≤◌}
use mathlib.Core.Path.{◌≡◌}
use Rattle.lines.specs.Planes.{side}
use Rattle.viewing.specs.WidthLaws.{RightOutside}
use Rattle.viewing.proofs.coefficients_right.Given as goal

abbrev pub invariant-loop-k : goal.invariant-loop-k
invariant-loop-k l = (l.k ≤ l.table.levels) × (l.across ≡ side l.k l.w) × (l.down ≡ side l.k l.h) × RightOutside l.table l.w l.h l.plane l.k

abbrev pub decreases-loop-k : goal.decreases-loop-k
decreases-loop-k l = l.table.levels - l.k

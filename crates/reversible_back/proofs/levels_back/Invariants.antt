use Rattle.slices.specs.Patch.{at}
use Rattle.reversible_back.specs.LoopLaws.{BackLeft}
use Rattle.reversible_back.specs.Orders.{order_of}
use Rattle.reversible_back.proofs.levels_back.Given as goal

abbrev pub invariant-loop-k : goal.invariant-loop-k
invariant-loop-k l =
    BackLeft (order_of l.form.first) l.form.levels l.form.w l.form.h l.k (at l.initial.values) (at l.values)

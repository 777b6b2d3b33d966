use Rattle.inverse_lifting.specs.Columns.{StepsDone}
use Rattle.inverse_lifting.proofs.steps.Given as goal

abbrev pub invariant-loop-j : goal.invariant-loop-j
invariant-loop-j g l = StepsDone l.high l.low l.initial.held l.held l.initial.even l.even l.initial.odd l.odd l.b l.i l.j

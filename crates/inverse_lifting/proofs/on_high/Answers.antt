-- `inverse_lifting::on_high` meets its contract, case by case.
use native.Mathlib.Omega.{arith}
use Rattle.inverse_lifting.specs.Stages.{constant_back, inside_read, moved_got, ended_got}
use Rattle.inverse_lifting.proofs.on_high.Goals as goal

pub moved_end-requires : goal.moved_end-requires
moved_end-requires c = (inside_read (c.requires.0.last (omega arith) (omega arith)), constant_back c.ranges.c c.requires.1)

pub returns-then-p-2 : goal.returns-then-p-2
returns-then-p-2 c = record { inner = λ g h. absurd (omega arith); last = λ g h. ended_got c.ranges.c (c.requires.0.last g h) c.moved_end.type_inv c.moved_end.ensures; past = λ h. absurd (omega arith) }

pub moved-requires : goal.moved-requires
moved-requires c = (inside_read (c.requires.0.inner (omega arith) (omega arith)), constant_back c.ranges.c c.requires.1)

pub returns : goal.returns
returns c = record { inner = λ g h. moved_got c.ranges.c (c.requires.0.inner g h) c.moved.type_inv c.moved.ensures; last = λ g h. absurd (omega arith); past = λ h. absurd (omega arith) }

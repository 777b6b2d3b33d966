-- `inverse_lifting::on_low` meets its contract, case by case.
use native.Mathlib.Omega.{arith}
use Rattle.inverse_lifting.specs.Stages.{constant_back, inside_read, moved_got, ended_got}
use Rattle.inverse_lifting.proofs.on_low.Goals as goal

pub moved_end-requires : goal.moved_end-requires
moved_end-requires c = (inside_read (c.requires.0.first (omega arith) (omega arith)), constant_back c.ranges.c c.requires.1)

pub returns-then-p-eq0 : goal.returns-then-p-eq0
returns-then-p-eq0 c =
    record {
      first = λ z h. ended_got c.ranges.c (c.requires.0.first z h) c.moved_end.type_inv c.moved_end.ensures;
      inner = λ z g h. absurd (omega arith);
      last = λ z g h. absurd (omega arith);
      past = λ h. absurd (omega arith);
    }

pub moved_end-requires-then-p-2 : goal.moved_end-requires-then-p-2
moved_end-requires-then-p-2 c = (inside_read (c.requires.0.last (omega arith) (omega arith) (omega arith)), constant_back c.ranges.c c.requires.1)

pub returns-then-p-2 : goal.returns-then-p-2
returns-then-p-2 c =
    record {
      first = λ z h. absurd (omega arith);
      inner = λ z g h. absurd (omega arith);
      last = λ z g h. ended_got c.ranges.c (c.requires.0.last z g h) c.moved_end-then-p-2.type_inv c.moved_end-then-p-2.ensures;
      past = λ h. absurd (omega arith);
    }

pub moved-requires : goal.moved-requires
moved-requires c = (inside_read (c.requires.0.inner (omega arith) (omega arith) (omega arith)), constant_back c.ranges.c c.requires.1)

pub returns : goal.returns
returns c =
    record {
      first = λ z h. absurd (omega arith);
      inner = λ z g h. moved_got c.ranges.c (c.requires.0.inner z g h) c.moved.type_inv c.moved.ensures;
      last = λ z g h. absurd (omega arith);
      past = λ h. absurd (omega arith);
    }

-- `inverse_lifting::end_step` meets its contract: each stage in step, as far as its place is one of the line's.
use native.Mathlib.Omega.{arith}
use lib.Dec.{lit≤}
use borrow.Author.Rules.{rules}
use Rattle.inverse_lifting.proofs.Chain.{ask_u2, ask_p2, ask_u1, ask_p1, took_one, took_two, took_all}
use Rattle.inverse_lifting.proofs.end_step.Goals as goal

pub on_low-u2-requires : goal.on_low-u2-requires
on_low-u2-requires c = (ask_u2 c.requires.ready, lit≤ tt)

pub returns-then-p-eq0 : goal.returns-then-p-eq0
returns-then-p-eq0 c = took_one c.requires.ready c.on_low-u2.ensures (omega arith) (search rules) (search rules)

pub on_high-p2-requires : goal.on_high-p2-requires
on_high-p2-requires c = (ask_p2 c.requires.ready c.on_low-u2.ensures (omega arith), lit≤ tt)

pub on_low-u1-requires : goal.on_low-u1-requires
on_low-u1-requires c = (ask_u1 c.requires.ready c.on_low-u2.ensures (omega arith) c.on_high-p2.ensures, lit≤ tt)

pub returns-then-p-eq1 : goal.returns-then-p-eq1
returns-then-p-eq1 c = took_two c.requires.ready c.on_low-u2.ensures (omega arith) c.on_high-p2.ensures c.on_low-u1.ensures (omega arith) (search rules) (search rules) (search rules) (search rules)

pub on_high-p1-requires : goal.on_high-p1-requires
on_high-p1-requires c = (ask_p1 c.requires.ready c.on_low-u2.ensures (omega arith) c.on_high-p2.ensures c.on_low-u1.ensures (omega arith), lit≤ tt)

pub returns : goal.returns
returns c = took_all c.requires.ready c.on_low-u2.ensures (omega arith) c.on_high-p2.ensures c.on_low-u1.ensures (omega arith) c.on_high-p1.ensures (search rules) (search rules) (search rules) (search rules) (search rules) (search rules)

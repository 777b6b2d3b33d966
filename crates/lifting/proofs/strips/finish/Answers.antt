-- `lifting::strips::finish` meets its contract: in each arm the kernel is the one that the arm works by.
use mathlib.Core.Path.{sym, subst}
use lib.Dec.{T}
use Rattle.lifting.specs.declared.Kernel.{Kernel}
use Rattle.slices.specs.Patch.{at}
use Rattle.lifting.specs.Kernels.{forwards}
use Rattle.lifting.specs.Strips.{Ready, Finished}
use Rattle.lifting.proofs.strips.finish.Goals as goal

pub finish_one-requires : goal.finish_one-requires
finish_one-requires c =
    record { strip_room = c.requires.strip_room.0; ready = subst (λ (k : Kernel). Ready k c.args.part.w c.args.part.h (at c.args.buffer.now)) c.in-One.is c.requires.ready }

pub finish_two-requires : goal.finish_two-requires
finish_two-requires c =
    record { strip_room = c.requires.strip_room.0; ready = subst (λ (k : Kernel). Ready k c.args.part.w c.args.part.h (at c.args.buffer.now)) c.in-Two.is c.requires.ready }

pub returns-in-One : goal.returns-in-One
returns-in-One c =
    subst (λ (k : Kernel). Finished k c.args.part.stride c.args.part.from c.args.part.w c.args.part.h (at c.args.buffer.now) (at c.args.plane.now) (at c.finish_one.new.plane)) (sym c.in-One.is) c.finish_one.ensures

pub returns-in-Two : goal.returns-in-Two
returns-in-Two c =
    subst (λ (k : Kernel). Finished k c.args.part.stride c.args.part.from c.args.part.w c.args.part.h (at c.args.buffer.now) (at c.args.plane.now) (at c.finish_two.new.plane)) (sym c.in-Two.is) c.finish_two.ensures

pub returns-in-Inverse : goal.returns-in-Inverse
returns-in-Inverse c line held = absurd (subst (λ (k : Kernel). T (forwards k)) c.in-Inverse.is c.requires.strip_room.1)

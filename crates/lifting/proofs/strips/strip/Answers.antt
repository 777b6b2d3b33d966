-- `lifting::strips::strip` meets its contract: in each arm the kernel is the one that the arm works by.
use mathlib.Core.Path.{sym, ap, subst, ◌∙◌}
use Rattle.lifting.specs.declared.Kernel.{Kernel}
use Rattle.slices.specs.Patch.{at}
use Rattle.lifting.specs.Kernels.{Forward, SafeKernel, columns_worked}
use Rattle.slices.specs.Parts.{column_of}
use Rattle.lifting.proofs.strips.strip.Goals as goal

pub strip_inverse-requires-clause-by_index : goal.strip_inverse-requires-clause-by_index
strip_inverse-requires-clause-by_index c j h =
    subst (λ (k : Kernel). SafeKernel k c.args.part.h (column_of c.args.part.stride c.args.part.from (at c.args.plane.now) j)) c.in-Inverse.is (c.requires.by_index j h)

pub returns-in-Inverse : goal.returns-in-Inverse
returns-in-Inverse c =
    c.strip_inverse.ensures ∙ ap (λ (k : Kernel). columns_worked k c.args.part.stride c.args.part.from c.args.part.w c.args.part.h (at c.args.plane.now)) (sym c.in-Inverse.is)

pub strip_forward-requires-clause-strip_room : goal.strip_forward-requires-clause-strip_room
strip_forward-requires-clause-strip_room c = (c.requires.strip_room, subst Forward (sym c.in-One.is) tt)

pub strip_forward-requires-in-Two-clause-strip_room : goal.strip_forward-requires-in-Two-clause-strip_room
strip_forward-requires-in-Two-clause-strip_room c = (c.requires.strip_room, subst Forward (sym c.in-Two.is) tt)

-- `lifting::buffers::copy_pair` meets its contract.
use mathlib.Core.Path.{ap, ◌∙◌}
use Prim.Native.Nat.{◌+◌}
use lib.IntN.{pos}
use Rattle.slices.specs.Patch.{at, patch}
use Rattle.lifting.proofs.buffers.copy_pair.Goals as goal

pub returns : goal.returns
returns c =
    let a = c.args in
    c.copy_run-2.ensures (pos 0) ∙ ap (patch a.d a.m (λ j. at a.src.now (a.b + j))) (c.copy_run.ensures (pos 0))

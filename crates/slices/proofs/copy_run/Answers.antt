-- `slices::copy_run` meets its contract. The loop's invariant: the first j elements are there.
use Rattle.std.proofs.Common.{refl, arith, ◌+◌, length-set, ◌∙◌}
use Rattle.std.proofs.lemmas.List.{get_or_read_under}
use Rattle.slices.specs.Patch.{patch_none, patch_set, patch_to}
use Rattle.slices.proofs.copy_run.Goals as goal

pub loop-j-init : goal.loop-j-init
loop-j-init g c = (omega arith, refl, λ d. patch_none _ 0 _ _ refl)

pub loop-j-preserved : goal.loop-j-preserved
loop-j-preserved g c = (
  omega arith,
  length-set _ _ _ ∙ c.loop-j.invariant.1,
  λ d. patch_set c.args.to c.loop-j.j _ _ c.loop-j.dst d (c.loop-j.invariant.2 d) (omega arith) _
      (get_or_read_under c.args.src.now (c.args.from + c.loop-j.j) _ _ d c.index-src-from.is (omega arith) refl),
)

pub returns : goal.returns
returns g c d = patch_to _ _ _ _ _ _ (c.loop-j.invariant.2 d) (omega arith)

-- `viewing::show_row` meets its contract: the places passed hold their pixels.
use Rattle.std.proofs.Common.{◌+◌, ◌-◌, arith}
use Rattle.slices.specs.Patch.{patch_part, patch_to}
use Rattle.viewing.proofs.show_row.Goals as goal

pub returns : goal.returns
returns c =
    let a = c.args in
    let t = c.loop-i in
    patch_to _ _ _ _ _ _ (patch_part a.from (a.from + a.n - a.from) _ a.pixels.now t.p-items 0 (omega arith) (omega arith) (λ j h. t.invariant j (omega arith))) (omega arith)

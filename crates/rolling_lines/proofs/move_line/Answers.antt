-- `rolling_lines::move_line` meets its contract.
use Rattle.std.proofs.Common.{◌+◌, ◌*◌, ℕ, pos, ap, arith, ◌∙◌}
use Rattle.slices.specs.Patch.{at, patch_is}
use Rattle.rolling_lines.specs.Memory.{set_line}
use Rattle.rolling_lines.proofs.move_line.Goals as goal

pub returns : goal.returns
unfolding set_line
returns c =
    let a = c.args in
    let t = a.to * a.w in
    let (inside, below, above) = c.copy_within.ensures.by_index in
    patch_is t a.w _ _ _ (λ k h. below k (pos 0) h)
    (λ j h. inside (t + j) (pos 0) (omega arith) (omega arith) ∙ ap (λ (k : ℕ). at a.held.now (a.from * a.w + k)) (omega arith))
    (λ k h. above k (pos 0) (omega arith))

-- `lifting::steps::product` meets its contract.
use mathlib.Core.Path.{◌≡◌, ap, ◌∙◌}
use Prim.Native.Nat.{ℕ, ◌+◌, ◌*◌}
use native.Mathlib.Omega.{arith}
use mir.Syntax.{w32}
use mir.Facts.{to_z-of_z}
use Rattle.lifting.specs.Steps.{signed_sum}
use Rattle.slices.specs.Biased.{biased}
use Rattle.lifting.specs.Bias.{fused_small, fused_most}
use Rattle.slices.specs.SignedRuns.{got}
use Rattle.lifting.proofs.steps.product.Goals as goal

pub fused-requires : goal.fused-requires
fused-requires c = fused_small c.args.c c.bias.result c.args.offset 4611686018427387904 c.bias.type_inv c.requires.2 (omega (arith, c.requires.1))

pub returns : goal.returns
returns c =
    let sum : c.bias.result ≡ biased (signed_sum c.args.down c.args.x c.args.y) =
    c.bias.ensures ∙ ap biased (got w32 c.signed_sum.type_inv (c.signed_sum.ensures ∙ (λ u. signed_sum c.args.down (to_z-of_z c.ranges.x u) (to_z-of_z c.ranges.y u)))) in (
      c.fused.ensures ∙ ap (λ (n : ℕ). c.args.c * n + c.args.offset) sum,
      omega (arith, c.fused.ensures, fused_most c.args.c c.bias.result c.args.offset c.bias.type_inv, c.requires.1, c.requires.2),
    )

use mathlib.Core.Path.{ap}
use Prim.Native.Nat.{ℕ, ◌+◌, ◌-◌, ◌^◌}
use native.Mathlib.Omega.{arith}
use lib.IntN.{ℤ, pos, ◌*ℤ◌}
use Rattle.width_table.specs.Numbered.{node_of}
use Rattle.fixed_stages.specs.Steps.{step_top}
use Rattle.fixed_stages.specs.SafeLaws.{constant_scaled_up}
use Rattle.fixed_stages.proofs.Read.{got, fits_at}
use Rattle.fixed_stages.proofs.stage.Goals as goal

pub step_of-requires : goal.step_of-requires
step_of-requires c =
    let a = c.args in
    let constant = got c.nearest_at.type_inv c.nearest_at.ensures in
    let top : ℕ = step_top a.bits a.sides a.own a.kept in record {
      constant_bits = (c.requires.1, c.requires.2, c.requires.3, c.requires.4);
      sfits = fits_at (ap (λ (z : ℤ). z *ℤ pos (2 ^ (top - (a.bits + a.sides)))) constant) (constant_scaled_up (node_of a.node) a.bits a.sides top c.requires.1 (omega arith) (omega arith));
    }

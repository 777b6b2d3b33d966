use Prim.Native.Nat.{ℕ, ◌+◌, ◌*◌, ◌-◌}
use mathlib.Core.Path.{◌≡◌, ◌∙◌, ap}
use native.Mathlib.Omega.{arith}
use lib.ListN.{get_or}
use Rattle.width_table.specs.Limits.{form_levels}
use Rattle.precision.specs.JudgeLaws.{constant_at, integer_at, fraction_at}
use Rattle.precision.proofs.PassAt.widths.Goals as goal

pub node_place-at-requires : goal.node_place-at-requires
node_place-at-requires c =
    let h = c.args.self.now.place in
    omega (arith, h.level_from, h.level_to, h.pass, form_levels c.args.self.now.table.now h.form)

pub returns : goal.returns
returns c =
    let h = c.args.self.now.place in
    let at = c.node_place-at.result in
    let is = c.node_place-at.ensures.0 in
    let read = c.loop-k.invariant in
    record {
      place = h;
      constant = λ k i. constant_at h k i;
      integer = λ k i. read.integer (k - 1) (omega arith) ∙ integer_at h k i (at + 2 * (k - 1)) (omega (arith, is));
      fraction = λ k i.
          let e : k ≡ k - 1 + 1 = omega arith in
          ap (λ (k : ℕ). get_or c.loop-k.fractions k 0) e ∙ read.fraction (k - 1) (omega arith) ∙ fraction_at h k i (at + 2 * (k - 1) + 1) (omega (arith, is));
      input = read.input;
      product = c.products.ensures;
    }

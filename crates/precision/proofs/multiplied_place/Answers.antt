use Prim.Native.Nat.{◌-◌}
use mathlib.Core.Bool.{Bool, true, false}
use mathlib.Core.Path.{sym, ap}
use borrow.Author.Tests.{ne_eqb}
use Rattle.width_table.specs.Nodes.{P2, G2, node_number}
use Rattle.precision.specs.Places.{multiplied}
use Rattle.precision.proofs.multiplied_place.Goals as goal

pub returns-then-node-eq-G2 : goal.returns-then-node-eq-G2
returns-then-node-eq-G2 c = sym (ap multiplied c.if-node-eq-G2.true)

pub returns-else-node-eq-G2 : goal.returns-else-node-eq-G2
returns-else-node-eq-G2 c = sym (ap (λ (t : Bool). elim t [ true ↦ node_number P2 | false ↦ c.args.node - 1 ]) (ne_eqb c.args.node (node_number G2) c.if-node-eq-G2.false))

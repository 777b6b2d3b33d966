use Prim.Native.Nat.{◌*◌, ◌/◌, ◌%◌, ◌≤◌}
use native.Mathlib.Omega.{arith}
use Rattle.bounds_rule.specs.Carried.{most_carried, most_gain}
use Rattle.bounds_rule.specs.CarriedLaws.{product_most, times_split}
use Rattle.bounds_rule.proofs.times_gain.Goals as goal

-- the wholes and the rest, times the gain
wholes : (c : goal.Start) → c.args.x / 65536 * c.args.gain ≤ most_carried / 65536 * most_gain
wholes c = product_most (most_carried / 65536) most_gain (c.args.x / 65536) c.args.gain (omega arith) c.requires.1

rest : (c : goal.Start) → c.args.x % 65536 * c.args.gain ≤ 65535 * most_gain
rest c = product_most 65535 most_gain (c.args.x % 65536) c.args.gain (omega arith) c.requires.1

pub overflow_mul-result : goal.overflow_mul-result
overflow_mul-result c = omega (arith, wholes c)

pub overflow_mul-result-2 : goal.overflow_mul-result-2
overflow_mul-result-2 c = omega (arith, rest c)

pub overflow_add-result : goal.overflow_add-result
overflow_add-result c = omega (arith, rest c)

pub overflow_add-result-2 : goal.overflow_add-result-2
overflow_add-result-2 c = omega (arith, wholes c, rest c)

pub returns : goal.returns
returns c = times_split c.args.x c.args.gain
